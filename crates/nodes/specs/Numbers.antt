-- How many numbers of fields and of items there are. Assumes nothing.
use Rattle.std.specs.Prelude.{◌≡◌, refl, List, ℕ, suc, zero, ◌+◌, length}
use Rattle.std.proofs.Common.{ap}
use Rattle.nodes.specs.declared.Items.{Items}
use Rattle.nodes.specs.Nodes.{numbers_from, items_of}

-- as many numbers as fields
pub length-numbers : (cells : List ℕ) (j k : ℕ) → length (numbers_from cells j k) ≡ k
unfolding numbers_from
length-numbers cells j zero = refl
length-numbers cells j (suc k) = ap suc (length-numbers cells (suc j) k)

-- as many numbers as items
pub length_items : (cells : List ℕ) (t : Items) → length (items_of cells t) ≡ t.count
length_items cells t = length-numbers cells (t.first + t.from) t.count
