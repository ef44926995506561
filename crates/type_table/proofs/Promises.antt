-- What `follow` promises of its end, which rests on a law of Reads. Assumes what the statement says.
use Rattle.std.specs.Prelude.{◌≡◌, List, ℕ, ◌<◌}
use Rattle.type_table.specs.declared.Counts.{Counts}
use Rattle.type_table.specs.View.{end_or, end_in}
use Rattle.type_table.specs.Sound.{Sound}
use Rattle.type_table.specs.Reads.{follow_same}

-- and it is the end of the bindings, not the row that stands for too many of them: any other row d for that, and any more steps k, give the same
pub follow_ends : {m : List ℕ} {c : Counts} → Sound m c → (x d k : ℕ) → c.types < k → end_or m c d k x ≡ end_in m c x
follow_ends = follow_same
