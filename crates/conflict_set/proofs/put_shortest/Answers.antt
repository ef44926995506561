use Prim.Native.Nat.{ℕ}
use lib.ListN.{length-replicate}
use Rattle.conflict_set.specs.TextLaws.{shortest_law}
use Rattle.conflict_set.proofs.put_shortest.Goals as goal

pub returns : goal.returns
returns c = shortest_law _ _ _ _ _ _ _ _ _ _ _ _ _ _ _ _ _ _ (length-replicate {A = ℕ} 2048 0) (length-replicate {A = ℕ} 2048 0) (length-replicate {A = ℕ} 2048 0) (c.scan-k.ensures) (c.search-s.ensures) (c.put_searched.ensures)
