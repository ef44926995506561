use Prim.Native.Nat.{ℕ}
use lib.ListN.{length-replicate}
use Rattle.conflict_set.specs.TextLaws.{put_law}
use Rattle.conflict_set.proofs.put_conflict.Goals as goal

pub returns : goal.returns
returns c = put_law _ _ _ _ _ _ _ _ _ _ _ _ _ (length-replicate {A = ℕ} 2048 0) (c.scan-k.ensures) (c.put_set-d.ensures) (c.written.ensures)
