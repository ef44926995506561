use Prim.Native.Nat.{◌<◌}
use Rattle.conflict_set.specs.SearchLaws.{first_law}
use borrow.Author.Rules.{rules}
use Rattle.conflict_set.proofs.tries.Goals as goal

pub tries_from-requires : goal.tries_from-requires
tries_from-requires c = let h : 0 < c.args.k = c.requires in search rules

pub returns : goal.returns
returns c = first_law _ _ _ _ _ _ _ _ _ _ _ _ _ (c.follow.ensures) (c.reopen.ensures) (c.tries_from.ensures)
