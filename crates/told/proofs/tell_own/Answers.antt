use Rattle.told.proofs.NumberLaws.{tell_own_law}
use Rattle.told.proofs.tell_own.Goals as goal

pub returns : goal.returns
returns c = tell_own_law _ _ _ _ (c.args.a) (c.args.n) _ (c.totals_of.ensures) (c.numbers-xs.ensures) (c.put_all.ensures)
