use Rattle.rules.proofs.Laws.{op_address}
use Rattle.rules.proofs.un_op.Goals as goal

pub returns-in-Deref : goal.returns-in-Deref
returns-in-Deref c = rw (c.in-Deref.is) (c.deref.ensures)

pub returns-in-Address : goal.returns-in-Address
returns-in-Address c = op_address _ _ _ (c.in-Address.is) (c.address.ensures)

pub returns-in-Negation : goal.returns-in-Negation
returns-in-Negation c = rw (c.in-Negation.is) (c.negation.ensures)

pub returns-in-Not : goal.returns-in-Not
returns-in-Not c = rw (c.in-Not.is) (c.not.ensures)
