use Rattle.record.proofs.Cells.{nil_typed, nil_untyped}
use Rattle.record.proofs.type_or_nil.Goals as goal

pub returns-in-Some : goal.returns-in-Some
returns-in-Some c = nil_typed c.args.m.now c.args.n.0 _ _ c.node_type.ensures c.in-Some.is

pub returns-in-None : goal.returns-in-None
returns-in-None c = nil_untyped c.args.m.now c.args.n.0 _ c.node_type.ensures c.in-None.is
