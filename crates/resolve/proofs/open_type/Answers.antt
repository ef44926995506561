use Rattle.resolve.proofs.Laws.{open_float, open_integer, open_regular}
use Rattle.resolve.proofs.open_type.Goals as goal

pub returns-in-Integer : goal.returns-in-Integer
returns-in-Integer c = open_integer _ _ c.kind_of.ensures c.in-Integer.is

pub returns-in-Float : goal.returns-in-Float
returns-in-Float c = open_float _ _ c.kind_of.ensures c.in-Float.is

pub returns-in-Regular : goal.returns-in-Regular
returns-in-Regular c = open_regular _ _ c.kind_of.ensures _ c.origin.ensures c.in-Regular.is c.emit.ensures
