use Rattle.resolve.proofs.Laws.{line_declared}
use Rattle.resolve.proofs.declare_type.Goals as goal

pub returns-in-Array : goal.returns-in-Array
returns-in-Array c = line_declared _ _ _ _ _ _ c.type_row.ensures c.in-Array.is c.array_of.ensures

pub returns-in-Fun : goal.returns-in-Fun
returns-in-Fun c = line_declared _ _ _ _ _ _ c.type_row.ensures c.in-Fun.is c.function.ensures

pub returns-in-Inst : goal.returns-in-Inst
returns-in-Inst c = line_declared _ _ _ _ _ _ c.type_row.ensures c.in-Inst.is c.instance.ensures

pub returns-in-Fn : goal.returns-in-Fn
returns-in-Fn c = line_declared _ _ _ _ _ _ c.type_row.ensures c.in-Fn.is c.fn_def.ensures
