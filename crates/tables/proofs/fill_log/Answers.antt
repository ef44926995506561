use Rattle.tables.proofs.LogLaws.{log_more, log_full, log_whole}
use mathlib.Core.Path.{refl, ◌∙◌}
use native.Mathlib.Omega.{arith}
use Rattle.tables.proofs.CellLaws.{cells_none}
use borrow.Author.Rules.{rules}
use Rattle.tables.proofs.fill_log.Goals as goal

pub loop-i-init : goal.loop-i-init
loop-i-init c = (cells_none _ _ _, refl, search rules)

pub shape_of-t-then-t-j : goal.shape_of-t-then-t-j
shape_of-t-then-t-j c = c.zero_from.auto.t ∙ c.loop-i.invariant.1

pub returns-then-t-j : goal.returns-then-t-j
returns-then-t-j c = log_full _ _ _ _ _ _ c.loop-i-test.true c.loop-i.invariant.2 c.if-t-j.true c.loop-i.invariant.1 c.loop-i.invariant.0 c.zero_from.ensures

pub loop-i-preserved : goal.loop-i-preserved
loop-i-preserved c = (log_more _ _ _ _ _ c.loop-i.invariant.0 c.equation_row.ensures, c.equation_row.auto.t ∙ c.loop-i.invariant.1, omega (arith, c.if-t-j.false, c.loop-i.invariant.1))

pub shape_of-t : goal.shape_of-t
shape_of-t c = c.zero_from-2.auto.t ∙ c.loop-i.invariant.1

pub returns : goal.returns
returns c = log_whole _ _ _ _ _ _ c.loop-i.auto.i-end c.loop-i-test.false c.loop-i.invariant.2 c.loop-i.invariant.0 c.zero_from-2.ensures
