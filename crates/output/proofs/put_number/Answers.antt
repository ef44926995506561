use Rattle.std.proofs.Common.{rules, refl, sym, append-nil}
use Rattle.output.proofs.OutputLaws.{digits_done, digits_more, digits_all}
use Rattle.output.proofs.put_number.Goals as goal

pub loop-at-init : goal.loop-at-init
loop-at-init c = (refl, (search rules, refl, sym (append-nil _)))

pub returns-then-rest-lt10 : goal.returns-then-rest-lt10
returns-then-rest-lt10 c = digits_done _ _ _ _ c.loop-at.invariant.1 c.loop-at-test.true c.if-rest-lt10.true c.loop-at.invariant.0 c.put_all.ensures

pub loop-at-preserved : goal.loop-at-preserved
loop-at-preserved c = (c.loop-at.invariant.0, digits_more _ _ _ _ c.loop-at.invariant.1 c.loop-at-test.true c.if-rest-lt10.false)

pub returns : goal.returns
returns c = digits_all _ _ _ _ c.loop-at.invariant.1 (search rules) c.loop-at.invariant.0 c.put_all-2.ensures
