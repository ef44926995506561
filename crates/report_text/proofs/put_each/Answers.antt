use Rattle.report_text.proofs.LineLaws.{each_none, each_next}
use Rattle.report_text.proofs.put_each.Goals as goal

pub loop-x-init : goal.loop-x-init
loop-x-init c = each_none c.args.t.now _ _

pub loop-x-preserved : goal.loop-x-preserved
loop-x-preserved c = each_next _ _ c.loop-x-test.true c.loop-x.invariant c.put_field-d.ensures
