use mathlib.Core.Path.{refl}
use Rattle.told.proofs.NumberLaws.{put_more, put-done}
use borrow.Author.Rules.{rules}
use Rattle.told.proofs.put_all.Goals as goal

pub loop-i-init : goal.loop-i-init
loop-i-init c = refl

pub loop-i-preserved : goal.loop-i-preserved
loop-i-preserved c = put_more _ _ _ c.args.xs c.loop-i.i (search rules) c.loop-i.invariant c.put.ensures

pub returns : goal.returns
returns c = put-done _ _ c.args.xs c.loop-i.i (search rules) c.loop-i.invariant
