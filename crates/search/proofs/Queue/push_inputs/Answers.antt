use mathlib.Core.Path.{◌≡◌, sym, ◌∙◌}
use Prim.Native.Nat.{◌-◌, ◌+◌}
use native.Mathlib.Omega.{arith}
use Rattle.search.proofs.SearchLaws.{inputs_more, inputs_end}
use Rattle.search.proofs.Queue.push_inputs.Goals as goal

pub loop-at-init : goal.loop-at-init
loop-at-init c = let e : c.args.r.first + c.args.r.count - c.args.r.first ≡ c.args.r.count = omega arith in rw e

pub loop-at-preserved : goal.loop-at-preserved
loop-at-preserved c = inputs_more _ _ _ _ _ _ _ _ (omega arith) c.input.ensures c.push.ensures ∙ c.loop-at.invariant

pub returns : goal.returns
returns c = sym (inputs_end _ (c.args.m.now) _ _ _ (omega arith)) ∙ c.loop-at.invariant
