use mathlib.Core.Path.{◌≡◌, refl, sym, ◌∙◌, subst}
use native.Mathlib.Omega.{arith}
use Rattle.errors.specs.Filling.{row-past}
use Rattle.errors.specs.Rows.{row_in, filled_to}
use Rattle.errors.proofs.Listed.{none_yet, one_more, all_filled}
use Rattle.errors.proofs.fill_errors.Goals as goal

pub loop-i-init : goal.loop-i-init
loop-i-init c = none_yet _ _

pub loop-i-preserved : goal.loop-i-preserved
loop-i-preserved c = one_more c.args.errors.now (row_in c.args.m.now c.args.n) c.loop-i.i _ _ _ c.loop-i.invariant c.error_row.ensures c.append_error.ensures

pub returns : goal.returns
returns c =
    let e : c.loop-i.i ≡ c.min-used.result = omega arith in
    all_filled c.args.errors.now _ _ (row_in c.args.m.now c.args.n) _ _ _ _ _ (λ i h l. c.no_error.ensures ∙ sym (row-past c.args.m.now c.args.n i (omega (arith, c.min-used.ensures)))) (rw e at c.loop-i.invariant) (omega (arith, c.min-used.ensures)) (c.min-stop.ensures) refl (c.fill.ensures.after (λ y h. h))
