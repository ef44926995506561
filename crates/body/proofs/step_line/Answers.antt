use Rattle.std.proofs.Common.{rules, sym}
use Rattle.std.proofs.lemmas.Result.{err_from_is_err_and}
use Rattle.body.proofs.Laws.{no_equals, out_of_order, bad_value, good_value}
use Rattle.body.proofs.step_line.Goals as goal

pub returns-then-key-l-clause-rows_after : goal.returns-then-key-l-clause-rows_after
returns-then-key-l-clause-rows_after c = sym (search (rules, no_equals))

pub returns-then-not-in_order-clause-rows_after : goal.returns-then-not-in_order-clause-rows_after
returns-then-not-in_order-clause-rows_after c = sym (search (rules, out_of_order))

pub returns-in_err-f-clause-rows_after : goal.returns-in_err-f-clause-rows_after
returns-in_err-f-clause-rows_after c =
    let p = err_from_is_err_and c.from_residual.result c.from_residual.ensures.1 in
    rw (p.1, p.2) (sym (search (rules, bad_value)))

pub returns-clause-rows_after : goal.returns-clause-rows_after
returns-clause-rows_after c = sym (search (rules, good_value))
