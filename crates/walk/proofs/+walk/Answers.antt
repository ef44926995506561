use mathlib.Core.Path.{◌∙◌}
use borrow.Author.Rules.{rules}
use borrow.Author.Tests.{ne_eqb}
use Rattle.record.specs.Runs.{runs_done, stops_refuse, then, then_stops, stops, after, after_rules, type_is, type_refused, rule_done, rule_refused, typed_type, typed_refused, ruled_done}
use Rattle.rules.specs.Exits.{exit, exit_rule}
use Rattle.walk.specs.Walk.{block_at_lem, index_of, lambda_body, rest, tail, two, typeck_assign, typeck_block, typeck_branches, typeck_call, typeck_else, typeck_expr_bin_op, typeck_expr_field, typeck_expr_if, typeck_expr_index, typeck_expr_list, typeck_expr_meth_call, typeck_expr_un_op, typeck_lambda, typeck_local, typeck_loop, typeck_op_assign, typeck_return, typeck_stmt, verify_arguments_for_call, verify_arguments_for_method_call}
use Rattle.walk.proofs.Laws.{args_first, args_last, args_next, args_refused, args_stop, elements_first, elements-last, elements_next, elements_refused, elements_stop, stmts_first, stmts_last, stmts_next, stmts_stop, exit_pair, pair_types, pair_refused, element_is, element_not, callee_is, callee_not, method_is, method_not, absent, rule_by, rule_none, expr_none, expr_written}
use Rattle.walk.proofs.+walk.Goals as goal

pub args-loop-i-init : goal.args-loop-i-init
args-loop-i-init t c = (args_first _ _ _ _ _ _ _, search rules)

pub args-loop-i-preserved : goal.args-loop-i-preserved
args-loop-i-preserved t c = (args_next _ _ _ _ _ _ _ _ _ _ c.loop-i-test.true c.item.ensures c.loop-i.invariant.0 _ (type_is c.in_ok-g.was c.expr.ensures) (rule_done c.in_ok-d.was (rw (c.from.ensures, c.from-in-loop-i.ensures) at c.argument.ensures)), c.argument.auto.m ∙ c.expr.auto.m ∙ c.loop-i.invariant.1)

pub args-returns-in_err-g : goal.args-returns-in_err-g
args-returns-in_err-g t c = exit_rule c.in_err-g.was _ c.from_residual.ensures (args_stop _ _ _ _ _ _ _ _ _ _ c.loop-i-test.true c.item.ensures c.loop-i.invariant.0 _ _ (type_refused c.in_err-g.was c.expr.ensures))

pub args-returns-in_err-d : goal.args-returns-in_err-d
args-returns-in_err-d t c = exit_rule c.in_err-d.was _ c.from_residual-in_err-d.ensures (args_refused _ _ _ _ _ _ _ _ _ _ c.loop-i-test.true c.item.ensures c.loop-i.invariant.0 _ _ _ (type_is c.in_ok-g.was c.expr.ensures) (rule_refused c.in_err-d.was (rw (c.from.ensures, c.from-in-loop-i.ensures) at c.argument.ensures)))

pub args-returns : goal.args-returns
args-returns t c = ruled_done (args_last _ _ _ _ _ _ _ _ _ c.loop-i-test.false c.loop-i.invariant.0)

pub assign-returns : goal.assign-returns
unfolding typeck_assign
assign-returns t c = after _ (pair_types c.in_ok-d.was c.two.ensures) c.assign.ensures

pub assign-returns-in_err-d : goal.assign-returns-in_err-d
unfolding typeck_assign
assign-returns-in_err-d t c = exit c.in_err-d.was _ c.from_residual.ensures (stops _ (pair_refused c.in_err-d.was c.two.ensures))

pub bin_op-returns : goal.bin_op-returns
unfolding typeck_expr_bin_op
bin_op-returns t c = after _ (pair_types c.in_ok-d.was c.two.ensures) c.bin_op.ensures

pub bin_op-returns-in_err-d : goal.bin_op-returns-in_err-d
unfolding typeck_expr_bin_op
bin_op-returns-in_err-d t c = exit c.in_err-d.was _ c.from_residual.ensures (stops _ (pair_refused c.in_err-d.was c.two.ensures))

pub block-returns-in-Some : goal.block-returns-in-Some
unfolding typeck_block tail
block-returns-in-Some t c = rw c.in-Some.is (after _ (rule_done c.in_ok-d.was c.stmts.ensures) c.expr.ensures)

pub block-returns-in-None : goal.block-returns-in-None
unfolding typeck_block tail
block-returns-in-None t c = rw c.in-None.is (typed_type (then _ (rule_done c.in_ok-d.was c.stmts.ensures) runs_done))

pub block-returns-in_err-d : goal.block-returns-in_err-d
unfolding typeck_block tail
block-returns-in_err-d t c = exit c.in_err-d.was _ c.from_residual.ensures (stops _ (rule_refused c.in_err-d.was c.stmts.ensures))

pub block_at-returns-in-Some : goal.block_at-returns-in-Some
unfolding block_at_lem
block_at-returns-in-Some t c = rw (← c.block_of.ensures, c.in-Some.is) c.block.ensures

pub block_at-returns-in-None : goal.block_at-returns-in-None
unfolding block_at_lem
block_at-returns-in-None t c = rw (← c.block_of.ensures, c.in-None.is) (typed_type runs_done)

pub call-returns-in-Ok : goal.call-returns-in-Ok
unfolding typeck_call
call-returns-in-Ok t c = after _ (type_is c.in_ok-d.was c.expr.ensures) (after _ (callee_is c.in-Ok.is c.callee.ensures) c.verify_call.ensures)

pub call-returns-in-Err : goal.call-returns-in-Err
unfolding typeck_call
call-returns-in-Err t c = typed_type (then _ (type_is c.in_ok-d.was c.expr.ensures) (then _ (callee_not c.in-Err.is c.callee.ensures) runs_done))

pub call-returns-in_err-d : goal.call-returns-in_err-d
unfolding typeck_call
call-returns-in_err-d t c = exit c.in_err-d.was _ c.from_residual.ensures (stops _ (type_refused c.in_err-d.was c.expr.ensures))

pub elements-loop-i-init : goal.elements-loop-i-init
elements-loop-i-init t c = (elements_first _ _ _ _ _, search rules)

pub elements-loop-i-preserved : goal.elements-loop-i-preserved
elements-loop-i-preserved t c = (elements_next _ _ _ _ _ _ _ _ c.loop-i-test.true c.item.ensures c.loop-i.invariant.0 _ (type_is c.in_ok-f.was c.expr.ensures) (rule_done c.in_ok-d.was c.element.ensures), c.element.auto.m ∙ c.expr.auto.m ∙ c.loop-i.invariant.1)

pub elements-returns-in_err-f : goal.elements-returns-in_err-f
elements-returns-in_err-f t c = exit_rule c.in_err-f.was _ c.from_residual.ensures (elements_stop _ _ _ _ _ _ _ _ c.loop-i-test.true c.item.ensures c.loop-i.invariant.0 _ _ (type_refused c.in_err-f.was c.expr.ensures))

pub elements-returns-in_err-d : goal.elements-returns-in_err-d
elements-returns-in_err-d t c = exit_rule c.in_err-d.was _ c.from_residual-in_err-d.ensures (elements_refused _ _ _ _ _ _ _ _ c.loop-i-test.true c.item.ensures c.loop-i.invariant.0 _ _ _ (type_is c.in_ok-f.was c.expr.ensures) (rule_refused c.in_err-d.was c.element.ensures))

pub elements-returns : goal.elements-returns
elements-returns t c = ruled_done (elements-last _ _ _ _ _ _ _ c.loop-i-test.false c.loop-i.invariant.0)

pub expr-returns-then-level-eq0 : goal.expr-returns-then-level-eq0
expr-returns-then-level-eq0 t c = typed_type (expr_none _ _ _ c.if-level-eq0.true)

pub expr-returns : goal.expr-returns
expr-returns t c = expr_written _ _ _ c.if-level-eq0.false c.rule-z.ensures c.write_down.ensures

pub field-returns : goal.field-returns
unfolding typeck_expr_field
field-returns t c = after _ (type_is c.in_ok-d.was c.expr.ensures) c.field.ensures

pub field-returns-in_err-d : goal.field-returns-in_err-d
unfolding typeck_expr_field
field-returns-in_err-d t c = exit c.in_err-d.was _ c.from_residual.ensures (stops _ (type_refused c.in_err-d.was c.expr.ensures))

pub if_else-returns : goal.if_else-returns
unfolding typeck_expr_if typeck_branches
if_else-returns t c = after _ (type_is c.in_ok-d.was c.expr.ensures) (after _ c.condition-f.ensures (after _ (type_is c.in_ok-g.was c.block_at.ensures) c.or_else.ensures))

pub if_else-returns-in_err-d : goal.if_else-returns-in_err-d
unfolding typeck_expr_if typeck_branches
if_else-returns-in_err-d t c = exit c.in_err-d.was _ c.from_residual.ensures (stops _ (type_refused c.in_err-d.was c.expr.ensures))

pub if_else-returns-in_err-g : goal.if_else-returns-in_err-g
unfolding typeck_expr_if typeck_branches
if_else-returns-in_err-g t c = exit c.in_err-g.was _ c.from_residual-in_err-g.ensures (then_stops _ (type_is c.in_ok-d.was c.expr.ensures) (then_stops _ c.condition-f.ensures (stops _ (type_refused c.in_err-g.was c.block_at.ensures))))

pub index-returns-in_ok-f-in-Ok : goal.index-returns-in_ok-f-in-Ok
unfolding typeck_expr_index index_of
index-returns-in_ok-f-in-Ok t c = after _ (type_is c.in_ok-d.was c.expr.ensures) (after _ (element_is c.in-Ok.is c.element_of.ensures) (after _ (type_is c.in_ok-f-in-Ok.was c.expr-in-Ok.ensures) c.index.ensures))

pub index-returns-in_err-d : goal.index-returns-in_err-d
unfolding typeck_expr_index index_of
index-returns-in_err-d t c = exit c.in_err-d.was _ c.from_residual.ensures (stops _ (type_refused c.in_err-d.was c.expr.ensures))

pub index-returns-in_err-f-in-Ok : goal.index-returns-in_err-f-in-Ok
unfolding typeck_expr_index index_of
index-returns-in_err-f-in-Ok t c = exit c.in_err-f-in-Ok.was _ c.from_residual-in_err-f-in-Ok.ensures (then_stops _ (type_is c.in_ok-d.was c.expr.ensures) (then_stops _ (element_is c.in-Ok.is c.element_of.ensures) (stops _ (type_refused c.in_err-f-in-Ok.was c.expr-in-Ok.ensures))))

pub index-returns-in-Err : goal.index-returns-in-Err
unfolding typeck_expr_index index_of
index-returns-in-Err t c = typed_type (then _ (type_is c.in_ok-d.was c.expr.ensures) (then _ (element_not c.in-Err.is c.element_of.ensures) runs_done))

pub lambda-returns : goal.lambda-returns
unfolding typeck_lambda lambda_body
lambda-returns t c = after _ c.lambda_params-d.ensures (after _ c.lambda_output-r.ensures (after _ (type_is c.in_ok-e.was c.expr.ensures) c.lambda.ensures))

pub lambda-returns-in_err-e : goal.lambda-returns-in_err-e
unfolding typeck_lambda lambda_body
lambda-returns-in_err-e t c = exit c.in_err-e.was _ c.from_residual.ensures (then_stops _ c.lambda_params-d.ensures (then_stops _ c.lambda_output-r.ensures (stops _ (type_refused c.in_err-e.was c.expr.ensures))))

pub list-returns-then-t-eq0 : goal.list-returns-then-t-eq0
unfolding typeck_expr_list
list-returns-then-t-eq0 t c = rw c.if-t-eq0.true c.empty_list.ensures

pub list-returns : goal.list-returns
unfolding typeck_expr_list rest
list-returns t c = rw (ne_eqb _ 0 c.if-t-eq0.false, ← c.item.ensures) (after _ (type_is c.in_ok-d.was c.expr.ensures) (after _ (rule_done c.in_ok-e.was c.elements.ensures) c.list_of.ensures))

pub list-returns-in_err-d : goal.list-returns-in_err-d
unfolding typeck_expr_list rest
list-returns-in_err-d t c = rw (ne_eqb _ 0 c.if-t-eq0.false, ← c.item.ensures) (exit c.in_err-d.was _ c.from_residual.ensures (stops _ (type_refused c.in_err-d.was c.expr.ensures)))

pub list-returns-in_err-e : goal.list-returns-in_err-e
unfolding typeck_expr_list rest
list-returns-in_err-e t c = rw (ne_eqb _ 0 c.if-t-eq0.false, ← c.item.ensures) (exit c.in_err-e.was _ c.from_residual-in_err-e.ensures (then_stops _ (type_is c.in_ok-d.was c.expr.ensures) (stops _ (rule_refused c.in_err-e.was c.elements.ensures))))

pub local-returns-in_default : goal.local-returns-in_default
unfolding typeck_local
local-returns-in_default t c = rw (absent _ c.in_default.not-Some) c.let_without_init.ensures

pub local-returns : goal.local-returns
unfolding typeck_local
local-returns t c = rw c.in-Some.is (after_rules _ (type_is c.in_ok-d.was c.expr.ensures) c.let_with_init.ensures)

pub local-returns-in_err-d : goal.local-returns-in_err-d
unfolding typeck_local
local-returns-in_err-d t c = rw c.in-Some.is (exit_rule c.in_err-d.was _ c.from_residual.ensures (stops _ (type_refused c.in_err-d.was c.expr.ensures)))

pub method_call-returns-in-Ok : goal.method_call-returns-in-Ok
unfolding typeck_expr_meth_call
method_call-returns-in-Ok t c = after _ (type_is c.in_ok-d.was c.expr.ensures) (after _ (method_is c.in-Ok.is c.method_of.ensures) c.verify_method_call.ensures)

pub method_call-returns-in-Err : goal.method_call-returns-in-Err
unfolding typeck_expr_meth_call
method_call-returns-in-Err t c = typed_type (then _ (type_is c.in_ok-d.was c.expr.ensures) (then _ (method_not c.in-Err.is c.method_of.ensures) runs_done))

pub method_call-returns-in_err-d : goal.method_call-returns-in_err-d
unfolding typeck_expr_meth_call
method_call-returns-in_err-d t c = exit c.in_err-d.was _ c.from_residual.ensures (stops _ (type_refused c.in_err-d.was c.expr.ensures))

pub op_assign-returns : goal.op_assign-returns
unfolding typeck_op_assign
op_assign-returns t c = after _ (pair_types c.in_ok-d.was c.two.ensures) c.op_assign.ensures

pub op_assign-returns-in_err-d : goal.op_assign-returns-in_err-d
unfolding typeck_op_assign
op_assign-returns-in_err-d t c = exit c.in_err-d.was _ c.from_residual.ensures (stops _ (pair_refused c.in_err-d.was c.two.ensures))

pub or_else-returns-in_default : goal.or_else-returns-in_default
unfolding typeck_else
or_else-returns-in_default t c = rw (absent _ c.in_default.not-Some) (typed_type runs_done)

pub or_else-returns : goal.or_else-returns
unfolding typeck_else
or_else-returns t c = rw c.in-Some.is (after _ (type_is c.in_ok-d.was c.expr.ensures) c.branches.ensures)

pub or_else-returns-in_err-d : goal.or_else-returns-in_err-d
unfolding typeck_else
or_else-returns-in_err-d t c = rw c.in-Some.is (exit c.in_err-d.was _ c.from_residual.ensures (stops _ (type_refused c.in_err-d.was c.expr.ensures)))

pub repeat-returns : goal.repeat-returns
unfolding typeck_loop
repeat-returns t c = typed_type (then _ (type_is c.in_ok-d.was c.block_at.ensures) runs_done)

pub repeat-returns-in_err-d : goal.repeat-returns-in_err-d
unfolding typeck_loop
repeat-returns-in_err-d t c = exit c.in_err-d.was _ c.from_residual.ensures (stops _ (type_refused c.in_err-d.was c.block_at.ensures))

pub returned-returns-in_default : goal.returned-returns-in_default
unfolding typeck_return
returned-returns-in_default t c = rw (absent _ c.in_default.not-Some) c.returned.ensures

pub returned-returns : goal.returned-returns
unfolding typeck_return
returned-returns t c = rw c.in-Some.is (after _ (type_is c.in_ok-d.was c.expr.ensures) c.returned-2.ensures)

pub returned-returns-in_err-d : goal.returned-returns-in_err-d
unfolding typeck_return
returned-returns-in_err-d t c = rw c.in-Some.is (exit c.in_err-d.was _ c.from_residual.ensures (stops _ (type_refused c.in_err-d.was c.expr.ensures)))

pub rule-returns-in-Bool : goal.rule-returns-in-Bool
rule-returns-in-Bool t c = rule_by _ _ _ _ _ c.view.ensures c.in-Bool.is (typed_type runs_done)

pub rule-returns-in-Int : goal.rule-returns-in-Int
rule-returns-in-Int t c = rule_by _ _ _ _ _ c.view.ensures c.in-Int.is c.literal.ensures

pub rule-returns-in-Float : goal.rule-returns-in-Float
rule-returns-in-Float t c = rule_by _ _ _ _ _ c.view.ensures c.in-Float.is c.literal-in-Float.ensures

pub rule-returns-in-Str : goal.rule-returns-in-Str
rule-returns-in-Str t c = rule_by _ _ _ _ _ c.view.ensures c.in-Str.is (typed_refused stops_refuse)

pub rule-returns-in-Bin : goal.rule-returns-in-Bin
rule-returns-in-Bin t c = rule_by _ _ _ _ _ c.view.ensures c.in-Bin.is c.bin_op.ensures

pub rule-returns-in-Un : goal.rule-returns-in-Un
rule-returns-in-Un t c = rule_by _ _ _ _ _ c.view.ensures c.in-Un.is c.un_op.ensures

pub rule-returns-in-Field : goal.rule-returns-in-Field
rule-returns-in-Field t c = rule_by _ _ _ _ _ c.view.ensures c.in-Field.is c.field.ensures

pub rule-returns-in-List : goal.rule-returns-in-List
rule-returns-in-List t c = rule_by _ _ _ _ _ c.view.ensures c.in-List.is c.list.ensures

pub rule-returns-in-Index : goal.rule-returns-in-Index
rule-returns-in-Index t c = rule_by _ _ _ _ _ c.view.ensures c.in-Index.is c.index.ensures

pub rule-returns-in-Assign : goal.rule-returns-in-Assign
rule-returns-in-Assign t c = rule_by _ _ _ _ _ c.view.ensures c.in-Assign.is c.assign.ensures

pub rule-returns-in-OpAssign : goal.rule-returns-in-OpAssign
rule-returns-in-OpAssign t c = rule_by _ _ _ _ _ c.view.ensures c.in-OpAssign.is c.op_assign.ensures

pub rule-returns-in-If : goal.rule-returns-in-If
rule-returns-in-If t c = rule_by _ _ _ _ _ c.view.ensures c.in-If.is c.if_else.ensures

pub rule-returns-in-Loop : goal.rule-returns-in-Loop
rule-returns-in-Loop t c = rule_by _ _ _ _ _ c.view.ensures c.in-Loop.is c.repeat.ensures

pub rule-returns-in-Break : goal.rule-returns-in-Break
rule-returns-in-Break t c = rule_by _ _ _ _ _ c.view.ensures c.in-Break.is (typed_type runs_done)

pub rule-returns-in-Call : goal.rule-returns-in-Call
rule-returns-in-Call t c = rule_by _ _ _ _ _ c.view.ensures c.in-Call.is c.call.ensures

pub rule-returns-in-MethodCall : goal.rule-returns-in-MethodCall
rule-returns-in-MethodCall t c = rule_by _ _ _ _ _ c.view.ensures c.in-MethodCall.is c.method_call.ensures

pub rule-returns-in-Return : goal.rule-returns-in-Return
rule-returns-in-Return t c = rule_by _ _ _ _ _ c.view.ensures c.in-Return.is c.returned.ensures

pub rule-returns-in-Block : goal.rule-returns-in-Block
rule-returns-in-Block t c = rule_by _ _ _ _ _ c.view.ensures c.in-Block.is c.block.ensures

pub rule-returns-in-Let : goal.rule-returns-in-Let
rule-returns-in-Let t c = rule_none _ _ _ _ c.view.ensures c.in-Let.is

pub rule-returns-in-Lambda : goal.rule-returns-in-Lambda
rule-returns-in-Lambda t c = rule_by _ _ _ _ _ c.view.ensures c.in-Lambda.is c.lambda.ensures

pub rule-returns-in-Path : goal.rule-returns-in-Path
rule-returns-in-Path t c = rule_by _ _ _ _ _ c.view.ensures c.in-Path.is c.path.ensures

pub stmt-returns-in-Some : goal.stmt-returns-in-Some
unfolding typeck_stmt
stmt-returns-in-Some t c = rw (← c.let_of.ensures, c.in-Some.is) c.local.ensures

pub stmt-returns-in_ok-d-in-None : goal.stmt-returns-in_ok-d-in-None
unfolding typeck_stmt
stmt-returns-in_ok-d-in-None t c = rw (← c.let_of.ensures, c.in-None.is) (ruled_done (then _ (type_is c.in_ok-d-in-None.was c.expr.ensures) runs_done))

pub stmt-returns-in_err-d-in-None : goal.stmt-returns-in_err-d-in-None
unfolding typeck_stmt
stmt-returns-in_err-d-in-None t c = rw (← c.let_of.ensures, c.in-None.is) (exit_rule c.in_err-d-in-None.was _ c.from_residual.ensures (stops _ (type_refused c.in_err-d-in-None.was c.expr.ensures)))

pub stmts-loop-i-init : goal.stmts-loop-i-init
stmts-loop-i-init t c = (stmts_first _ _ _, search rules)

pub stmts-loop-i-preserved : goal.stmts-loop-i-preserved
stmts-loop-i-preserved t c = (stmts_next _ _ _ _ _ _ c.loop-i-test.true c.item.ensures c.loop-i.invariant.0 (rule_done c.in_ok-d.was c.stmt.ensures), c.stmt.auto.m ∙ c.loop-i.invariant.1)

pub stmts-returns-in_err-d : goal.stmts-returns-in_err-d
stmts-returns-in_err-d t c = exit_rule c.in_err-d.was _ c.from_residual.ensures (stmts_stop _ _ _ _ _ _ c.loop-i-test.true c.item.ensures c.loop-i.invariant.0 _ _ (rule_refused c.in_err-d.was c.stmt.ensures))

pub stmts-returns : goal.stmts-returns
stmts-returns t c = ruled_done (stmts_last _ _ _ _ _ c.loop-i-test.false c.loop-i.invariant.0)

pub two-returns : goal.two-returns
unfolding two
two-returns t c = record { by = then _ (type_is c.in_ok-d.was c.expr.ensures) (then _ (type_is c.in_ok-e.was c.expr-2.ensures) runs_done) }

pub two-returns-in_err-d : goal.two-returns-in_err-d
unfolding two
two-returns-in_err-d t c = exit_pair c.in_err-d.was _ c.from_residual.ensures (stops _ (type_refused c.in_err-d.was c.expr.ensures))

pub two-returns-in_err-e : goal.two-returns-in_err-e
unfolding two
two-returns-in_err-e t c = exit_pair c.in_err-e.was _ c.from_residual-in_err-e.ensures (then_stops _ (type_is c.in_ok-d.was c.expr.ensures) (stops _ (type_refused c.in_err-e.was c.expr-2.ensures)))

pub un_op-returns : goal.un_op-returns
unfolding typeck_expr_un_op
un_op-returns t c = after _ (type_is c.in_ok-d.was c.expr.ensures) c.un_op.ensures

pub un_op-returns-in_err-d : goal.un_op-returns-in_err-d
unfolding typeck_expr_un_op
un_op-returns-in_err-d t c = exit c.in_err-d.was _ c.from_residual.ensures (stops _ (type_refused c.in_err-d.was c.expr.ensures))

pub verify_call-returns : goal.verify_call-returns
unfolding verify_arguments_for_call
verify_call-returns t c = typed_type (then _ (rw c.from.ensures at c.amounts-d.ensures) (then _ (rule_done c.in_ok-e.was c.args-2.ensures) runs_done))

pub verify_call-returns-in_err-e : goal.verify_call-returns-in_err-e
unfolding verify_arguments_for_call
verify_call-returns-in_err-e t c = exit c.in_err-e.was _ c.from_residual.ensures (then_stops _ (rw c.from.ensures at c.amounts-d.ensures) (stops _ (rule_refused c.in_err-e.was c.args-2.ensures)))

pub verify_method_call-returns : goal.verify_method_call-returns
unfolding verify_arguments_for_method_call
verify_method_call-returns t c = typed_type (rw c.output.ensures (then _ (rw c.from.ensures at c.amounts-d.ensures) (then _ (rule_done c.in_ok-e.was c.argument.ensures) (then _ (rule_done c.in_ok-g.was c.args-2.ensures) runs_done))))

pub verify_method_call-returns-in_err-e : goal.verify_method_call-returns-in_err-e
unfolding verify_arguments_for_method_call
verify_method_call-returns-in_err-e t c = exit c.in_err-e.was _ c.from_residual.ensures (then_stops _ (rw c.from.ensures at c.amounts-d.ensures) (stops _ (rule_refused c.in_err-e.was c.argument.ensures)))

pub verify_method_call-returns-in_err-g : goal.verify_method_call-returns-in_err-g
unfolding verify_arguments_for_method_call
verify_method_call-returns-in_err-g t c = exit c.in_err-g.was _ c.from_residual-in_err-g.ensures (then_stops _ (rw c.from.ensures at c.amounts-d.ensures) (then_stops _ (rule_done c.in_ok-e.was c.argument.ensures) (stops _ (rule_refused c.in_err-g.was c.args-2.ensures))))
