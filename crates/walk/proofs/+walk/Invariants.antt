use Prim.Native.Nat.{◌+◌, ◌*◌, ◌-◌}
use mathlib.Core.Path.{◌≡◌}
use lib.ListN.{length}
use Rattle.record.specs.Steps.{for_each}
use Rattle.record.specs.Loops.{Onto}
use Rattle.rules.specs.Answers.{lent}
use Rattle.walk.specs.Walk.{typeck_expr}
use Rattle.walk.specs.Walk as rules
use Rattle.walk.proofs.+walk.Given as goal

abbrev pub decreases-args : goal.decreases-args
decreases-args l = l.level * 16 + 1

abbrev pub invariant-args-loop-i : goal.invariant-args-loop-i
invariant-args-loop-i l =
    Onto l.initial.m l.initial.d l.m l.d (rules.args (lent l.body) (typeck_expr (lent l.body) l.level) l.n.0 l.p l.f l.t l.first) (for_each l.i (l.t.count - l.i) (rules.arg (lent l.body) (typeck_expr (lent l.body) l.level) l.n.0 l.p l.f l.t l.first))
    × (length l.m ≡ length l.initial.m)

abbrev pub decreases-assign : goal.decreases-assign
decreases-assign l = l.level * 16 + 2

abbrev pub decreases-bin_op : goal.decreases-bin_op
decreases-bin_op l = l.level * 16 + 2

abbrev pub decreases-block : goal.decreases-block
decreases-block l = l.level * 16 + 4

abbrev pub decreases-block_at : goal.decreases-block_at
decreases-block_at l = l.level * 16 + 5

abbrev pub decreases-call : goal.decreases-call
decreases-call l = l.level * 16 + 3

abbrev pub decreases-elements : goal.decreases-elements
decreases-elements l = l.level * 16 + 1

abbrev pub invariant-elements-loop-i : goal.invariant-elements-loop-i
invariant-elements-loop-i l =
    Onto l.initial.m l.initial.d l.m l.d (rules.elements (lent l.body) (typeck_expr (lent l.body) l.level) l.n.0 l.t l.x.0) (for_each l.i (l.t.count - l.i) (rules.element (lent l.body) (typeck_expr (lent l.body) l.level) l.n.0 l.t l.x.0))
    × (length l.m ≡ length l.initial.m)

abbrev pub decreases-expr : goal.decreases-expr
decreases-expr l = l.level * 16

abbrev pub decreases-field : goal.decreases-field
decreases-field l = l.level * 16 + 1

abbrev pub decreases-if_else : goal.decreases-if_else
decreases-if_else l = l.level * 16 + 6

abbrev pub decreases-index : goal.decreases-index
decreases-index l = l.level * 16 + 1

abbrev pub decreases-lambda : goal.decreases-lambda
decreases-lambda l = l.level * 16 + 1

abbrev pub decreases-list : goal.decreases-list
decreases-list l = l.level * 16 + 2

abbrev pub decreases-local : goal.decreases-local
decreases-local l = l.level * 16 + 1

abbrev pub decreases-method_call : goal.decreases-method_call
decreases-method_call l = l.level * 16 + 3

abbrev pub decreases-op_assign : goal.decreases-op_assign
decreases-op_assign l = l.level * 16 + 2

abbrev pub decreases-or_else : goal.decreases-or_else
decreases-or_else l = l.level * 16 + 1

abbrev pub decreases-repeat : goal.decreases-repeat
decreases-repeat l = l.level * 16 + 6

abbrev pub decreases-returned : goal.decreases-returned
decreases-returned l = l.level * 16 + 1

abbrev pub decreases-rule : goal.decreases-rule
decreases-rule l = l.level * 16 + 8

abbrev pub decreases-stmt : goal.decreases-stmt
decreases-stmt l = l.level * 16 + 2

abbrev pub decreases-stmts : goal.decreases-stmts
decreases-stmts l = l.level * 16 + 3

abbrev pub invariant-stmts-loop-i : goal.invariant-stmts-loop-i
invariant-stmts-loop-i l =
    Onto l.initial.m l.initial.d l.m l.d (rules.stmts (lent l.body) (typeck_expr (lent l.body) l.level) l.t) (for_each l.i (l.t.count - l.i) (rules.stmt (lent l.body) (typeck_expr (lent l.body) l.level) l.t))
    × (length l.m ≡ length l.initial.m)

abbrev pub decreases-two : goal.decreases-two
decreases-two l = l.level * 16 + 1

abbrev pub decreases-un_op : goal.decreases-un_op
decreases-un_op l = l.level * 16 + 1

abbrev pub decreases-verify_call : goal.decreases-verify_call
decreases-verify_call l = l.level * 16 + 2

abbrev pub decreases-verify_method_call : goal.decreases-verify_method_call
decreases-verify_method_call l = l.level * 16 + 2
