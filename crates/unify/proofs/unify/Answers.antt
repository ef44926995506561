use borrow.Author.Rules.{rules}
use Rattle.unify.proofs.UniLaws.{unify_solved}
use Rattle.unify.specs.Steps.{product, product_fits}
use native.Mathlib.Omega.{arith}
use Prim.Native.Nat.{◌+◌}
use Rattle.unify.proofs.unify.Goals as goal

pub overflow_mul-n : goal.overflow_mul-n
overflow_mul-n c = record { fits = product_fits (c.held-d.result.vars) (c.held-d.result.types + c.held-d.result.types + 1) (search rules) (search rules) }

pub overflow_add-n-4 : goal.overflow_add-n-4
overflow_add-n-4 c = let h = product (c.held-d.result.vars) (c.held-d.result.types + c.held-d.result.types + 1) (search rules) (search rules) in omega (arith, h)

pub overflow_add-n-5 : goal.overflow_add-n-5
overflow_add-n-5 c = let h = product (c.held-d.result.vars) (c.held-d.result.types + c.held-d.result.types + 1) (search rules) (search rules) in omega (arith, h)

pub returns : goal.returns
returns c = unify_solved (c.args.m.now) (c.args.c) (c.held-d.result) (c.args.x) (c.args.y) _ _ c.held-d.ensures c.clip-e.ensures c.clip-g.ensures _ (c.uni.result) _ c.uni.ensures c.answer_of.ensures
