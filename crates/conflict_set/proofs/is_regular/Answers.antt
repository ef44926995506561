use mathlib.Core.Path.{◌≡◌, refl, ◌∙◌}
use denote.Enum.Bare.{sameb}
use Rattle.theory.specs.Rules.{is_regular}
use Rattle.type_table.specs.contracts.Kind.{the_type}
use Rattle.type_table.specs.declared.Kind.{Kind}
use Rattle.type_table.specs.declared.Kind.TheVariants.{Regular, Integer, Float}
use Rattle.unify.specs.Leaf.{kind_k}
use Rattle.conflict_set.specs.SearchLaws.{regular_law}
use Rattle.conflict_set.proofs.is_regular.Goals as goal

same_regular : (k : Kind) → sameb the_type k Regular ≡ is_regular (kind_k k)
same_regular Regular = refl
same_regular Integer = refl
same_regular Float = refl

pub returns : goal.returns
returns c = regular_law (c.args.m.now) (c.args.c) _ _ _ _ (c.kind_of.ensures) refl (c.eq.ensures ∙ same_regular _)
