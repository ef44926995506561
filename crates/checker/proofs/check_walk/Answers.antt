use mathlib.Core.Path.{refl}
use mathlib.Core.Bool.{true, false}
use Rattle.answers.specs.Lengths.{short_is}
use Rattle.checker.proofs.Laws.{check_long, check_short, walk_checked}
use Rattle.checker.proofs.check_walk.Goals as goal

pub returns-then-s-most : goal.returns-then-s-most
returns-then-s-most c = record { tables = check_long _ _ _ (c.if-s-most.true); ended = tt }

pub returns-then-too_short : goal.returns-then-too_short
returns-then-too_short c = record { tables = check_short _ _ _ (c.if-s-most.false) (λ e k. short_is _ _ _ true k (c.too_short.ensures) (c.if-too_short.true)); ended = tt }

pub returns : goal.returns
returns c = walk_checked _ _ _ _ _ (c.if-s-most.false) (λ e k. short_is _ _ _ false k (c.too_short.ensures) (c.if-too_short.false)) _ _ _ (c.walk_file-w.auto.rows) (c.walk_file-w.auto.cells) (c.walk_file-w.auto.memory) _ (c.walk_file-w.ensures) refl (c.hand_back.ensures) (c.record_of.ensures)
