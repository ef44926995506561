use mathlib.Core.Path.{sym, ◌∙◌}
use Rattle.rules.proofs.Laws.{path_failed, path_whole}
use Rattle.rules.proofs.path.Goals as goal

pub returns-then-is_partly_failed : goal.returns-then-is_partly_failed
returns-then-is_partly_failed c = path_failed _ _ _ _ _ (sym c.is_partly_failed.ensures ∙ c.if-is_partly_failed.true) c.failed_path.ensures

pub returns-else-is_partly_failed : goal.returns-else-is_partly_failed
returns-else-is_partly_failed c = path_whole _ _ _ _ _ (sym c.is_partly_failed.ensures ∙ c.if-is_partly_failed.false) c.whole_path.ensures
