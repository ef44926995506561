use Rattle.rules.proofs.Laws.{bin_met, bin_failed, bin_refused}
use Rattle.record.specs.Runs.{typed_type, typed_refused, equation_met, equation_failed, equation_refused}
use Rattle.rules.proofs.bin_op.Goals as goal

pub returns-in-Met : goal.returns-in-Met
returns-in-Met c = typed_type (bin_met _ _ _ _ _ _ _ (c.between.ensures) _ (c.bin_type.ensures) (equation_met (c.in-Met.is) c.equate.ensures))

pub returns-in-Failed : goal.returns-in-Failed
returns-in-Failed c = typed_type (bin_failed _ _ _ _ _ _ _ (c.between.ensures) (equation_failed (c.in-Failed.is) c.equate.ensures))

pub returns-in-Refused : goal.returns-in-Refused
returns-in-Refused c = typed_refused (bin_refused _ _ _ _ _ _ _ (c.between.ensures) _ (equation_refused (c.in-Refused.is) c.equate.ensures))
