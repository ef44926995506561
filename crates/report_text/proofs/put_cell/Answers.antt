use Rattle.output.specs.Output.{number_text}
use mathlib.Core.List.{◌∷◌}
use mathlib.Core.Path.{ap}
use Rattle.output.specs.Appending.{appends_as}
use Rattle.report_text.proofs.put_cell.Goals as goal

pub returns : goal.returns
returns c = appends_as (ap (λ k. 44 ∷ number_text k) c.read.ensures) c.put_field.ensures
