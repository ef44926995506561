-- Of Example: the theorems that rest on a declaration which an edit of a definition in specs/ refuses. The definitions and the other theorems stand in
-- specs/Example.antt. Assumes nothing.
use Rattle.std.specs.Prelude.{◌≡◌, false}
use Rattle.std.proofs.Common.{ap, ◌∙◌}
use Rattle.body.specs.Body as body
use Rattle.answers.specs.Lent.{Lent, too_short, Held}
use Rattle.checker.specs.Check.{read_by}
use Rattle.report.specs.Report.{report_text}
use Rattle.report.specs.Example.{checked, example, example_output, reading_is, text_is, told_of_lem}

-- whatever tables are lent that are long enough, the report of the example is document 01's
pub example_reported : (l : Lent) → too_short l ≡ false → report_text example l ≡ example_output
unfolding report_text
example_reported l h = ap told_of_lem (checked l h ∙ ap (λ (r : body.Held). read_by r.answer r.rows r.cells l) reading_is) ∙ text_is l
