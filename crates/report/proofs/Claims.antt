-- Of Claims: the theorems that rest on a declaration which an edit of a definition in specs/ refuses. The definitions and the other theorems stand in
-- specs/Claims.antt. Assumes nothing.
use Rattle.std.specs.Prelude.{◌≡◌, List, ◌++◌, ℕ, ◌≤◌, length}
use Rattle.std.proofs.Common.{ap, ◌∙◌}
use Rattle.std.proofs.Math.Bool.{false}
use Rattle.std.proofs.Math.ListN.{drop}
use Rattle.answers.specs.Lent.{Lent, too_short}
use Rattle.report.specs.Report.{Told, report_text, report_of}
use Rattle.report.specs.Example.{example, example_output}
use Rattle.report.proofs.Example.{example_reported}
use Rattle.report.specs.Claims.{with_room}

-- document 01's worked body: with any tables that are long enough and room for it, the output begins with the report that stands there, and the bytes after it are
-- unchanged. No definition is given the example: its bytes are read, typed and printed by computation (Example)
pub worked_example : (l : Lent) (o : List ℕ) → too_short l ≡ false → length example_output ≤ length o → (report_of example l o).output ≡ example_output ++ drop (length example_output) o
worked_example l o h room =
    let e : report_text example l ≡ example_output = example_reported l h in
    ap (λ (r : Told). r.output) (with_room example l o (rw e room)) ∙ ap (λ (t : List ℕ). t ++ drop (length t) o) e
