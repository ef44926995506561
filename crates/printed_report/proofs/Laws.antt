-- What each return shows, over plain variables. Assumes nothing.
use Rattle.std.specs.Prelude.{Option}
use mathlib.Core.Path.{◌≡◌, ap, sym, ◌∙◌}
use mathlib.Core.List.{List, []}
use Prim.Native.Nat.{ℕ}
use lib.ListN.{replicate, length-replicate}
use Rattle.body.specs.Body.{rows_length, cells_length}
use Rattle.errors.specs.Rows.{zero_row}
use Rattle.answers.specs.declared.Answer.{Answer}
use Rattle.answers.specs.Lent.{Lent, lent, nodes_length, vars_length, types_length, errors_length, memory_length}
use Rattle.output.specs.Output.{Appends, Finishes, output, ended}
use Rattle.output.specs.Appending.{whole}
use Rattle.report_text.specs.declared.Reported.{Reported}
use Rattle.report_text.specs.declared.Reported.TheVariants.{Written, NoRoom}
use Rattle.report.specs.Report.{Told}
use Rattle.report.specs.Parts.{TablesReported}
use Rattle.printed_report.specs.Printed.{lent_tables, printed, nine_line, text_bytes, printed_text, printed_by, printed_of}

-- a text into an output, and how many bytes it has
pub text_printed : (t o x y : List ℕ) (c n : ℕ) (d : Option ℕ) → Appends t 0 o c x → Finishes c x d y → text_bytes d ≡ n → printed n y ≡ printed_text (ended t o)
text_printed t o x y c n d p q e = ap (λ k. printed k y) (sym e) ∙ ap printed_text (whole p q)

-- a report that had room
pub written_printed : (r : Reported) (a : Answer) (n : ℕ) (o : List ℕ) → r ≡ Written a n → printed n o ≡ printed_by r o
written_printed r a n o e = rw e

-- 9
pub nine_printed : (r : Reported) (a : Answer) (n : ℕ) (o x : List ℕ) → r ≡ NoRoom a → printed n x ≡ printed_text (ended nine_line o) → printed n x ≡ printed_by r o
nine_printed r a n o x e p = rw e p

-- the report with the tables that are lent, and what is printed of it
pub report_printed : (s o x y : List ℕ) (r : Reported) (u : Lent) (n : ℕ)
    → TablesReported s errors_length (lent (replicate rows_length 0) (replicate cells_length 0) (replicate nodes_length 0) (replicate vars_length 0) (replicate types_length 0) [] [] (replicate memory_length 0)) o r u x
    → printed n y ≡ printed_by r x → printed n y ≡ printed_of s o
unfolding printed_of lent_tables
report_printed s o x y r u n p q = q ∙ ap (λ (t : Told). printed_by t.answer t.output) (p.with_errors_lem (replicate errors_length zero_row) (length-replicate errors_length zero_row))
