-- What `report` shows, over plain variables. Assumes nothing.
use mathlib.Core.Path.{◌≡◌, refl, sym, ap, ◌∙◌}
use mathlib.Core.List.{List, ◌++◌}
use mathlib.Core.Bool.{Bool, true, false, cond}
use Prim.Native.Nat.{ℕ, ◌<◌}
use native.Mathlib.Omega.{arith}
use lib.ListN.{length, drop}
use lib.Dec.{ltb}
use Rattle.errors.specs.declared.ErrorRow.{ErrorRow}
use Rattle.errors.specs.Rows.{row_at, row_in, filled_to}
use Rattle.errors.specs.Filling.{filled_at}
use Rattle.tables.specs.RowLaws.{cells_ext}
use Rattle.answers.specs.declared.Answer.{Answer}
use Rattle.answers.specs.declared.Answer.TheVariants as answer
use Rattle.answers.specs.Lent.{Lent, lent, Held, held, errors_used, errors_handed, lent_with, handed_with}
use Rattle.answers.specs.Lengths.{not_short}
use Rattle.answers.specs.Parts.{HandsErrors}
use Rattle.checker.specs.Check.{check_of}
use Rattle.checker.specs.Answers.{long_on_0}
use Rattle.checker.specs.Claims.{limits}
use Rattle.checker.specs.Parts.{TablesChecked}
use Rattle.output.specs.Output.{zeros}
use Rattle.report_text.specs.declared.Reported.{Reported}
use Rattle.report_text.specs.declared.Reported.TheVariants.{Written, NoRoom}
use Rattle.error_lines.specs.ErrorLines.{error_line, error_lines}
use Rattle.report_text.specs.Lines.{tables_text}
use Rattle.report_text.specs.Written.{text_of, checked_answer, Said, said, written}
use Rattle.report.specs.Report.{told, report_text, report_of}
use Rattle.report.specs.Parts.{TablesReported}

-- a text that is written, with the tables m
told_written : (a : Answer) (m : Lent) (t o : List ℕ) → told (written a t o).answer m (written a t o).output ≡ cond (ltb (length o) (length t)) (told (NoRoom a) m (zeros o)) (told (Written a (length t)) m (t ++ drop (length t) o))
unfolding written
told_written a m t o = by (ltb (length o) (length t))
  where
    by : (b : Bool) → told (cond b (said (NoRoom a) (zeros o)) (said (Written a (length t)) (t ++ drop (length t) o))).answer m (cond b (said (NoRoom a) (zeros o)) (said (Written a (length t)) (t ++ drop (length t) o))).output ≡ cond b (told (NoRoom a) m (zeros o)) (told (Written a (length t)) m (t ++ drop (length t) o))
    by true = refl
    by false = refl

-- the answer and the tables of the check, then the text
report_as : (s : List ℕ) (l m : Lent) (o u : List ℕ) (a : Answer) (r : Reported) → held a m ≡ check_of s l → said r u ≡ written a (text_of a m.nodes m.vars m.types (row_at m.errors)) o → told r m u ≡ report_of s l o
unfolding report_of report_text
report_as s l m o u a r p q = rw (← p) (ap (λ w. told w.answer m w.output) q ∙ told_written a m (text_of a m.nodes m.vars m.types (row_at m.errors)) o)

-- the answer that was reported is that of the check
reported_answer : (a : Answer) (t o x : List ℕ) (r : Reported) → said r x ≡ written a t o → checked_answer r ≡ a
unfolding written
reported_answer a t o x r e = ap (λ (w : Said). checked_answer w.answer) e ∙ by (ltb (length o) (length t))
  where
    by : (b : Bool) → checked_answer (cond b (said (NoRoom a) (zeros o)) (said (Written a (length t)) (t ++ drop (length t) o))).answer ≡ a
    by true = refl
    by false = refl

-- the rows of the errors in the memory are those that are handed back, as far as there are errors
text_same : (s : List ℕ) (l : Lent) (e : List ErrorRow) (m nodes vars types : List ℕ) (a : Answer) → length e ≡ length l.errors → (check_of s l).answer ≡ a
    → text_of a nodes vars types (row_in m (errors_used a)) ≡ text_of a nodes vars types (row_at (errors_handed a e m))
unfolding text_of tables_text error_lines
text_same s l e m nodes vars types (answer.Checked t) k p =
    let few = limits s l t p in
    let long = not_short l (long_on_0 s l t p) in
    rw (cells_ext (λ i. error_line (row_in m t.errors i)) (λ i. error_line (row_at (filled_to e (row_in m t.errors) (length e)) i)) t.errors (λ i h.
    let g : i < length e = omega (arith, h, few.errors, long.errors, k) in
    ap error_line (sym (filled_at e (row_in m t.errors) (length e) i g g))))
text_same s l e m nodes vars types answer.TooLong k p = refl
text_same s l e m nodes vars types answer.ShortTable k p = refl
text_same s l e m nodes vars types (answer.Refused x i) k p = refl
text_same s l e m nodes vars types (answer.Declined i n) k p = refl

-- the check and the text, with any table of errors
pub tables_reported : (s : List ℕ) (n : ℕ) (l u : Lent) (o x : List ℕ) (a : Answer) (r : Reported) → TablesChecked s n l a u
    → said r x ≡ written a (text_of a u.nodes u.vars u.types (row_in u.memory (errors_used a))) o → TablesReported s n l o r u x
tables_reported s n l u o x a r p q = record {
  with_errors_lem = λ e k.
      let h = p.with_errors_lem e k in
      let t = text_same s (lent_with e l) e u.memory u.nodes u.vars u.types a refl (ap (λ (w : Held). w.answer) (sym h)) in
      rw (reported_answer a _ o x r q) (report_as s (lent_with e l) (handed_with a e u) o x a r h (rw t at q));
}

-- with the errors and the memory that are handed back
pub report_law : (s : List ℕ) (e : List ErrorRow) (l : Lent) (o : List ℕ) (r : Reported) (u : Lent) (x : List ℕ) (d : Answer) (f : List ErrorRow) (v : List ℕ) → TablesReported s (length e) l o r u x
    → d ≡ checked_answer r → HandsErrors d e u.memory f v → told r (lent u.rows u.cells u.nodes u.vars u.types f u.log v) x ≡ report_of s (lent_with e l) o
report_law s e l o r u x d f v p k h = rw (h.0, h.1, k) (p.with_errors_lem e refl)
