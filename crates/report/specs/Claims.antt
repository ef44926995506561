-- The claims of `report`. Its contract has answer, number, PLACE, tables and output as `report_of` of the file and of what was lent; here is what that
-- says, case by case, on every input bytes and every room. Assumes nothing.
use Rattle.std.specs.Prelude.{◌≡◌, List, ◌++◌, Bool, cond, ℕ, ◌≤◌, ◌<◌, length, get_or, ltb}
use Rattle.std.proofs.Math.Path.{refl}
use Rattle.std.proofs.Common.{sym, ap, ◌∙◌, append-nil, arith, lt-ltb, le-ltb}
use Rattle.std.proofs.Math.Bool.{true, false}
use Rattle.std.proofs.Math.ListN.{drop}
use Rattle.theory.specs.Rules.{Shape, base, var, arr, ref, fn, fun, lam, err, div, bool, nil, float, double, uint, int, inst}
use Rattle.theory.specs.Basics.{clash}
use Rattle.lex.specs.Text.{text}
use Rattle.bounds.specs.Confined.{is_made}
use Rattle.tables.specs.Read.{made_at}
use Rattle.errors.specs.declared.ErrorRow.{ErrorRow}
use Rattle.errors.specs.Rows.{row_at}
use Rattle.answers.specs.declared.Totals.{Totals}
use Rattle.answers.specs.declared.Answer.{Answer}
use Rattle.answers.specs.declared.Answer.TheVariants as answer
use Rattle.answers.specs.Lent.{Lent, answer_number, answer_place}
use Rattle.checker.specs.Check.{check_of}
use Rattle.checker.specs.Claims.{made_forms}
use Rattle.output.specs.Output.{zeros, newline}
use Rattle.report_text.specs.declared.Reported.{Reported}
use Rattle.report_text.specs.declared.Reported.TheVariants.{Written, NoRoom}
use Rattle.report_text.specs.Lines.{answer_line, type_text, type_line}
use Rattle.report_text.specs.Written.{text_of}
use Rattle.report.specs.Report.{Told, told, report_text, report_of}

-- a refusal
alone : (a : Answer) (nodes vars types : List ℕ) (errors : ℕ → ErrorRow) → (answer_number a ≡ 0 → ⊥) → text_of a nodes vars types errors ≡ answer_line (answer_number a) (answer_place a)
unfolding text_of
alone (answer.Checked n) nodes vars types errors h = absurd (h refl)
alone answer.TooLong nodes vars types errors h = append-nil _
alone answer.ShortTable nodes vars types errors h = append-nil _
alone (answer.Refused x l) nodes vars types errors h = append-nil _
alone (answer.Declined k n) nodes vars types errors h = append-nil _

-- the line of a made type has no `-` behind `type=`
not_dash : (x : Shape) → is_made x ≡ true → text "type=" ++ type_text x ++ newline ≡ text "type=-" ++ newline → ⊥
not_dash x m e = by x m (ap (λ (q : List ℕ). get_or q 5 0) e)
  where
    by : (x : Shape) → is_made x ≡ true → get_or (text "type=" ++ type_text x ++ newline) 5 0 ≡ 45 → ⊥
    by (var v) m e = omega arith
    by (arr y) m e = omega arith
    by (ref y) m e = omega arith
    by (fn d) m e = omega arith
    by (base (inst k)) m e = omega arith
    by (lam n o i) m e = omega arith
    by (base bool) m e = clash (cc)
    by (base nil) m e = clash (cc)
    by (base float) m e = clash (cc)
    by (base double) m e = clash (cc)
    by (base (uint w)) m e = clash (cc)
    by (base (int w)) m e = clash (cc)
    by (fun s o i) m e = clash (cc)
    by err m e = clash (cc)
    by div m e = clash (cc)

module _ (s : List ℕ) (l : Lent) (o : List ℕ) where
  -- the promise of `report` holds of one answer, tables and output, and of no other
  pub one_result : (a b : Reported) (u v : Lent) (x y : List ℕ) → told a u x ≡ report_of s l o → told b v y ≡ report_of s l o → (a ≡ b) × (u ≡ v) × (x ≡ y)
  one_result a b u v x y p q = (ap (λ (h : Told). h.answer) (p ∙ sym q), ap (λ (h : Told). h.tables) (p ∙ sym q), ap (λ (h : Told). h.output) (p ∙ sym q))

  -- with room, the answer is Check's own with the text's length; the output begins with the text, and the bytes after it are unchanged
  pub with_room : length (report_text s l) ≤ length o → report_of s l o ≡ told (Written (check_of s l).answer (length (report_text s l))) (check_of s l).tables (report_text s l ++ drop (length (report_text s l)) o)
  unfolding report_of
  with_room h = rw (le-ltb (length o) (length (report_text s l)) h)

  -- without, the answer is 9 with PLACE `-`, the output is zero throughout
  pub without_room : length o < length (report_text s l) → report_of s l o ≡ told (NoRoom (check_of s l).answer) (check_of s l).tables (zeros o)
  unfolding report_of
  without_room h = rw (lt-ltb (length o) (length (report_text s l)) h)

  -- the tables are as Check leaves them, whatever the room: the claims on `check` hold of them
  pub tables_as_checked : (report_of s l o).tables ≡ (check_of s l).tables
  unfolding report_of
  tables_as_checked = by (ltb (length o) (length (report_text s l)))
    where
      by : (b : Bool) → (cond b (told (NoRoom (check_of s l).answer) (check_of s l).tables (zeros o)) (told (Written (check_of s l).answer (length (report_text s l))) (check_of s l).tables (report_text s l ++ drop (length (report_text s l)) o))).tables ≡ (check_of s l).tables
      by true = refl
      by false = refl

  -- no `type` line is `type=-`: each has one of document 01's forms
  pub no_dash_type : (t : Totals) → (check_of s l).answer ≡ answer.Checked t → (i : ℕ) → i < t.types → type_line (check_of s l).tables.types i ≡ text "type=-" ++ newline → ⊥
  unfolding type_line
  no_dash_type t e i h = not_dash (made_at (check_of s l).tables.types i) (made_forms s l t e i h)

  -- the text of a refusal is the `answer` line alone
  pub refusal_alone : (answer_number (check_of s l).answer ≡ 0 → ⊥) → report_text s l ≡ answer_line (answer_number (check_of s l).answer) (answer_place (check_of s l).answer)
  unfolding report_text
  refusal_alone h = alone (check_of s l).answer (check_of s l).tables.nodes (check_of s l).tables.vars (check_of s l).tables.types (row_at (check_of s l).tables.errors) h
