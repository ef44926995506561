-- What is printed, case by case, on every input bytes. Assumes nothing.
use Rattle.std.specs.Prelude.{◌≡◌, refl, List, [], ◌∷◌, ◌++◌, Bool, true, false, cond, ℕ, ◌≤◌, ◌<◌, length, replicate, take, drop, ltb}
use Rattle.std.proofs.Math.Path.{ap}
use Rattle.std.proofs.Common.{◌∙◌, lt-ltb, le-ltb, ltb-true, ltb-false}
use Rattle.std.proofs.lemmas.List.{length-replicate}
use Rattle.answers.specs.Lent.{too_short}
use Rattle.output.specs.Output.{zeros, ended}
use Rattle.report.specs.Report.{Told, report_text}
use Rattle.report.specs.Claims.{with_room, without_room}
use Rattle.printed_report.specs.Printed.{lent_tables, printed, printed_bytes, nine_line, printed_text, printed_by, printed_of}

-- the first bytes of a text with others behind it
front : (t u : List ℕ) → take (length t) (t ++ u) ≡ t
front [] u = refl
front (x ∷ t) u = ap (λ (r : List ℕ). x ∷ r) (front t u)

-- the line of 9 where it has room
nine_with_room : (o : List ℕ) → 11 ≤ length o → printed_text (ended nine_line o) ≡ printed 11 (nine_line ++ drop 11 o)
unfolding ended
nine_with_room o h = rw (le-ltb (length o) 11 h)

-- and where it has none
nine_without_room : (o : List ℕ) → length o < 11 → printed_text (ended nine_line o) ≡ printed 0 (zeros o)
unfolding ended
nine_without_room o h = rw (lt-ltb (length o) 11 h)

-- no table that is lent is too short: 2 is never printed
pub tables_suffice : too_short lent_tables ≡ false
unfolding too_short lent_tables
tables_suffice = refl

module _ (s o : List ℕ) where
  -- a report that has room is printed; the bytes behind it in the output are unchanged
  pub report_printed : length (report_text s lent_tables) ≤ length o → printed_of s o ≡ printed (length (report_text s lent_tables)) (report_text s lent_tables ++ drop (length (report_text s lent_tables)) o)
  unfolding printed_of
  report_printed h = ap (λ (r : Told). printed_by r.answer r.output) (with_room s lent_tables o h)

  -- else `answer=9,-`; the bytes behind it in the output are zero
  pub nine_printed : length o < length (report_text s lent_tables) → 11 ≤ length o → printed_of s o ≡ printed 11 (nine_line ++ drop 11 (zeros o))
  unfolding printed_of
  nine_printed h k = ap (λ (r : Told). printed_by r.answer r.output) (without_room s lent_tables o h) ∙ nine_with_room (zeros o) (rw (length-replicate {A = ℕ} (length o) 0) k)

  -- nothing where that line has no room either; the output is zero throughout
  pub nothing_printed : length o < length (report_text s lent_tables) → length o < 11 → printed_of s o ≡ printed 0 (zeros o)
  unfolding printed_of
  nothing_printed h k = ap (λ (r : Told). printed_by r.answer r.output) (without_room s lent_tables o h) ∙ nine_without_room (zeros o) (rw (length-replicate {A = ℕ} (length o) 0) k) ∙ ap (λ n. printed 0 (replicate n 0)) (length-replicate {A = ℕ} (length o) 0)

  -- so the bytes that are printed are the report, or `answer=9,-` where that is longer than the output; `typereport` lends 65,536 bytes
  pub bytes_printed : 11 ≤ length o → printed_bytes (printed_of s o) ≡ cond (ltb (length o) (length (report_text s lent_tables))) nine_line (report_text s lent_tables)
  bytes_printed k = by (ltb (length o) (length (report_text s lent_tables))) refl
    where
      by : (b : Bool) → ltb (length o) (length (report_text s lent_tables)) ≡ b → printed_bytes (printed_of s o) ≡ cond b nine_line (report_text s lent_tables)
      by true h = ap printed_bytes (nine_printed (ltb-true _ _ h) k) ∙ front nine_line (drop 11 (zeros o))
      by false h = ap printed_bytes (report_printed (ltb-false _ _ h)) ∙ front (report_text s lent_tables) (drop (length (report_text s lent_tables)) o)
