-- What each return of a function that writes a report shows, over plain variables. Assumes nothing.
use Rattle.std.specs.Prelude.{None, Option, Some}
use mathlib.Core.Path.{◌≡◌, refl, sym, ap, ◌∙◌}
use mathlib.Core.List.{List, ◌++◌, append-nil}
use mathlib.Core.Option.{none, some}
use mathlib.Core.Bool.{Bool, true, false, cond}
use Prim.Native.Nat.{ℕ}
use lib.ListN.{length, drop}
use lib.Dec.{ltb}
use Rattle.forms.specs.declared.Fault.{Fault}
use Rattle.body.specs.Body.{fault_number}
use Rattle.type_table.specs.declared.NodeId.{NodeId}
use Rattle.answers.specs.declared.Answer.{Answer}
use Rattle.answers.specs.declared.Answer.TheVariants as answer
use Rattle.answers.specs.declared.Totals.{Totals}
use Rattle.answers.specs.Lent.{errors_used}
use Rattle.errors.specs.Rows.{row_in}
use Rattle.output.specs.Output.{Appends, Finishes, output, ended, zeros}
use Rattle.output.specs.Appending.{appends_as, whole}
use Rattle.report_text.specs.Lines.{answer_line}
use Rattle.report_text.specs.declared.Reported.{Reported}
use Rattle.report_text.specs.declared.Reported.TheVariants.{Written, NoRoom}
use Rattle.report_text.specs.Written.{text_of, said, written}

module _ (nodes vars types m : List ℕ) {x y : List ℕ} {d : ℕ} where
  -- ── by the answer ──

  -- a body that was checked
  pub text_checked : {a : Answer} {n : Totals} → a ≡ answer.Checked n → Appends (text_of (answer.Checked n) nodes vars types (row_in m n.errors)) 0 x d y → Appends (text_of a nodes vars types (row_in m (errors_used a))) 0 x d y
  text_checked e p = appends_as (ap (λ a. text_of a nodes vars types (row_in m (errors_used a))) (sym e)) p

  -- 1
  pub text_long : {a : Answer} → a ≡ answer.TooLong → Appends (answer_line 1 none) 0 x d y → Appends (text_of a nodes vars types (row_in m (errors_used a))) 0 x d y
  unfolding text_of
  text_long e p = appends_as (sym (append-nil _) ∙ ap (λ a. text_of a nodes vars types (row_in m (errors_used a))) (sym e)) p

  -- 2
  pub text_short : {a : Answer} → a ≡ answer.ShortTable → Appends (answer_line 2 none) 0 x d y → Appends (text_of a nodes vars types (row_in m (errors_used a))) 0 x d y
  unfolding text_of
  text_short e p = appends_as (sym (append-nil _) ∙ ap (λ a. text_of a nodes vars types (row_in m (errors_used a))) (sym e)) p

  -- 3 to 6
  pub text_refused : {a : Answer} {f : Fault} {l k : ℕ} → a ≡ answer.Refused f l → k ≡ fault_number f → Appends (answer_line k (some l)) 0 x d y → Appends (text_of a nodes vars types (row_in m (errors_used a))) 0 x d y
  unfolding text_of
  text_refused {l = l} e q p = appends_as (ap (λ k. answer_line k (some l)) q ∙ sym (append-nil _) ∙ ap (λ a. text_of a nodes vars types (row_in m (errors_used a))) (sym e)) p

  -- 10 to 13
  pub text_declined : {a : Answer} {k : ℕ} {n : NodeId} → a ≡ answer.Declined k n → Appends (answer_line k (some n.0)) 0 x d y → Appends (text_of a nodes vars types (row_in m (errors_used a))) 0 x d y
  unfolding text_of
  text_declined e p = appends_as (sym (append-nil _) ∙ ap (λ a. text_of a nodes vars types (row_in m (errors_used a))) (sym e)) p

-- ── by the room ──

-- the answer by the end of the text
abbrev by_ending_lem : Answer → Option ℕ → Reported
by_ending_lem a (Some n) = Written a n
by_ending_lem a None = NoRoom a

-- the end of a text is what is answered
ended_written : (a : Answer) (t o : List ℕ) → said (by_ending_lem a (ended t o).ending) (ended t o).bytes ≡ written a t o
unfolding ended written
ended_written a t o = by (ltb (length o) (length t))
  where
    by : (b : Bool) → said (by_ending_lem a (cond b (output None (zeros o)) (output (Some (length t)) (t ++ drop (length t) o))).ending) (cond b (output None (zeros o)) (output (Some (length t)) (t ++ drop (length t) o))).bytes ≡ cond b (said (NoRoom a) (zeros o)) (said (Written a (length t)) (t ++ drop (length t) o))
    by true = refl
    by false = refl

module _ {a : Answer} {t x y z : List ℕ} {c : ℕ} {d : Option ℕ} where
  -- the text had room
  pub write_at : (n : ℕ) → Appends t 0 x c y → Finishes c y d z → d ≡ Some n → said (Written a n) z ≡ written a t x
  write_at n p q e = ap (λ k. said (by_ending_lem a k) z) (sym e) ∙ ap (λ w. said (by_ending_lem a w.ending) w.bytes) (whole p q) ∙ ended_written a t x

  -- it had none
  pub write_full : Appends t 0 x c y → Finishes c y d z → d ≡ None → said (NoRoom a) z ≡ written a t x
  write_full p q e = ap (λ k. said (by_ending_lem a k) z) (sym e) ∙ ap (λ w. said (by_ending_lem a w.ending) w.bytes) (whole p q) ∙ ended_written a t x
