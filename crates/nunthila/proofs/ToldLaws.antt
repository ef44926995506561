-- What the exported functions show when they return, over plain variables. Assumes nothing.
use mathlib.Core.Path.{◌≡◌, ap, ◌∙◌}
use mathlib.Core.List.{List}
use Prim.Native.Nat.{ℕ}
use lib.Seq.{sets}
use Rattle.answers.specs.declared.Answer.{Answer}
use Rattle.answers.specs.Lent.{Lent, Held, held, answer_number}
use Rattle.checker.specs.Check.{check_of}
use Rattle.report_text.specs.declared.Reported.{Reported}
use Rattle.report_text.specs.Written.{checked_answer, report_number}
use Rattle.report.specs.Report.{Told, told, report_of}
use Rattle.told.specs.Numbers.{told_numbers, text_length, NumberTold, number_told}
use Rattle.conflict_set.specs.declared.Sought.{Sought}
use Rattle.conflict_set.specs.declared.Sought.TheVariants.{Minimal, Shortest}
use Rattle.conflict_check.specs.declared.Quarreled.{Quarreled}
use Rattle.conflict_check.specs.Quarrel.{quarrel_number, Told as QuarrelTold, told as quarreled, quarrel_of}
use Rattle.conflict_told.specs.Numbers.{lines_of, quarrel_numbers}
use Rattle.nunthila.specs.Told.{checked, check_told, reporting, report_told, sought_told, quarrel_told, shortest_told}

-- `nunthila_check`: the answer r of `check` and its tables u; the number k and the numbers v that were told
pub check_law : (s : List ℕ) (l u : Lent) (t v : List ℕ) (r : Answer) (k : ℕ) → held r u ≡ check_of s l → number_told k v ≡ number_told (answer_number r) (sets t 0 (told_numbers r 0)) → checked k u v ≡ check_told s l t
unfolding check_told
check_law s l u t v r k p q =
    ap (λ (w : NumberTold). checked w.number u w.told) q ∙ ap (λ (h : Held). checked h.number h.tables (sets t 0 (told_numbers h.answer 0))) p

-- `nunthila_report`: likewise, with the output x
pub report_law : (s : List ℕ) (l u : Lent) (o x t v : List ℕ) (r : Reported) (k : ℕ) → told r u x ≡ report_of s l o
    → number_told k v ≡ number_told (report_number r) (sets t 0 (told_numbers (checked_answer r) (text_length r))) → reporting k u x v ≡ report_told s l o t
unfolding report_told
report_law s l u o x t v r k p q =
    ap (λ (w : NumberTold). reporting w.number u x w.told) q
    ∙ ap (λ (h : Told). reporting h.number h.tables h.output (sets t 0 (told_numbers (checked_answer h.answer) (text_length h.answer)))) p

-- with what is sought
sought_law : (s : List ℕ) (l u : Lent) (o x t v : List ℕ) (f g : Sought) (r : Quarreled) (k : ℕ) → f ≡ g → quarreled r u x ≡ quarrel_of s f l o → number_told k v ≡ number_told (quarrel_number r) (sets t 0 (quarrel_numbers r))
    → reporting k u x v ≡ sought_told s g l o t
unfolding sought_told
sought_law s l u o x t v f g r k e p q =
    ap (λ (w : NumberTold). reporting w.number u x w.told) q
    ∙ ap (λ (h : QuarrelTold). reporting h.number h.tables h.output (sets t 0 (quarrel_numbers h.answer))) (p ∙ ap (λ (g : Sought). quarrel_of s g l o) e)

-- `nunthila_quarrel`: likewise, with the form n of the lines
pub quarrel_law : (s : List ℕ) (n : ℕ) (l u : Lent) (o x t v : List ℕ) (f : Sought) (r : Quarreled) (k : ℕ) → f ≡ Minimal (lines_of n) → quarreled r u x ≡ quarrel_of s f l o
    → number_told k v ≡ number_told (quarrel_number r) (sets t 0 (quarrel_numbers r)) → reporting k u x v ≡ quarrel_told s n l o t
quarrel_law s n l u o x t v f r k e p q = sought_law s l u o x t v f (Minimal (lines_of n)) r k e p q

-- `nunthila_shortest`: likewise, with the number b of subsets
pub shortest_law : (s : List ℕ) (n b : ℕ) (l u : Lent) (o x t v : List ℕ) (f : Sought) (r : Quarreled) (k : ℕ) → f ≡ Shortest (lines_of n) b → quarreled r u x ≡ quarrel_of s f l o
    → number_told k v ≡ number_told (quarrel_number r) (sets t 0 (quarrel_numbers r)) → reporting k u x v ≡ shortest_told s n b l o t
shortest_law s n b l u o x t v f r k e p q = sought_law s l u o x t v f (Shortest (lines_of n) b) r k e p q
