-- What each return of the functions shows, over plain variables. Assumes nothing.
use mathlib.Core.Path.{◌≡◌}
use mathlib.Core.Logic.{◌≢◌}
use mathlib.Core.List.{List}
use Prim.Native.Nat.{ℕ}
use lib.Seq.{sets}
use borrow.Author.Tests.{eq-eqb, ne_eqb}
use Rattle.answers.specs.declared.Answer.{Answer}
use Rattle.answers.specs.Lent.{answer_number}
use Rattle.told.specs.Numbers.{told_numbers, own_numbers, number_told}
use Rattle.conflict_set.specs.declared.Lines.TheVariants as lines
use Rattle.conflict_check.specs.declared.Quarreled.{Quarreled}
use Rattle.conflict_check.specs.declared.Quarreled.TheVariants.{Refused, Written, Nothing, NoRoom}
use Rattle.conflict_check.specs.Quarrel.{quarrel_number}
use Rattle.conflict_told.specs.Numbers.{lines_of, quarrel_numbers}

pub lines_numbers : (n : ℕ) → n ≡ 0 → lines.Numbers ≡ lines_of n
lines_numbers n e = rw (eq-eqb n 0 e)

pub lines_places : (n : ℕ) → n ≢ 0 → lines.Places ≡ lines_of n
lines_places n e = rw (ne_eqb n 0 e)

module _ (t v : List ℕ) (r : Quarreled) (k : ℕ) (a : Answer) where
  -- Check's own refusal
  pub tell_refused : r ≡ Refused a → number_told k v ≡ number_told (answer_number a) (sets t 0 (told_numbers a 0)) → number_told k v ≡ number_told (quarrel_number r) (sets t 0 (quarrel_numbers r))
  tell_refused e q = rw e q

  -- 0
  pub tell_written : (n : ℕ) → r ≡ Written a n → number_told k v ≡ number_told 0 (sets t 0 (own_numbers 0 a n)) → number_told k v ≡ number_told (quarrel_number r) (sets t 0 (quarrel_numbers r))
  tell_written n e q = rw e q

  -- 14
  pub tell_nothing : r ≡ Nothing a → number_told k v ≡ number_told 14 (sets t 0 (own_numbers 14 a 0)) → number_told k v ≡ number_told (quarrel_number r) (sets t 0 (quarrel_numbers r))
  tell_nothing e q = rw e q

  -- 9
  pub tell_no_room : r ≡ NoRoom a → number_told k v ≡ number_told 9 (sets t 0 (own_numbers 9 a 0)) → number_told k v ≡ number_told (quarrel_number r) (sets t 0 (quarrel_numbers r))
  tell_no_room e q = rw e q
