-- The errors with CAUSE 1 of a well-formed body are those of its equations that failed, one to one and in order. Assumes nothing.
use Rattle.std.specs.Prelude.{◌≡◌, refl, List, [], ◌∷◌, Bool, true, false, cond, ℕ, ◌<◌, eqb, length}
use Rattle.std.proofs.Common.{ap, lt-ltb}
use Rattle.std.proofs.Math.Option.{Option, none, some}
use Rattle.theory.specs.Rules.{Shape, Out, success, mismatch, refused12, refused13, dry, Res}
use Rattle.theory.specs.Program.{Equation, clip, first_equal, sane, appended, emitted, refused, raised, pooled, intern_if, interned, react, run}
use Rattle.record.specs.declared.TypingError.{TypingError}
use Rattle.record.specs.Steps.{State}
use Rattle.bounds.specs.Confined.{Names}
use Rattle.bounds.specs.Nesting.{Behind}

-- ── definitions ──

-- an error with CAUSE 1
abbrev pub is_caused : TypingError → Bool
is_caused e = eqb e.cause 1

-- a mismatch
abbrev pub is_mismatch : Out → Bool
is_mismatch success = false
is_mismatch mismatch = true
is_mismatch refused12 = false
is_mismatch refused13 = false
is_mismatch dry = false

-- an equation that is a mismatch
abbrev pub mismatched : Equation → Bool
mismatched q = is_mismatch q.answer

-- those of a list that pass a test, in order
abbrev pub those : {A : Type 0} → (A → Bool) → List A → List A
those f [] = []
those f (x ∷ l) = cond (f x) (x ∷ those f l) (those f l)

-- two lists of one length: R holds of the members at each place
abbrev pub Pairwise : {A B : Type 0} → (A → B → Type 0) → List A → List B → Type 0
Pairwise R [] [] = Unit {0}
Pairwise R [] (y ∷ m) = ⊥
Pairwise R (x ∷ l) [] = ⊥
Pairwise R (x ∷ l) (y ∷ m) = R x y × Pairwise R l m

-- the error has CAUSE 1 and names the sides of the equation
abbrev pub ErrorOf : TypingError → Equation → Type 0
ErrorOf e q = Names q.expected q.got e

-- of errors and equations, both newest first: the errors with CAUSE 1 are, in order, those of the equations that failed
abbrev pub Caused : List TypingError → List Equation → Type 0
Caused es l = Pairwise ErrorOf (those is_caused es) (those mismatched l)

-- ── one more ──

module _ (es : List TypingError) (l : List Equation) (h : Caused es l) where
  -- an error that no equation raised
  pub own_more : (e : TypingError) → is_caused e ≡ false → Caused (e ∷ es) l
  own_more e p = rw p h

  -- an equation that did not fail
  met_more : (q : Equation) → mismatched q ≡ false → Caused es (q ∷ l)
  met_more q p = rw p h

  -- an equation that failed, and its error
  failed_more : (e : TypingError) (q : Equation) → ErrorOf e q → is_caused e ≡ true → mismatched q ≡ true → Caused (e ∷ es) (q ∷ l)
  failed_more e q r p f = rw (p, f) (r, h)

-- ── a run ──

-- making a type emits no error
pub interned_errs : (t : Shape) (s : State) → (interned t s).1.errs ≡ s.errs
unfolding interned appended
interned_errs t s = by (sane (length s.rows) t)
  where
    found : (o : Option ℕ) → (pooled t o s).1.errs ≡ s.errs
    found none = refl
    found (some r) = refl

    by : (b : Bool) → (intern_if b t s).1.errs ≡ s.errs
    by true = found (first_equal 0 s.rows t)
    by false = refl

-- a row's number is not clipped
pub clip_row : (n x : ℕ) → x < n → clip n x ≡ x
clip_row n x h = rw (lt-ltb x n h)

-- the equation of a and b in the rule of the node n, with the result r
abbrev logged : ℕ → ℕ → ℕ → Res → Equation
logged n a b r = record { node = n; expected = a; got = b; answer = r.0 }

-- what follows it
pub react_caused : {A : Type 0} (n a b : ℕ) (r : Res) (o : Out) → r.0 ≡ o → (e : Out → TypingError) (g : Bool → State → Option A × State) (K : Bool → State → Type 0) (s : State) → Names a b (e mismatch) → Caused s.errs s.log
    → Behind o e K (raised n a b r s) → ((c : Bool) (t : State) → K c t → Caused t.errs t.log → Caused (g c t).1.errs (g c t).1.log)
    → let t = (react n o e g (raised n a b r s)).1 in Caused t.errs t.log
unfolding raised emitted refused
react_caused n a b r success q e g K s p h k again = again true (raised n a b r s) k (met_more s.errs s.log h (logged n a b r) (ap is_mismatch q))
react_caused n a b r mismatch q e g K s p h k again =
    again false (emitted (e mismatch) (raised n a b r s)) k
    (failed_more s.errs s.log h (e mismatch) (logged n a b r) p (ap (λ (c : ℕ). eqb c 1) p.cause) (ap is_mismatch q))
react_caused n a b r refused12 q e g K s p h k again = met_more s.errs s.log h (logged n a b r) (ap is_mismatch q)
react_caused n a b r refused13 q e g K s p h k again = met_more s.errs s.log h (logged n a b r) (ap is_mismatch q)
react_caused n a b r dry q e g K s p h k again = met_more s.errs s.log h (logged n a b r) (ap is_mismatch q)
