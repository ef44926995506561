-- What the answer of a program says of the refusal in the state that it leaves. Assumes nothing.
use Rattle.std.specs.Prelude.{◌≡◌, refl, Bool, true, false, ℕ, length}
use Rattle.std.proofs.Math.Option.{Option, none, some}
use Rattle.theory.specs.Rules.{Shape, Out, mismatch, Pair}
use Rattle.theory.specs.Program.{first_equal, sane, appended, emitted, refused, pooled, intern_if, interned, react, react_cases}
use Rattle.record.specs.declared.TypingError.{TypingError}
use Rattle.record.specs.Steps.{State}

-- there is no refusal where there is an answer, else there is one
abbrev pub StopBy : {A : Type 0} → Option A → Option Pair → Type 0
StopBy (some a) o = o ≡ none
StopBy none o = (k : ℕ) × (p : ℕ) × (o ≡ some (k, p))

-- the answer of a program and the refusal in its state
abbrev pub Told : {A : Type 0} → Option A × State → Type 0
Told r = StopBy r.0 r.1.stop

-- making a type refuses nothing
pub interned_stop : (t : Shape) (s : State) → (interned t s).1.stop ≡ s.stop
unfolding interned appended
interned_stop t s = by (sane (length s.rows) t)
  where
    found : (o : Option ℕ) → (pooled t o s).1.stop ≡ s.stop
    found none = refl
    found (some r) = refl

    by : (b : Bool) → (intern_if b t s).1.stop ≡ s.stop
    by true = found (first_equal 0 s.rows t)
    by false = refl

-- what follows an equation
pub react_told : {A : Type 0} (n : ℕ) (o : Out) (e : Out → TypingError) (g : Bool → State → Option A × State) (s : State) → s.stop ≡ none → ((c : Bool) (t : State) → t.stop ≡ none → Told (g c t)) → Told (react n o e g s)
unfolding emitted refused
react_told n o e g s h again = react_cases Told n o e g s (again true s h) (again false (emitted (e mismatch) s) h) (12, n, refl) (13, n, refl)
