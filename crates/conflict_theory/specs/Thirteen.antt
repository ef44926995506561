-- No equation of a walk that does not end in 13 was refused 13, whether the body holds a negation or not. Assumes nothing.
use Rattle.std.specs.Prelude.{◌≡◌, ◌⊎◌, List, Bool, ℕ, length}
use Rattle.std.proofs.Math.Path.{refl}
use Rattle.std.proofs.Common.{sym, ap, ◌∙◌, arith}
use Rattle.std.proofs.Math.Logic.{inl, inr}
use Rattle.std.proofs.Math.Option.{Option, none, some}
use Rattle.std.proofs.Math.Bool.{true, false}
use Rattle.theory.specs.Rules.{Shape, Out, success, mismatch, refused12, refused13, dry, Pair, Res}
use Rattle.theory.specs.Program.{St, Prog, done, refuse, draw, intern, equate, emit, mark, read, write, clip, drawn, appended, emitted, written, refused, marking, raised, pooled, intern_if, interned, first_equal, sane, solved, react, run}
use Rattle.theory.specs.Basics.{clash}
use Rattle.theory.specs.Start.{start}
use Rattle.conflict_theory.specs.Worked.{None13}

module _ {X Er : Type 0} where
  -- no equation was refused 13, or the walk ended in it
  abbrev pub Thirteen : St X Er → Type 0
  Thirteen s = None13 s.log ⊎ ((p : ℕ) × (s.stop ≡ some (13, p)))

  interned_log : (t : Shape) (s : St X Er) → (interned t s).1.log ≡ s.log
  unfolding interned appended
  interned_log t s = by (sane (length s.rows) t)
    where
      found : (o : Option ℕ) → (pooled t o s).1.log ≡ s.log
      found none = refl
      found (some r) = refl

      by : (c : Bool) → (intern_if c t s).1.log ≡ s.log
      by true = found (first_equal 0 s.rows t)
      by false = refl

  react_13 : {A : Type 0} (p e g : ℕ) (s : St X Er) (r : Res) (o : Out) → r.0 ≡ o → (f : Out → Er) (k : Bool → St X Er → Option A × St X Er) → None13 s.log
      → ((c : Bool) (s' : St X Er) → None13 s'.log → Thirteen (k c s').1) → Thirteen (react p o f k (raised p e g r s)).1
  unfolding raised emitted refused
  react_13 p e g s r success q f k h c = c true (raised p e g r s) (rw q tt, h)
  react_13 p e g s r mismatch q f k h c = c false (emitted (f mismatch) (raised p e g r s)) (rw q tt, h)
  react_13 p e g s r refused12 q f k h c = inl (rw q tt, h)
  react_13 p e g s r refused13 q f k h c = inr (p, refl)
  react_13 p e g s r dry q f k h c = inl (rw q tt, h)

  -- a walk in which an equation is refused 13 ends in 13
  pub refused_13 : {A : Type 0} (p : Prog X Er A) (s : St X Er) → None13 s.log → Thirteen (run p s).1
  unfolding run drawn refused emitted marking written
  refused_13 (done a) s h = inl h
  refused_13 (refuse n p) s h = inl h
  refused_13 (draw k o f) s h = refused_13 (f (length s.rows)) (drawn k o s) h
  refused_13 (intern t f) s h = refused_13 (f (interned t s).0) (interned t s).1 (rw (interned_log t s) h)
  refused_13 (equate p x y f k) s h =
      let e = clip (length s.rows) x in
      let g = clip (length s.rows) y in
      react_13 p e g s (solved e g s) (solved e g s).0 refl f (λ c s'. run (k c) s') h (λ c s' h'. refused_13 (k c) s' h')
  refused_13 (emit e p) s h = refused_13 p (emitted e s) h
  refused_13 (mark v p) s h = refused_13 p (marking v s) h
  refused_13 (read f) s h = refused_13 (f s) s h
  refused_13 (write x p) s h = refused_13 p (written x s) h

-- the number of a refusal, 0 for none
abbrev number_of : Option Pair → ℕ
number_of none = 0
number_of (some p) = p.0

-- answered 0, or 12
abbrev pub ZeroOr12 : Option Pair → Type 0
ZeroOr12 o = (o ≡ none) ⊎ ((p : ℕ) × (o ≡ some (12, p)))

module _ {X Er A : Type 0} (rows : List Shape) (own : X) (p : Prog X Er A) where
  -- the state in which the program ends
  abbrev end : St X Er
  end = (run p (start rows own)).1

  not_thirteen : ZeroOr12 end.stop → Thirteen end → None13 end.log
  not_thirteen a (inl h) = h
  not_thirteen (inl e) (inr h) = let d = h.1 in clash (cc)
  not_thirteen (inr e) (inr h) = absurd (omega (arith, ap number_of (sym e.1 ∙ h.1)))

  -- of a walk that does not end in 13, no equation was refused 13
  pub none_13 : ZeroOr12 end.stop → None13 end.log
  unfolding start
  none_13 a = not_thirteen a (refused_13 p (start rows own) tt)
