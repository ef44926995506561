-- The equations that f) works on, in the order raised, and its refusal 14. Then: they have no common solution. Assumes what demand 3's invariant says of a walk's tables
-- (`Claim`), and that no equation was refused 13 (the checker's own refusal, which comes first).
use Rattle.std.specs.Prelude.{◌≡◌, refl, List, [], ◌∷◌, Bool, true, false, ℕ}
use Rattle.std.proofs.Common.{subst}
use Rattle.std.proofs.Math.Option.{Option, none, some}
use Rattle.theory.specs.Rules.{Shape, Kind, Out, success, mismatch, refused12, refused13, dry}
use Rattle.theory.specs.Program.{Equation}
use Rattle.theory.specs.Basics.{All, all_map, clash}
use Rattle.theory.specs.Ways.{PlainSides, Failed, NoWay}
use Rattle.theory.specs.Demand.{Claim}
use Rattle.theory.specs.Solve.{Solves}
use Rattle.conflict_theory.specs.Test.{NoCommon}
use Rattle.conflict_theory.specs.Worked.{is_failed, there, earlier, until_failed, in_order, sides_at, numbers, PlainPair, plain_sided, order_all, numbers_all, None13, EndedLog, none_failed, First}

-- ── proofs ──

failed_of : (o : Out) → is_failed o ≡ true → Failed o
failed_of success e = clash (cc)
failed_of mismatch e = tt
failed_of refused12 e = tt
failed_of refused13 e = clash (cc)
failed_of dry e = clash (cc)

some_failed : (rows : List Shape) (kinds : List Kind) (l k : List Equation) → None13 l → EndedLog l → NoWay rows kinds l → until_failed l ≡ some k → First rows kinds k
unfolding until_failed
some_failed rows kinds [] k u d n e = clash (cc)
some_failed rows kinds (q ∷ l) k u d n e = by (until_failed l) refl (is_failed q.answer) refl (λ j p. some_failed rows kinds l j u.1 d.1 n.0 p) e
  where
    by : (o : Option (List Equation)) → until_failed l ≡ o → (b : Bool) → is_failed q.answer ≡ b → ((j : List Equation) → until_failed l ≡ some j → First rows kinds j) → earlier o (there b (q ∷ l)) ≡ some k → First rows kinds k
    by (some j) p b f r h = let g : j ≡ k = cc in subst (First rows kinds) g (r j p)
    by none p false f r h = clash (cc)
    by none p true f r h =
        let g : q ∷ l ≡ k = cc in
        let w = none_failed l u.1 d.1 p in
        let a = failed_of q.answer f in
        let x : First rows kinds (q ∷ l) = record { failed = q; before = l; is = refl; fails = a; went = w; none = λ s. n.1 a w s } in
        subst (First rows kinds) g x

module _ (rows : List Shape) (kinds : List Kind) (b : List (Option ℕ)) (log : List Equation) (claim : Claim rows kinds b log) (calm : None13 log) where
  -- what f) works on is the log at the first failure
  pub first : (k : List Equation) → until_failed log ≡ some k → First rows kinds k
  first k e = some_failed rows kinds log k calm claim.ended claim.noway e

  -- f): the equations it works on "have no common solution", where their sides are plain or Diverges got
  pub worked_none : (k : List Equation) → until_failed log ≡ some k → All (PlainPair rows) (in_order k) → NoCommon rows kinds (sides_at (in_order k)) (numbers (in_order k))
  worked_none k e h s =
      (first k e).none
      ((order_all (λ p. PlainSides rows p.0 p.1) k).1 (all_map (PlainPair rows) (λ p. PlainSides rows p.0 p.1) (in_order k) (plain_sided rows) h))
      s.0 s.1
      ((order_all (Solves rows s.0) k).1 ((numbers_all (Solves rows s.0) (in_order k)).1 s.2))
