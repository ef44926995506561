-- The last sentence of request n): no equation of a walk fails or is refused 12 exactly if all of them have a common solution. Assumes demand 3's invariant (`Claim`) and
-- that no equation was refused 13, which `none_13` of Thirteen proves of each walk that does not end in 13, with or without a negation.
use Rattle.std.specs.Prelude.{◌≡◌, refl, ◌↔◌, List, ℕ}
use Rattle.std.proofs.Math.Option.{Option, none, some}
use Rattle.theory.specs.Rules.{Shape, Kind, Out, success, mismatch, refused12, refused13, dry}
use Rattle.theory.specs.Program.{Equation}
use Rattle.theory.specs.Basics.{All, all_map, clash}
use Rattle.theory.specs.Ways.{Sided, Meets, Went, Failed}
use Rattle.theory.specs.Exist.{way}
use Rattle.theory.proofs.Exist.{way_agrees, way_kinded}
use Rattle.theory.specs.Demand.{Claim}
use Rattle.conflict_theory.specs.Worked.{until_failed, until_failed_part, None13, none_failed}
use Rattle.conflict_theory.proofs.Worked.{first}
use Rattle.conflict_theory.specs.CommonSolution.{NoneFails, AllMet}

-- ── proofs ──

not_failed : (o : Out) → o ≡ success → Failed o → ⊥
not_failed success e h = h
not_failed mismatch e h = clash (cc)
not_failed refused12 e h = clash (cc)
not_failed refused13 e h = h
not_failed dry e h = h

module _ (rows : List Shape) (kinds : List Kind) (b : List (Option ℕ)) (log : List Equation) (claim : Claim rows kinds b log) (calm : None13 log) (sides : All (Sided rows) log) where
  met_of_went : All Went log → AllMet rows kinds log
  met_of_went o =
      let u = way rows kinds claim.lower b claim.good in
      let k = way_kinded rows kinds claim.lower b claim.good in
      (u, k, ((claim.holds o sides).1 u k).0 (way_agrees rows kinds claim.lower b claim.good))

  -- n): "no equation fails or is refused 12 exactly if all of them have a common solution"
  pub none_fails_exactly : NoneFails log ↔ AllMet rows kinds log
  none_fails_exactly = (to (until_failed log) refl, back (until_failed log) refl)
    where
      to : (o : Option (List Equation)) → until_failed log ≡ o → NoneFails log → AllMet rows kinds log
      to none e h = met_of_went (none_failed log calm claim.ended e)
      to (some k) e h = let f = first rows kinds b log claim calm k e in absurd ((rw f.is at (until_failed_part (λ q. Failed q.answer → ⊥) log k e h)).0 f.fails)

      back : (o : Option (List Equation)) → until_failed log ≡ o → AllMet rows kinds log → NoneFails log
      back none e s = all_map Went (λ q. Failed q.answer → ⊥) log (λ q. not_failed q.answer) (none_failed log calm claim.ended e)
      back (some k) e s = absurd ((first rows kinds b log claim calm k e).none (until_failed_part (Sided rows) log k e sides) s.0 s.1 (until_failed_part (Meets rows s.0) log k e s.2))
