-- More steps change nothing: of an equation that ended, and of the searches for a variable over sound bindings. Assumes what each statement says.
use Rattle.std.specs.Prelude.{◌≡◌, List, length}
use Rattle.std.proofs.Math.Option.{Option}
use Prim.Native.Nat.{ℕ, ◌≤◌}
use Rattle.std.proofs.Common.{arith}
use Rattle.theory.specs.Rules.{Shape, Kind, leads, far}
use Rattle.theory.specs.Graph.{Good, leads_more}

module _ (rows : List Shape) (kinds : List Kind) where
  -- ── the searches ──

  -- and a row that leads to it within any more steps leads to it
  pub leads_enough : (b : List (Option ℕ)) → Good rows kinds b → (v x k : ℕ) → far rows b v ≤ k → leads rows b v k x ≡ leads rows b v (far rows b v) x
  leads_enough b good v x k l =
      let top : good.rank x ≤ length rows = good.top x in
      leads_more rows kinds b good v k (far rows b v) x (omega (arith, top)) (omega (arith, top))
