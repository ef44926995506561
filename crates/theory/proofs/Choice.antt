-- Which step the heads of plain rows and a got Diverges call for, and where the roles of two variables are exchanged. Assumes nothing.
use Rattle.std.specs.Prelude.{◌≡◌, refl, true, false, ℕ, List}
use Rattle.std.proofs.Math.Option.{some}
use Rattle.theory.specs.Rules.{Shape, base, var, arr, ref, fn, fun, lam, err, div, Kind, regular, integer, floating, kind_fits, kind, fits, kinds_exchange, exchanged, as_var}
use Rattle.theory.specs.Basics.{clash}

-- ── the roles ──

-- kinds that fit keep their roles
fit_kept : (k l : Kind) → kind_fits k l ≡ true → kinds_exchange k l ≡ false
fit_kept regular l e = refl
fit_kept integer regular e = clash (cc)
fit_kept integer integer e = refl
fit_kept integer floating e = refl
fit_kept floating regular e = clash (cc)
fit_kept floating integer e = refl
fit_kept floating floating e = refl

-- where the kind test is passed, the roles are kept
pub fits_kept : (kinds : List Kind) (v : ℕ) (s : Shape) → fits kinds (kind kinds v) s ≡ true → exchanged kinds (some v) (as_var s) ≡ false
fits_kept kinds v (base b) e = refl
fits_kept kinds v (var u) e = fit_kept (kind kinds v) (kind kinds u) e
fits_kept kinds v (arr y) e = refl
fits_kept kinds v (ref y) e = refl
fits_kept kinds v (fn d) e = refl
fits_kept kinds v (fun n o i) e = refl
fits_kept kinds v (lam n o i) e = refl
fits_kept kinds v err e = refl
fits_kept kinds v div e = refl
