-- What the answer of `unify` says of the ways that agree with the bindings in the memory.
use Rattle.std.specs.Prelude.{◌≡◌, refl, ◌↔◌, List, ℕ}
use Rattle.std.proofs.Math.Path.{ap}
use Rattle.theory.specs.Rules.{Out, success, mismatch, refused12, refused13, dry, Mem}
use Rattle.theory.specs.Program.{clip}
use Rattle.theory.specs.Ways.{Way, Kinded, Plain, den, Agrees, Failed}
use Rattle.theory.specs.Sound.{Fair}
use Rattle.theory.proofs.Sound.{success_exact, failed_none}
use Rattle.theory.specs.Exist.{way}
use Rattle.theory.proofs.Exist.{way_agrees, way_kinded}
use Rattle.theory.specs.Keep.{Ended}
use Rattle.type_table.specs.declared.Counts.{Counts}
use Rattle.type_table.specs.declared.TypeId.{TypeId}
use Rattle.type_table.specs.Memory.{binds_of, mem_of}
use Rattle.type_table.specs.Sound.{Sound}
use Rattle.unify.specs.declared.Answer.{Answer}
use Rattle.unify.specs.declared.Answer.TheVariants.{Success, Mismatch, Refused12, Refused13}
use Rattle.search.specs.Search.{binds_in}
use Rattle.unify.specs.Keeps.{held_sound, never_dry}
use Rattle.unify.specs.Promise.{Solved, SolvedBy, answer_is, kinds_in, mem_in, rows_in, solve_in}

-- the row that counts for x
abbrev pub row_of : Counts → TypeId → ℕ
row_of c x = clip c.types x.0

-- both sides are plain, and so is what each variable is bound to
pub record PlainSides (m : List ℕ) (c : Counts) (x y : TypeId) : Type 0 where
  pub expected : Plain (rows_in m c) (row_of c x)
  pub got : Plain (rows_in m c) (row_of c y)
  pub bindings : Fair (rows_in m c) (binds_in m c)

-- a mismatch, or refused 12
abbrev pub Fails : Answer → Type 0
Fails Success = ⊥
Fails Mismatch = Unit {0}
Fails Refused12 = Unit {0}
Fails Refused13 = ⊥

success_of : (o : Out) → Success ≡ answer_is o → o ≡ success
success_of success e = refl
success_of mismatch e = cc
success_of refused12 e = cc
success_of refused13 e = cc
success_of dry e = cc

failed_of : (o : Out) (r : Answer) → r ≡ answer_is o → Fails r → Ended o → Failed o
failed_of success r e f n = rw e at f
failed_of mismatch r e f n = tt
failed_of refused12 r e f n = tt
failed_of refused13 r e f n = rw e at f
failed_of dry r e f n = n

module _ (m : List ℕ) (c : Counts) (sound : Sound m c) (x y : TypeId) (plain : PlainSides m c x y) where
  given : (w : List ℕ) (r : Answer) → Solved m c x y w r → SolvedBy m c x y w r
  given w r s = rw (held_sound m c sound) at s

  -- success keeps exactly the agreeing ways that meet the equation
  pub unify_success : (w : List ℕ) → Solved m c x y w Success → (f : Way) → Kinded (kinds_in m c) f → Agrees (rows_in m c) (binds_in w c) f ↔ (Agrees (rows_in m c) (binds_in m c) f × (den (rows_in m c) f (row_of c x) ≡ den (rows_in m c) f (row_of c y)))
  unfolding solve_in mem_of
  unify_success w s f k =
      let t = given w Success s in
      let b : binds_of w c.vars ≡ (solve_in m c x.0 y.0).1.binds = ap (λ (z : Mem). z.binds) t.memory in
      rw b ((success_exact (rows_in m c) (kinds_in m c) sound.lower (mem_in m c) (row_of c x) (row_of c y) plain.expected plain.got plain.bindings (success_of (solve_in m c x.0 y.0).0 t.answer)).1 f k)

  -- a mismatch, or 12, leaves no agreeing way that meets it
  pub unify_failed : (w : List ℕ) (r : Answer) → Solved m c x y w r → Fails r → (f : Way) → Kinded (kinds_in m c) f → Agrees (rows_in m c) (binds_in m c) f → den (rows_in m c) f (row_of c x) ≡ den (rows_in m c) f (row_of c y) → ⊥
  unfolding solve_in mem_of
  unify_failed w r s e =
      failed_none (rows_in m c) (kinds_in m c) sound.lower (mem_in m c) (row_of c x) (row_of c y) plain.expected plain.got plain.bindings
      (failed_of (solve_in m c x.0 y.0).0 r (given w r s).answer e (never_dry m c sound x y))

-- a way that agrees with the bindings exists
pub agreeing_way : (m : List ℕ) (c : Counts) → Sound m c → (f : Way) × Kinded (kinds_in m c) f × Agrees (rows_in m c) (binds_in m c) f
agreeing_way m c s =
    (way (rows_in m c) (kinds_in m c) s.lower (binds_in m c) s.good, way_kinded (rows_in m c) (kinds_in m c) s.lower (binds_in m c) s.good, way_agrees (rows_in m c) (kinds_in m c) s.lower (binds_in m c) s.good)
