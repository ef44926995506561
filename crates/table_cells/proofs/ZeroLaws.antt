-- What storing two cells, and zeros in a part of a table, leaves in it, over plain variables. Assumes nothing.
use mathlib.Core.Path.{◌≡◌, refl, sym, ap, ◌∙◌}
use mathlib.Core.List.{List, [], ◌∷◌}
use mathlib.Core.Bool.{Bool, true, false}
use Prim.Native.Nat.{ℕ, suc, ◌+◌, ◌-◌, ◌≤◌, min}
use native.Mathlib.Omega.{arith}
use native.Mathlib.Numerals.{towards_suc}
use lib.Dec.{leb}
use lib.ListN.{length, set, replicate, length-replicate, replicate-append-replicate}
use lib.Seq.{sets, length-sets, set_out, take_all}
use borrow.Author.Tests.{leb-true, leb-false}
use borrow.Rule.Slice.PartMut.{put_mid}
use Rattle.std.proofs.lemmas.List.Edits.{sets-eq}
use Rattle.std.proofs.lemmas.Slice.{put_mid-paste}
use Rattle.table_cells.specs.Stores.{sets_behind}

-- two stores
pub two_stores : (t t₁ w : List ℕ) (j a b : ℕ) → t₁ ≡ set t j a → w ≡ set t₁ (j + 1) b → w ≡ sets t j (a ∷ b ∷ [])
two_stores t t₁ w j a b p q = rw (q, p) (simp towards_suc)

-- k cells from i on, written at once
pub part_stored : (t ys : List ℕ) (i k : ℕ) → i + k ≤ length t → length ys ≡ k → put_mid i k t ys ≡ sets t i ys
part_stored t ys i k h e =
    put_mid-paste i k t ys ys k refl refl (sym e) ∙ rw (take_all k ys (omega (arith, e))) (sym (sets-eq ys t i (omega (arith, e)) ∙ rw e))

-- ── zeros ──

-- stores behind the end change nothing
sets_out : (t xs : List ℕ) (i : ℕ) → length t ≤ i → sets t i xs ≡ t
sets_out t [] i h = refl
sets_out t (x ∷ xs) i h = rw (set_out t i x h) (sets_out t xs (suc i) (omega arith))

module _ (t : List ℕ) (i e n : ℕ) (q : n ≡ min e (length t)) where
  -- no cell lies between the first one and the end of what is asked for, or of the table
  pub zeros_none : n ≤ i → t ≡ sets t i (replicate (e - i) 0)
  zeros_none h = by (leb e i) refl
    where
      by : (b : Bool) → leb e i ≡ b → t ≡ sets t i (replicate (e - i) 0)
      by true p = let z : e - i ≡ 0 = omega (arith, leb-true e i p) in rw z
      by false p = sym (sets_out t (replicate (e - i) 0) i (omega (arith, leb-false e i p)))

  -- the cells before n are all that are in the table
  pub zeros_all : (ys : List ℕ) → i ≤ n → ys ≡ replicate (n - i) 0 → put_mid i (n - i) t ys ≡ sets t i (replicate (e - i) 0)
  zeros_all ys h p =
      let z : e - i ≡ (n - i) + (e - n) = omega arith in
      let y : i + length (replicate {A = ℕ} (n - i) 0) ≡ n = omega (arith, length-replicate {A = ℕ} (n - i) 0) in
      part_stored t ys i (n - i) (omega arith) (ap length p ∙ length-replicate (n - i) 0)
      ∙ rw (p, z, ← replicate-append-replicate {A = ℕ} (n - i) (e - n) 0, ← sets_behind t i n (replicate (n - i) 0) (replicate (e - n) 0) y) (by (leb e n) refl)
    where
      by : (b : Bool) → leb e n ≡ b → sets t i (replicate (n - i) 0) ≡ sets (sets t i (replicate (n - i) 0)) n (replicate (e - n) 0)
      by true g = let z : e - n ≡ 0 = omega (arith, leb-true e n g) in rw z
      by false g = sym (sets_out (sets t i (replicate (n - i) 0)) (replicate (e - n) 0) n (omega (arith, leb-false e n g, length-sets t i (replicate {A = ℕ} (n - i) 0))))
