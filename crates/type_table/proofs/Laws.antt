-- What the operations of this crate show where the check does not find it: a row taken apart, the end of the bindings, the fixed rows, the empty pool.
use Rattle.std.specs.Prelude.{None, Some}
use mathlib.Core.Path.{◌≡◌, refl, sym, ap, ◌∙◌}
use mathlib.Core.List.{List}
use Prim.Native.Nat.{ℕ, suc, zero, ◌+◌, ◌≤◌, ◌<◌}
use native.Mathlib.Omega.{arith}
use lib.ListN.{length, get_or, replicate, set, take, drop, length-take, length-drop}
use lib.Seq.{paste}
use native.Mathlib.Numerals.{add-one}
use borrow.Author.Tests.{le-ltb}
use borrow.Rule.Slice.PartMut.{put_mid}
use Rattle.std.proofs.lemmas.List.Edits.{paste_none, fill_from_more}
use Rattle.std.proofs.lemmas.Slice.{put_mid-paste}
use Rattle.type_table.specs.declared.Counts.{Counts}
use Rattle.type_table.specs.declared.TypeId.{TypeId}
use Rattle.type_table.specs.declared.InputRange.{InputRange}
use Rattle.type_table.specs.declared.Row.{Row}
use Rattle.type_table.specs.Memory.{head_at, number_at, output_at, first_at, count_at, counts}
use Rattle.type_table.specs.View.{type, view_of, view_in, onward_in, end_from, end_in}
use Rattle.type_table.specs.Made.{row_written, pushed, fixed_heads, fixed_widths, fixed_rows, pool_cells, cleared, start_in}

-- a row, taken apart
pub view_row : (m : List ℕ) (c : Counts) (x : TypeId) (h a : ℕ) (o : TypeId) (i : InputRange) (r : Row) → h ≡ head_at m c.types x.0 → a ≡ number_at m c.types x.0 → o.0 ≡ output_at m c.types x.0
    → (i.first ≡ first_at m c.types x.0) × (i.count ≡ count_at m c.types x.0) → r ≡ view_of h a o i → r ≡ view_in m c x
unfolding view_in
view_row m c x h a o i r p q s t e = rw (← p, ← q, ← s, ← t.0, ← t.1) e

-- ── the end of the bindings ──

module _ (m : List ℕ) (c : Counts) where
  pub end_start : (x n : ℕ) → n ≡ c.types + 1 → end_from m c n x ≡ end_in m c x
  unfolding end_in
  end_start x n h = rw h

  pub end_none : (x n : ℕ) → n ≡ 0 → 12 ≡ end_from m c n x
  end_none x n h = rw h

  pub end_open : (x n : ℕ) → 0 < n → None ≡ onward_in m c (type x) → x ≡ end_from m c n x
  end_open x zero h p = absurd (omega arith)
  end_open x (suc n) h p = rw (← p)

  pub end_on : (x n k : ℕ) (y : TypeId) → n ≡ k + 1 → Some y ≡ onward_in m c (type x) → end_from m c k y.0 ≡ end_from m c n x
  end_on x n k y h p = rw (h, add-one, ← p)

-- ── the start ──

-- one fixed type more
pub fixed_more : (m u w : List ℕ) (x h a : ℕ) → u ≡ fixed_rows m x → h ≡ get_or fixed_heads x 0 → a ≡ get_or fixed_widths x 0 → w ≡ row_written u x h a 0 0 0 → w ≡ fixed_rows m (x + 1)
unfolding fixed_rows
fixed_more m u w x h a p q r s = rw (add-one, ← p, ← q, ← r) s

pub fixed_all : (m m₀ u : List ℕ) (x : ℕ) → 47010 ≤ length m → m₀ ≡ cleared m pool_cells → u ≡ fixed_rows m₀ x → x ≡ 14 → pushed (counts 14 0 0) u ≡ start_in m
unfolding start_in
fixed_all m m₀ u x k q p e = rw (le-ltb (length m) 47010 k, ← q, p, e)

-- k cells from 37446 on, filled with 0
pub filled : (m : List ℕ) (k : ℕ) → 37446 + k ≤ length m → paste m 37446 (replicate k 0) k ≡ cleared m k
unfolding cleared
filled m zero h = sym (paste_none m 37446 (replicate 0 0))
filled m (suc k) h = sym (ap (λ (s : List ℕ). set s (37446 + k) 0) (sym (filled m k (omega arith))) ∙ (rw add-one at (fill_from_more m 37446 k 0 (omega arith))))

pub filled_all : (m w : List ℕ) (n : ℕ) → 47010 ≤ length m → n ≡ length (take 9564 (drop 37446 m)) → w ≡ replicate n 0 → put_mid 37446 9564 m w ≡ cleared m pool_cells
filled_all m w n h p e =
    let i : n ≡ 9564 = p ∙ simp (length-take, length-drop) (omega arith) in
    put_mid-paste 37446 9564 m w (replicate 9564 0) 9564 (e ∙ rw i) refl refl ∙ filled m 9564 (omega arith)
