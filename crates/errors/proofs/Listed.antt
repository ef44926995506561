-- What the filling of a table shows, over plain variables. Assumes nothing.
use mathlib.Core.Path.{◌≡◌, refl, sym, ap, ◌∙◌}
use Prim.Native.Nat.{ℕ, zero, suc, min, ◌+◌, ◌-◌, ◌≤◌, ◌<◌}
use native.Mathlib.Decide.{dec_lt}
use native.Mathlib.Omega.{arith}
use native.Mathlib.Numerals.{add-one}
use mathlib.Core.List.{List}
use lib.ListN.{length, set, replicate, take, drop, length-replicate, length-take, length-drop}
use lib.Seq.{set_out, paste}
use borrow.Rule.Slice.PartMut.{put_mid}
use Rattle.std.proofs.lemmas.List.Edits.{paste_none, fill_from_more}
use Rattle.std.proofs.lemmas.Slice.{put_mid-paste}
use Rattle.errors.specs.declared.ErrorRow.{ErrorRow}
use Rattle.errors.specs.Rows.{filled_to}
use Rattle.errors.specs.Filling.{length-filled}

-- before the first turn nothing is filled
pub none_yet : (t : List ErrorRow) (f : ℕ → ErrorRow) → t ≡ filled_to t f 0
unfolding filled_to
none_yet t f = refl

-- the row k written into a table with k rows filled makes one with k + 1 rows filled
pub one_more_lem : (t : List ErrorRow) (f : ℕ → ErrorRow) (k : ℕ) (y : ErrorRow) → y ≡ f k → set (filled_to t f k) k y ≡ filled_to t f (k + 1)
unfolding filled_to
one_more_lem t f k y e = ap (set (filled_to t f k) k) e ∙ ap (filled_to t f) (sym (add-one k))

-- the same of tables and rows by their names
pub one_more : (t : List ErrorRow) (f : ℕ → ErrorRow) (k : ℕ) (u v : List ErrorRow) (y : ErrorRow) → u ≡ filled_to t f k → y ≡ f k → v ≡ set u k y → v ≡ filled_to t f (k + 1)
one_more t f k u v y p q e = e ∙ ap (λ (x : List ErrorRow). set x k y) p ∙ one_more_lem t f k y q

-- past the last row nothing is filled
pub past_last : (t : List ErrorRow) (f : ℕ → ErrorRow) (k : ℕ) → length t ≤ k → filled_to t f (length t) ≡ filled_to t f k
unfolding filled_to
past_last t f zero h = let e : length t ≡ zero = omega arith in ap (filled_to t f) e
past_last t f (suc k) h = by (past_last t f k) (dec_lt k (length t))
  where
    by : (length t ≤ k → filled_to t f (length t) ≡ filled_to t f k) → Dec (k < length t) → filled_to t f (length t) ≡ filled_to t f (suc k)
    by again (yes g) = let e : length t ≡ suc k = omega arith in ap (filled_to t f) e
    by again (no g) = again (omega arith) ∙ sym (set_out (filled_to t f k) k _ (omega (arith, length-filled t f k)))

-- k rows from the row a on, filled with the row that stands behind all from there on
behind_filled : (t : List ErrorRow) (f : ℕ → ErrorRow) (a : ℕ) (z : ErrorRow) (k : ℕ) → ((i : ℕ) → a ≤ i → i < a + k → z ≡ f i) → a + k ≤ length t → paste (filled_to t f a) a (replicate k z) k ≡ filled_to t f (a + k)
unfolding filled_to
behind_filled t f a z zero g h = let e : a ≡ a + 0 = omega arith in sym (paste_none (filled_to t f a) a (replicate 0 z)) ∙ ap (filled_to t f) e
behind_filled t f a z (suc k) g h =
    let e : suc (a + k) ≡ a + suc k = omega arith in
    sym (rw add-one at (fill_from_more (filled_to t f a) a k z (omega (arith, length-filled t f a))))
    ∙ ap (λ (s : List ErrorRow). set s (a + k) z) (behind_filled t f a z k (λ i p q. g i p (omega arith)) (omega arith))
    ∙ ap (set (filled_to t f (a + k)) (a + k)) (g (a + k) (omega arith) (omega arith))
    ∙ ap (filled_to t f) e

-- the rows from a on, up to the stop, filled so
pub all_filled : (t u w : List ErrorRow) (f : ℕ → ErrorRow) (a stop end n : ℕ) (z : ErrorRow) → ((i : ℕ) → a ≤ i → i < stop → z ≡ f i) → u ≡ filled_to t f a → a ≤ stop → stop ≡ min (length t) end → n ≡ length (take (stop - a) (drop a u)) → w ≡ replicate n z
    → put_mid a (stop - a) u w ≡ filled_to t f end
all_filled t u w f a stop end n z g p l m q e =
    let size : length u ≡ length t = ap length p ∙ length-filled t f a in
    let k : n ≡ stop - a = q ∙ simp (length-take, length-drop) (omega arith) in
    let s : a + (stop - a) ≡ stop = omega arith in
    put_mid-paste a (stop - a) u w (replicate (stop - a) z) (stop - a) (e ∙ ap (λ (j : ℕ). replicate j z) k) refl (sym (length-replicate (stop - a) z))
    ∙ ap (λ (x : List ErrorRow). paste x a (replicate (stop - a) z) (stop - a)) p
    ∙ behind_filled t f a z (stop - a) (λ i p q. g i p (omega arith)) (omega arith)
    ∙ ap (filled_to t f) s
    ∙ by (dec_lt (length t) end)
  where
    by : Dec (length t < end) → filled_to t f stop ≡ filled_to t f end
    by (yes h) = let i : stop ≡ length t = omega arith in ap (filled_to t f) i ∙ past_last t f end (omega arith)
    by (no h) = let i : stop ≡ end = omega arith in ap (filled_to t f) i
