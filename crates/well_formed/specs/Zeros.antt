-- All of a table past its used rows is zero: what that says, and that a line keeps it.
-- Assumes nothing.
use Rattle.std.specs.Prelude.{ℕ, zero, suc, ◌+◌, ◌*◌, ◌<◌, ◌≤◌, ◌≡◌, refl, List, length, get_or, replicate}
use Rattle.std.proofs.Common.{arith, ◌∙◌}
use Rattle.std.proofs.Math.Path.{ap}
use Rattle.forms.specs.declared.Cell.{Cell}
use Rattle.forms.specs.Form.{key_node, store_from}
use Rattle.refs.specs.declared.Counts.{Counts}
use Rattle.refs.specs.Refs.{nodes_at}
use Rattle.body.specs.Body.{limit_of, count_of, base_of, counted, put_row, rows_length, zeros}
use Rattle.well_formed.specs.Stored.{stored_behind, put_outside}
use Rattle.well_formed.specs.Counting.{counted_fields, counted_more, counted_own, rows_inside, rows_apart}

-- zero are the cells behind the fields, the rows of each key behind those that it has, and all behind the row of `fn`
pub record ZeroBehind (n : Counts) (rows cells : List ℕ) : Type 0 where
  pub cells_zero : (j : ℕ) → n.fields * 3 ≤ j → get_or cells j 0 ≡ 0
  pub rows_zero : (k i c : ℕ) → k ≤ key_node → count_of n k ≤ i → i < limit_of k → c < 5 → get_or rows ((base_of k + i) * 5 + c) 0 ≡ 0
  pub end_zero : (j : ℕ) → rows_length ≤ j → get_or rows j 0 ≡ 0

-- a list of zeros has no other number
pub zero_at : (m j : ℕ) → get_or {A = ℕ} (replicate m 0) j 0 ≡ 0
zero_at zero j = refl
zero_at (suc m) zero = refl
zero_at (suc m) (suc j) = zero_at m j

-- so tables of zeros are zero behind any counts
pub zeros_behind : (n : Counts) (rows cells : List ℕ) → ZeroBehind n (zeros rows) (zeros cells)
zeros_behind n rows cells = record {
  cells_zero = λ j h. zero_at (length cells) j;
  rows_zero = λ k i c h b l q. zero_at (length rows) ((base_of k + i) * 5 + c);
  end_zero = λ j h. zero_at (length rows) j;
}

module _ (n : Counts) (k : ℕ) (limited : (j : ℕ) → count_of n j ≤ limit_of j) (hk : k < 6) (room : count_of n k < limit_of k) where
  -- there are at most 1,024 nodes
  nodes_limited : n.nodes ≤ 1024
  unfolding count_of limit_of
  nodes_limited = limited key_node

  -- a row that is not used behind the line is not the line's,
  unused_apart : (m j i : ℕ) → j ≤ key_node → count_of (counted n k m) j ≤ i → i < limit_of j → base_of j + i ≡ base_of k + count_of n k → ⊥
  unused_apart m j i h b l e =
      let same : j ≡ k = rows_apart j k i (count_of n k) (omega arith) hk l room e in
      omega (arith, ap base_of same, ap (count_of n) same, counted_own n k m (omega arith), ap (count_of (counted n k m)) same)

  -- nor a node's that the line may use
  unused_node : (m j i x : ℕ) → j ≤ key_node → count_of (counted n k m) j ≤ i → i < limit_of j → x < n.nodes → base_of j + i ≡ nodes_at + x → ⊥
  unfolding base_of count_of limit_of
  unused_node m j i x h b l u e =
      let same : j ≡ key_node = rows_apart j key_node i x (omega arith) (omega arith) l (omega (arith, nodes_limited)) e in
      omega (arith, ap base_of same, ap (count_of n) same, counted_more n k m j h)

  -- a line keeps what is zero
  pub zero_line : (f : ℕ) (l : List Cell) (d : ℕ) (rows rows' cells : List ℕ)
      → ((x : ℕ) → ((y : ℕ) → y < n.nodes → x ≡ (nodes_at + y) * 5 + 4 → ⊥) → get_or rows' x 0 ≡ get_or rows x 0)
      → ZeroBehind n rows cells
      → ZeroBehind (counted n k (length l)) (put_row rows' (base_of k + count_of n k) f n.fields (length l) d) (store_from cells n.fields l)
  zero_line f l d rows rows' cells outside z = record {
    cells_zero = λ j h.
        stored_behind cells n.fields l j (omega (arith, counted_fields n k (length l)))
        ∙ z.cells_zero j (omega (arith, counted_fields n k (length l)));
    rows_zero = λ j i c h b t u.
        put_outside rows' (base_of k + count_of n k) f n.fields (length l) d ((base_of j + i) * 5 + c) (λ y v e. unused_apart (length l) j i h b t (omega (arith, e)))
        ∙ outside ((base_of j + i) * 5 + c) (λ y v e. unused_node (length l) j i y h b t v (omega (arith, e)))
        ∙ z.rows_zero j i c h (omega (arith, counted_more n k (length l) j h)) t u;
    end_zero = λ j h.
        put_outside rows' (base_of k + count_of n k) f n.fields (length l) d j (λ y v e. omega (arith, e, rows_inside k hk))
        ∙ outside j (λ y v e. omega (arith, e, nodes_limited))
        ∙ z.end_zero j h;
  }
