-- What each return and turn of a function over the table of nodes shows, over plain variables.
use mathlib.Core.Path.{◌≡◌, refl, sym, ap, ◌∙◌}
use mathlib.Core.List.{List, [], ◌∷◌}
use mathlib.Core.Option.{Option, none}
use Prim.Native.Nat.{ℕ, suc, zero, ◌+◌, ◌-◌, ◌*◌, ◌≤◌, ◌<◌}
use native.Mathlib.Omega.{arith}
use native.Mathlib.Numerals.{towards_suc}
use lib.ListN.{length, get_or, replicate}
use lib.Seq.{sets}
use borrow.Author.Tests.{eq-eqb, ne_eqb}
use Rattle.type_table.specs.Memory.{cell, tab}
use Rattle.type_table.specs.Tables.{get_d_tab}
use Rattle.nodes.specs.Nodes.{res_of}
use Rattle.record.specs.declared.Record.{Record}
use Rattle.record.specs.declared.Extra.{Extra}
use Rattle.record.specs.declared.Extra.TheVariants as extra
use Rattle.record.specs.Own.{most_nodes, nodes_at, Own, flagged, extra_of, extra_tag, extra_value, raw_at, extra_at, final_at, own_of}
use Rattle.tables.specs.Rows.{padded, cells_to, Fills}
use Rattle.tables.specs.RowLaws.{cells_ext}
use Rattle.tables.specs.Nodes.{option_cells, extra_cells, node_cells, option_in, extra_in, node_in, node_table, node_room}
use Rattle.tables.proofs.CellLaws.{rows_more, rows_filled}

-- ── a flag and its number ──

-- where the flag is 1
pub option_some : (m t w : List ℕ) (f j a x : ℕ) → a ≡ cell m f → a ≡ 1 → x ≡ cell m (f + 1) → w ≡ sets t j (1 ∷ x ∷ []) → w ≡ sets t j (option_in m f)
unfolding option_in
option_some m t w f j a x p q r e = rw (← p, ← r, eq-eqb a 1 q) e

-- where it is not
pub option_none : (m t w : List ℕ) (f j a : ℕ) → a ≡ cell m f → (a ≡ 1 → ⊥) → w ≡ sets t j (0 ∷ 0 ∷ []) → w ≡ sets t j (option_in m f)
unfolding option_in
option_none m t w f j a p q e = rw (← p, ne_eqb a 1 q) e

-- ── EXTRA ──

-- a tag stays
pub tag_low : (a b : ℕ) → a < 9 → a ≡ extra_tag (extra_of a b)
unfolding extra_of res_of
tag_low zero b h = refl
tag_low (suc zero) b h = refl
tag_low (suc (suc zero)) b h = refl
tag_low (suc (suc (suc zero))) b h = refl
tag_low (suc (suc (suc (suc zero)))) b h = refl
tag_low (suc (suc (suc (suc (suc zero))))) b h = refl
tag_low (suc (suc (suc (suc (suc (suc zero)))))) b h = refl
tag_low (suc (suc (suc (suc (suc (suc (suc zero))))))) b h = refl
tag_low (suc (suc (suc (suc (suc (suc (suc (suc zero)))))))) b h = refl
tag_low (suc (suc (suc (suc (suc (suc (suc (suc (suc a))))))))) b h = absurd (omega arith)

-- what is no tag is o
pub tag_high : (a b : ℕ) → 9 ≤ a → 6 ≡ extra_tag (extra_of a b)
unfolding extra_of res_of
tag_high a b h = rw (ne_eqb a 0 (λ q. omega arith), ne_eqb a 7 (λ q. omega arith), ne_eqb a 8 (λ q. omega arith), ne_eqb a 1 (λ q. omega arith), ne_eqb a 2 (λ q. omega arith), ne_eqb a 3 (λ q. omega arith), ne_eqb a 4 (λ q. omega arith), ne_eqb a 5 (λ q. omega arith))

-- the cells of an EXTRA
pub extra_stores : (m t w : List ℕ) (f j a b x y : ℕ) → a ≡ cell m f → b ≡ cell m (f + 1) → x ≡ extra_tag (extra_of a b) → y ≡ extra_value (extra_of a b) → w ≡ sets t j (x ∷ y ∷ []) → w ≡ sets t j (extra_in m f)
unfolding extra_in
extra_stores m t w f j a b x y p q r s e = rw (← p, ← q, ← r, ← s) e

-- ── rows ──

-- three stores of two cells are a row
three_pairs : (t : List ℕ) (j : ℕ) (r : Option ℕ) (e : Extra) (f : Option ℕ) → sets (sets (sets t j (option_cells r)) (j + 2) (extra_cells e)) (j + 4) (option_cells f) ≡ sets t j (node_cells r e f)
three_pairs t j r e f = simp towards_suc

-- the row of a node
pub node_stores : (m t t₁ t₂ w : List ℕ) (i j f : ℕ) → j ≡ i * 6 → f ≡ nodes_at + j → t₁ ≡ sets t j (option_in m f) → t₂ ≡ sets t₁ (j + 2) (extra_in m (f + 2)) → w ≡ sets t₂ (j + 4) (option_in m (f + 4)) → w ≡ sets t (i * 6) (node_in m i)
unfolding node_in option_in extra_in raw_at extra_at final_at
node_stores m t t₁ t₂ w i j f pj pf p q r =
    let z0 : nodes_at + i * 6 + 0 ≡ f = omega arith in
    let z1 : nodes_at + i * 6 + 1 ≡ f + 1 = omega arith in
    let z2 : nodes_at + i * 6 + 2 ≡ f + 2 = omega arith in
    let z3 : nodes_at + i * 6 + 3 ≡ f + 2 + 1 = omega arith in
    let z4 : nodes_at + i * 6 + 4 ≡ f + 4 = omega arith in
    let z5 : nodes_at + i * 6 + 5 ≡ f + 4 + 1 = omega arith in
    rw (z0, z1, z2, z3, z4, z5, ← pj, r, q, p) (three_pairs t j (flagged (cell m f) (cell m (f + 1))) (extra_of (cell m (f + 2)) (cell m (f + 2 + 1))) (flagged (cell m (f + 4)) (cell m (f + 4 + 1))))

-- it has six cells
length_node : (m : List ℕ) (i : ℕ) → length (node_in m i) ≡ 6
unfolding node_in
length_node m i = refl

-- ── the table ──

-- the first k of n nodes that are read from the memory
nodes_in : (m : List ℕ) (n k : ℕ) → k ≤ n → cells_to (λ i. node_cells (get_or (tab (raw_at m) n) i none) (get_or (tab (extra_at m) n) i extra.Absent) (get_or (tab (final_at m) n) i none)) k ≡ cells_to (node_in m) k
unfolding node_in
nodes_in m n k h =
    cells_ext (λ i. node_cells (get_or (tab (raw_at m) n) i none) (get_or (tab (extra_at m) n) i extra.Absent) (get_or (tab (final_at m) n) i none)) (node_in m) k
    (λ i l. rw (get_d_tab (raw_at m) n i none (omega arith), get_d_tab (extra_at m) n i extra.Absent (omega arith), get_d_tab (final_at m) n i none (omega arith)))

-- the nodes of a state are those of the memory
table_in : (m : List ℕ) (o k : ℕ) → k ≤ most_nodes → node_table (own_of m o) k ≡ cells_to (node_in m) k
unfolding own_of
table_in m o k h = nodes_in m most_nodes k h

-- a turn stores one node more
pub nodes_more : (m t₀ t w : List ℕ) (i : ℕ) → t ≡ sets t₀ 0 (cells_to (node_in m) i) → w ≡ sets t (i * 6) (node_in m i) → w ≡ sets t₀ 0 (cells_to (node_in m) (i + 1))
nodes_more m t₀ t w i p q = rows_more (node_in m) 6 (length_node m) t₀ t w i p q

-- the nodes, and zeros behind them
pub nodes_filled : (m : List ℕ) (c : Record) (k i : ℕ) (t₀ t w : List ℕ) → i ≤ k → k ≤ i → t ≡ sets t₀ 0 (cells_to (node_in m) i) → w ≡ sets t (k * 6) (replicate (length t - k * 6) 0) → Fills m c (node_room k (length t₀)) (λ s. padded (length t₀) (node_table s.own k)) w
nodes_filled m c k i t₀ t w h h' p q = record {
  fills = λ s e room.
      let z : i ≡ k = omega arith in
      rows_filled (node_in m) 6 (length_node m) t₀ t w k room.1 (rw z at p) q ∙ ap (padded (length t₀)) (sym (table_in m c.output.0 k room.0) ∙ ap (λ (o : Own). node_table o k) (sym e.own));
}
