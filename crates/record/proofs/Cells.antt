-- What each return of a function over the cells of nodes and errors shows, over plain variables.
use Rattle.std.specs.Prelude.{None, Option as Option·R, Some}
use mathlib.Core.Path.{◌≡◌, refl, sym, ap, subst, ◌∙◌}
use mathlib.Core.List.{List, [], ◌∷◌}
use mathlib.Core.Option.{Option, none, some}
use Prim.Native.Nat.{ℕ, suc, zero, ◌+◌, ◌-◌, ◌*◌, ◌≤◌, ◌<◌}
use native.Mathlib.Omega.{arith}
use lib.ListN.{length, take, drop, length-drop, get_or, set, replicate, length-replicate}
use lib.Seq.{sets, paste}
use native.Mathlib.Numerals.{add-one}
use borrow.Rule.Slice.PartMut.{put_mid}
use Rattle.std.proofs.lemmas.List.Edits.{paste_none, fill_from_more}
use Rattle.std.proofs.lemmas.List.{length-take-le}
use Rattle.std.proofs.lemmas.Slice.{put_mid-paste}
use borrow.Author.Tests.{eq-eqb, ne_eqb}
use Rattle.type_table.specs.declared.TypeId.{TypeId}
use Rattle.type_table.specs.Memory.{cell}
use Rattle.type_table.specs.Tables.{get_d_tab, tab_out}
use Rattle.record.specs.declared.Extra.{Extra}
use Rattle.record.specs.declared.TypingError.{TypingError}
use Rattle.record.specs.declared.Record.{Record}
use Rattle.record.specs.Own.{most_nodes, nodes_at, errors_at, raw_at, raws_of, node_type, extra_tag, extra_value, kind_number, span_tag, span_value, second_tag, second_value, error_written}
use Rattle.record.specs.Steps.{or_nil, set_node_type, set_extra, set_final, error}
use Rattle.record.specs.Encodes.{Runs, Does}
use Rattle.record.specs.Operations.{with_errors, node_cells_lem, cleared}
use Rattle.record.specs.Writes.{typed_does, marked_does, resolved_does, emit_more}

-- ── the type of a node ──

module _ (m : List ℕ) (n : ℕ) where
  -- what is no node has none
  pub node_out : most_nodes ≤ n → None ≡ node_type (get_or (raws_of m) n none)
  node_out h = sym (ap node_type (tab_out (raw_at m) most_nodes n none h))

  module _ (h : n < most_nodes) (f : ℕ) (p : f ≡ cell m (nodes_at + n * 6)) where
    -- RAW where the flag is 1
    raw_typed : (x : ℕ) → f ≡ 1 → x ≡ cell m (nodes_at + n * 6 + 1) → raw_at m n ≡ some x
    unfolding raw_at
    raw_typed x q r = let z : nodes_at + n * 6 + 0 ≡ nodes_at + n * 6 = omega arith in rw (z, ← p, ← r, eq-eqb f 1 q)

    -- RAW where it is not
    raw_untyped : (f ≡ 1 → ⊥) → raw_at m n ≡ none
    unfolding raw_at
    raw_untyped q = let z : nodes_at + n * 6 + 0 ≡ nodes_at + n * 6 = omega arith in rw (z, ← p, ne_eqb f 1 q)

    -- a typed node
    pub node_typed : (x : ℕ) → f ≡ 1 → x ≡ cell m (nodes_at + n * 6 + 1) → Some (record { 0 = x }) ≡ node_type (get_or (raws_of m) n none)
    node_typed x q r = sym (ap node_type (get_d_tab (raw_at m) most_nodes n none h ∙ raw_typed x q r))

    -- an untyped node
    pub node_untyped : (f ≡ 1 → ⊥) → None ≡ node_type (get_or (raws_of m) n none)
    node_untyped q = sym (ap node_type (get_d_tab (raw_at m) most_nodes n none h ∙ raw_untyped q))

-- the type of what is typed
typed_or_nil : (o : Option ℕ) (r : Option·R TypeId) (t : TypeId) → r ≡ node_type o → r ≡ Some t → t.0 ≡ or_nil o
typed_or_nil none r t p q = let z : ◌≡◌ {A = ℕ} 0 1 = cc in absurd (omega arith)
typed_or_nil (some x) r t p q = let e : record { 0 = x } ≡ t = cc in ap (λ (y : TypeId). y.0) (sym e)

-- Nil for what is not
untyped_nil : (o : Option ℕ) (r : Option·R TypeId) → r ≡ node_type o → r ≡ None → 0 ≡ or_nil o
untyped_nil none r p q = refl
untyped_nil (some x) r p q = let z : ◌≡◌ {A = ℕ} 0 1 = cc in absurd (omega arith)

module _ (m : List ℕ) (n : ℕ) (r : Option·R TypeId) where
  -- the type of a typed node
  pub nil_typed : (t : TypeId) → r ≡ node_type (get_or (raws_of m) n none) → r ≡ Some t → t.0 ≡ or_nil (get_or (raws_of m) n none)
  nil_typed t p q = typed_or_nil (get_or (raws_of m) n none) r t p q

  -- Nil for an untyped one
  pub nil_untyped : r ≡ node_type (get_or (raws_of m) n none) → r ≡ None → 0 ≡ or_nil (get_or (raws_of m) n none)
  nil_untyped p q = untyped_nil (get_or (raws_of m) n none) r p q

-- ── two cells of a node ──

-- two stores are two cells in a row
two_sets : (m : List ℕ) (j k a b : ℕ) → k ≡ suc j → set (set m j a) k b ≡ sets m j (a ∷ b ∷ [])
two_sets m j k a b e = rw e

module _ (m m₁ w : List ℕ) (n : ℕ) (h : n < most_nodes) where
  -- RAW
  pub typed_stores : (t : ℕ) → m₁ ≡ set m (nodes_at + n * 6) 1 → w ≡ set m₁ (nodes_at + n * 6 + 1) t → Does m w (set_node_type n t)
  typed_stores t p q =
      let e : w ≡ sets m (nodes_at + n * 6 + 0) (1 ∷ t ∷ []) = let z : nodes_at + n * 6 + 0 ≡ nodes_at + n * 6 = omega arith in rw (q, p, z) (two_sets m (nodes_at + n * 6) (nodes_at + n * 6 + 1) 1 t (omega arith)) in
      rw e (typed_does m n t h)

  -- EXTRA
  pub marked_stores : (e : Extra) (a b : ℕ) → a ≡ extra_tag e → b ≡ extra_value e → m₁ ≡ set m (nodes_at + n * 6 + 2) a → w ≡ set m₁ (nodes_at + n * 6 + 3) b → Does m w (set_extra n e)
  marked_stores e a b s t p q =
      let e' : w ≡ sets m (nodes_at + n * 6 + 2) (extra_tag e ∷ extra_value e ∷ []) = rw (q, p, s, t) (two_sets m (nodes_at + n * 6 + 2) (nodes_at + n * 6 + 3) (extra_tag e) (extra_value e) (omega arith)) in
      rw e' (marked_does m n e h)

  -- FINAL
  pub resolved_stores : (t : ℕ) → m₁ ≡ set m (nodes_at + n * 6 + 4) 1 → w ≡ set m₁ (nodes_at + n * 6 + 5) t → Does m w (set_final n t)
  resolved_stores t p q =
      let e : w ≡ sets m (nodes_at + n * 6 + 4) (1 ∷ t ∷ []) = rw (q, p) (two_sets m (nodes_at + n * 6 + 4) (nodes_at + n * 6 + 5) 1 t (omega arith)) in
      rw e (resolved_does m n t h)

-- ── an error ──

-- the nine stores of an error
pub error_stores : (m m₁ m₂ m₃ m₄ m₅ m₆ m₇ m₈ w : List ℕ) (i : ℕ) (e : TypingError) (k p u q v : ℕ) → k ≡ kind_number e.kind → p ≡ span_tag e.at → u ≡ span_value e.at → q ≡ second_tag e.second → v ≡ second_value e.second
    → let j = errors_at + i * 9 in
    m₁ ≡ set m j k → m₂ ≡ set m₁ (j + 1) e.cause → m₃ ≡ set m₂ (j + 2) p → m₄ ≡ set m₃ (j + 3) u → m₅ ≡ set m₄ (j + 4) q → m₆ ≡ set m₅ (j + 5) v → m₇ ≡ set m₆ (j + 6) e.a → m₈ ≡ set m₇ (j + 7) e.b → w ≡ set m₈ (j + 8) e.c
    → w ≡ error_written m i e
unfolding error_written
error_stores m m₁ m₂ m₃ m₄ m₅ m₆ m₇ m₈ w i e k p u q v ek ep eu eq ev e₁ e₂ e₃ e₄ e₅ e₆ e₇ e₈ e₉ = rw (e₉, e₈, e₇, e₆, e₅, e₄, e₃, e₂, e₁, ek, ep, eu, eq, ev)

-- an error is written and counted
pub error_counted : (m w : List ℕ) (c : Record) (e : TypingError) → w ≡ error_written m c.errors e → Runs m c w (with_errors c (c.errors + 1)) (error e) tt
error_counted m w c e p = rw p (emit_more m c e)

-- ── the nodes are cleared ──

-- one more cell is zero
zeros_more : (d : List ℕ) (at i : ℕ) → at + i < length d → set (paste d at (replicate i 0) i) (at + i) 0 ≡ paste d at (replicate (suc i) 0) (suc i)
zeros_more d at i h = subst (λ (j : ℕ). set (paste d at (replicate i 0) i) (at + i) 0 ≡ paste d at (replicate j 0) j) (add-one i) (fill_from_more d at i 0 h)

-- k cells from the nodes' first on, replaced by zeros
cleared_paste : (m : List ℕ) (k : ℕ) → nodes_at + k ≤ length m → cleared m k ≡ paste m nodes_at (replicate k 0) k
unfolding cleared
cleared_paste m zero h = paste_none m nodes_at (replicate 0 0)
cleared_paste m (suc k) h = ap (λ (w : List ℕ). set w (nodes_at + k) 0) (cleared_paste m k (omega arith)) ∙ zeros_more m nodes_at k (omega arith)

-- the part of the nodes is filled with zeros
pub cleared_filled : (m ys : List ℕ) (k : ℕ) → nodes_at + k ≤ length m → ys ≡ replicate (length (take k (drop nodes_at m))) 0 → put_mid nodes_at k m ys ≡ cleared m k
cleared_filled m ys k h e =
    let z : length (take k (drop nodes_at m)) ≡ k = length-take-le k (drop nodes_at m) (simp length-drop (omega arith)) in
    put_mid-paste nodes_at k m ys (replicate k 0) k (e ∙ rw z) refl (sym (length-replicate k 0)) ∙ sym (cleared_paste m k h)
