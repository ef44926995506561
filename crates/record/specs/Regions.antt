-- What a write behind the tables changes in the nodes, the errors and the log, and what it keeps.
use Rattle.std.specs.Prelude.{◌≡◌, ◌≢◌, List, [], ◌∷◌, ℕ, suc, zero, ◌+◌, ◌*◌, ◌≤◌, ◌<◌, get_or, set, length, replicate}
use Rattle.std.proofs.Math.Path.{refl}
use Rattle.std.proofs.Common.{sym, ap, ◌∙◌, arith, add-one, length-set, get_or-set_same, get_or-set_other}
use Rattle.std.proofs.Math.Option.{Option, none, some}
use Rattle.std.proofs.Math.Decide.{ℕ_discrete}
use Rattle.std.proofs.Math.Numerals.{towards_suc}
use Rattle.std.proofs.Math.Seq.{set_out, sets}
use Rattle.theory.specs.Program.{Equation}
use Rattle.type_table.specs.Memory.{cell, tab}
use Rattle.type_table.specs.Tables.{length_tab, tab_ext, tab_set}
use Rattle.type_table.specs.Frames.{SameIn, set_above}
use Rattle.record.specs.declared.Extra.{Extra}
use Rattle.record.specs.declared.Extra.TheVariants as extra
use Rattle.record.specs.declared.TypingError.{TypingError}
use Rattle.record.specs.Own.{most_nodes, nodes_at, errors_at, log_at, Own, node_cell, error_cell, raw_at, extra_of, extra_at, final_at, own_of, raws_of, blank, typed, marked, resolved, extra_tag, extra_value, kind_number, span_tag, span_value, second_tag, second_value, error_at, error_written, errors_of}
use Rattle.record.specs.Codes.{extra_read, kind_read, span_read, second_read}
use Rattle.record.specs.Encodes.{Logged}
use Rattle.record.specs.Operations.{cleared}

-- ── definitions ──

-- the cells from lo on are the same
abbrev pub SameFrom : List ℕ → List ℕ → ℕ → Type 0
SameFrom m w lo = (i : ℕ) → lo ≤ i → cell w i ≡ cell m i

-- what the walk keeps of its own, as its three lists
abbrev own_with : ℕ → List (Option ℕ) → List Extra → List (Option ℕ) → Own
own_with o r e f = record { output = o; raw = r; extra = e; final = f }

-- the cell k of the first n nodes is the same
abbrev SameNodes : List ℕ → List ℕ → ℕ → ℕ → Type 0
SameNodes m w n k = (x : ℕ) → x < n → node_cell w x k ≡ node_cell m x k

-- ── cells in a row ──

-- the other cells stay
pub sets_other : (m : List ℕ) (j : ℕ) (vs : List ℕ) (i : ℕ) → ((k : ℕ) → k < length vs → i ≢ j + k) → cell (sets m j vs) i ≡ cell m i
sets_other m j [] i h = refl
sets_other m j (a ∷ vs) i h = sets_other (set m j a) (suc j) vs i (λ k l r. h (suc k) (omega arith) (omega arith)) ∙ get_or-set_other m j i a 0 (λ r. h 0 (omega arith) (omega arith))

-- each cell has its value
pub sets_at : (m : List ℕ) (j : ℕ) (vs : List ℕ) (k : ℕ) → k < length vs → j + length vs ≤ length m → cell (sets m j vs) (j + k) ≡ get_or vs k 0
sets_at m j [] k h l = absurd (omega arith)
sets_at m j (a ∷ vs) zero h l =
    let z : j + 0 ≡ j = omega arith in
    rw z (sets_other (set m j a) (suc j) vs j (λ k q r. omega arith) ∙ get_or-set_same m j a 0 (omega arith))
sets_at m j (a ∷ vs) (suc k) h l =
    let z : j + suc k ≡ suc j + k = omega arith in
    rw z (sets_at (set m j a) (suc j) vs k (omega arith) (rw length-set (omega arith)))

-- ── what the errors and the log keep ──

-- the cells of an error are the same
error_kept : (m w : List ℕ) (i : ℕ) → ((k : ℕ) → k < 9 → error_cell w i k ≡ error_cell m i k) → error_at w i ≡ error_at m i
unfolding error_at
error_kept m w i h = rw (h 0 (omega arith), h 1 (omega arith), h 2 (omega arith), h 3 (omega arith), h 4 (omega arith), h 5 (omega arith), h 6 (omega arith), h 7 (omega arith), h 8 (omega arith))

-- the first n errors are the same
pub errors_kept : (m w : List ℕ) (n : ℕ) → SameIn m w errors_at (errors_at + n * 9) → errors_of w n ≡ errors_of m n
unfolding errors_of
errors_kept m w zero same = refl
errors_kept m w (suc n) same = rw (error_kept m w n (λ k h. same (errors_at + n * 9 + k) (omega arith) (omega arith)), errors_kept m w n (λ i l r. same i l (omega arith)))

-- there are as many errors as were asked for
pub length_errors : (m : List ℕ) (n : ℕ) → length (errors_of m n) ≡ n
unfolding errors_of
length_errors m zero = refl
length_errors m (suc n) = ap suc (length_errors m n)

-- the log is the same
pub logged_kept : (m w : List ℕ) (l : List Equation) → length w ≡ length m → SameIn m w log_at (log_at + length l * 3) → Logged m l → Logged w l
unfolding Logged
logged_kept m w [] size same h = tt
logged_kept m w (q ∷ l) size same h = (
  λ r. let a = h.0 (rw size at r) in
      let j = log_at + length l * 3 in
      (rw (same j (omega arith) (omega arith)) a.0, rw (same (j + 1) (omega arith) (omega arith)) a.1, rw (same (j + 2) (omega arith) (omega arith)) a.2),
  logged_kept m w l size (λ i p r. same i p (omega arith)) h.1,
)

-- ── what the nodes keep ──

-- a node whose cells are the same keeps what they say
module _ (m w : List ℕ) (n : ℕ) where
  -- its RAW
  raw_kept : node_cell w n 0 ≡ node_cell m n 0 → node_cell w n 1 ≡ node_cell m n 1 → raw_at w n ≡ raw_at m n
  unfolding raw_at
  raw_kept p q = rw (p, q)

  -- its EXTRA
  extra_kept : node_cell w n 2 ≡ node_cell m n 2 → node_cell w n 3 ≡ node_cell m n 3 → extra_at w n ≡ extra_at m n
  unfolding extra_at
  extra_kept p q = rw (p, q)

  -- its FINAL
  final_kept : node_cell w n 4 ≡ node_cell m n 4 → node_cell w n 5 ≡ node_cell m n 5 → final_at w n ≡ final_at m n
  unfolding final_at
  final_kept p q = rw (p, q)

-- so do the first n nodes
module _ (m w : List ℕ) (n : ℕ) where
  -- RAW of each
  raws_kept : SameNodes m w n 0 → SameNodes m w n 1 → tab (raw_at w) n ≡ tab (raw_at m) n
  raws_kept p q = tab_ext (raw_at m) (raw_at w) n (λ x h. raw_kept m w x (p x h) (q x h))

  -- EXTRA of each
  extras_kept : SameNodes m w n 2 → SameNodes m w n 3 → tab (extra_at w) n ≡ tab (extra_at m) n
  extras_kept p q = tab_ext (extra_at m) (extra_at w) n (λ x h. extra_kept m w x (p x h) (q x h))

  -- FINAL of each
  finals_kept : SameNodes m w n 4 → SameNodes m w n 5 → tab (final_at w) n ≡ tab (final_at m) n
  finals_kept p q = tab_ext (final_at m) (final_at w) n (λ x h. final_kept m w x (p x h) (q x h))

-- equal lists make equal owns
own_ext : (o : ℕ) (r r' : List (Option ℕ)) (e e' : List Extra) (f f' : List (Option ℕ)) → r ≡ r' → e ≡ e' → f ≡ f' → own_with o r e f ≡ own_with o r' e' f'
own_ext o r r' e e' f f' p q s = rw (p, q, s)

-- RAW of each node is the same
pub all_raws_kept : (m w : List ℕ) → SameIn m w nodes_at errors_at → raws_of w ≡ raws_of m
all_raws_kept m w same = raws_kept m w most_nodes (λ x h. same (nodes_at + x * 6 + 0) (omega arith) (omega arith)) (λ x h. same (nodes_at + x * 6 + 1) (omega arith) (omega arith))

-- the nodes are the same
pub own_kept : (m w : List ℕ) (o : ℕ) → SameIn m w nodes_at errors_at → own_of w o ≡ own_of m o
unfolding own_of
own_kept m w o same =
    own_ext o (tab (raw_at w) most_nodes) (tab (raw_at m) most_nodes) (tab (extra_at w) most_nodes) (tab (extra_at m) most_nodes) (tab (final_at w) most_nodes) (tab (final_at m) most_nodes)
    (raws_kept m w most_nodes (at 0 (omega arith)) (at 1 (omega arith))) (extras_kept m w most_nodes (at 2 (omega arith)) (at 3 (omega arith))) (finals_kept m w most_nodes (at 4 (omega arith)) (at 5 (omega arith)))
  where
    at : (k : ℕ) → k < 6 → SameNodes m w most_nodes k
    at k l x h = same (nodes_at + x * 6 + k) (omega arith) (omega arith)

-- ── a node is written ──

-- the cells k and k + 1 of the node v are stored
module _ (m : List ℕ) (v k a b : ℕ) (in-six : k < 5) where
  -- the other cells of all nodes stay
  node_other : (n e : ℕ) → e < 6 → (k ≤ e → e ≤ k + 1 → ⊥) → SameNodes m (sets m (nodes_at + v * 6 + k) (a ∷ b ∷ [])) n e
  node_other n e l p x h = sets_other m (nodes_at + v * 6 + k) (a ∷ b ∷ []) (nodes_at + x * 6 + e) (λ i r s. p (omega arith) (omega arith))

  -- all cells of the other nodes stay
  other_node : (e : ℕ) → e < 6 → (x : ℕ) → x ≢ v → node_cell (sets m (nodes_at + v * 6 + k) (a ∷ b ∷ [])) x e ≡ node_cell m x e
  other_node e l x p = sets_other m (nodes_at + v * 6 + k) (a ∷ b ∷ []) (nodes_at + x * 6 + e) (λ i r s. omega arith)

  -- the first of the two has its value
  first_cell : nodes_at + v * 6 + k + 2 ≤ length m → node_cell (sets m (nodes_at + v * 6 + k) (a ∷ b ∷ [])) v k ≡ a
  first_cell room = let z : nodes_at + v * 6 + k ≡ nodes_at + v * 6 + k + 0 = omega arith in ap (λ (i : ℕ). cell (sets m (nodes_at + v * 6 + k) (a ∷ b ∷ [])) i) z ∙ sets_at m (nodes_at + v * 6 + k) (a ∷ b ∷ []) 0 (omega arith) room

  -- the second has its value
  second_cell : nodes_at + v * 6 + k + 2 ≤ length m → node_cell (sets m (nodes_at + v * 6 + k) (a ∷ b ∷ [])) v (k + 1) ≡ b
  second_cell room = let z : nodes_at + v * 6 + (k + 1) ≡ nodes_at + v * 6 + k + 1 = omega arith in ap (λ (i : ℕ). cell (sets m (nodes_at + v * 6 + k) (a ∷ b ∷ [])) i) z ∙ sets_at m (nodes_at + v * 6 + k) (a ∷ b ∷ []) 1 (omega arith) room

-- where all nodes are in the memory, one of them gets a type, an EXTRA or a final type
module _ (m : List ℕ) (n v : ℕ) (room : nodes_at + n * 6 ≤ length m) where
  -- RAW
  raws_set : (t : ℕ) → tab (raw_at (sets m (nodes_at + v * 6 + 0) (1 ∷ t ∷ []))) n ≡ set (tab (raw_at m) n) v (some t)
  unfolding raw_at
  raws_set t =
      let w = sets m (nodes_at + v * 6 + 0) (1 ∷ t ∷ []) in
      tab_set (raw_at m) (raw_at w) n v (some t) (λ x h p. raw_kept m w x (other_node m v 0 1 t (omega arith) 0 (omega arith) x p) (other_node m v 0 1 t (omega arith) 1 (omega arith) x p))
      (λ h. rw (first_cell m v 0 1 t (omega arith) (omega arith), second_cell m v 0 1 t (omega arith) (omega arith)))

  -- EXTRA
  extras_set : (e : Extra) → tab (extra_at (sets m (nodes_at + v * 6 + 2) (extra_tag e ∷ extra_value e ∷ []))) n ≡ set (tab (extra_at m) n) v e
  unfolding extra_at
  extras_set e =
      let a = extra_tag e in
      let b = extra_value e in
      let w = sets m (nodes_at + v * 6 + 2) (a ∷ b ∷ []) in
      tab_set (extra_at m) (extra_at w) n v e (λ x h p. extra_kept m w x (other_node m v 2 a b (omega arith) 2 (omega arith) x p) (other_node m v 2 a b (omega arith) 3 (omega arith) x p))
      (λ h. rw (first_cell m v 2 a b (omega arith) (omega arith), second_cell m v 2 a b (omega arith) (omega arith)) (extra_read e))

  -- FINAL
  finals_set : (t : ℕ) → tab (final_at (sets m (nodes_at + v * 6 + 4) (1 ∷ t ∷ []))) n ≡ set (tab (final_at m) n) v (some t)
  unfolding final_at
  finals_set t =
      let w = sets m (nodes_at + v * 6 + 4) (1 ∷ t ∷ []) in
      tab_set (final_at m) (final_at w) n v (some t) (λ x h p. final_kept m w x (other_node m v 4 1 t (omega arith) 4 (omega arith) x p) (other_node m v 4 1 t (omega arith) 5 (omega arith) x p))
      (λ h. rw (first_cell m v 4 1 t (omega arith) (omega arith), second_cell m v 4 1 t (omega arith) (omega arith)))

module _ (m : List ℕ) (o v : ℕ) (room : log_at ≤ length m) where
  -- a node gets its type
  pub own_typed : (t : ℕ) → own_of (sets m (nodes_at + v * 6 + 0) (1 ∷ t ∷ [])) o ≡ typed v t (own_of m o)
  unfolding own_of typed
  own_typed t =
      let w = sets m (nodes_at + v * 6 + 0) (1 ∷ t ∷ []) in
      let n = most_nodes in
      own_ext o (tab (raw_at w) n) (set (tab (raw_at m) n) v (some t)) (tab (extra_at w) n) (tab (extra_at m) n) (tab (final_at w) n) (tab (final_at m) n) (raws_set m n v (omega arith) t)
      (extras_kept m w n (node_other m v 0 1 t (omega arith) n 2 (omega arith) (λ p q. omega arith)) (node_other m v 0 1 t (omega arith) n 3 (omega arith) (λ p q. omega arith)))
      (finals_kept m w n (node_other m v 0 1 t (omega arith) n 4 (omega arith) (λ p q. omega arith)) (node_other m v 0 1 t (omega arith) n 5 (omega arith) (λ p q. omega arith)))

  -- a node gets its EXTRA
  pub own_marked : (e : Extra) → own_of (sets m (nodes_at + v * 6 + 2) (extra_tag e ∷ extra_value e ∷ [])) o ≡ marked v e (own_of m o)
  unfolding own_of marked
  own_marked e =
      let a = extra_tag e in
      let b = extra_value e in
      let w = sets m (nodes_at + v * 6 + 2) (a ∷ b ∷ []) in
      let n = most_nodes in
      own_ext o (tab (raw_at w) n) (tab (raw_at m) n) (tab (extra_at w) n) (set (tab (extra_at m) n) v e) (tab (final_at w) n) (tab (final_at m) n)
      (raws_kept m w n (node_other m v 2 a b (omega arith) n 0 (omega arith) (λ p q. omega arith)) (node_other m v 2 a b (omega arith) n 1 (omega arith) (λ p q. omega arith))) (extras_set m n v (omega arith) e)
      (finals_kept m w n (node_other m v 2 a b (omega arith) n 4 (omega arith) (λ p q. omega arith)) (node_other m v 2 a b (omega arith) n 5 (omega arith) (λ p q. omega arith)))

  -- a node gets its final type
  pub own_resolved : (t : ℕ) → own_of (sets m (nodes_at + v * 6 + 4) (1 ∷ t ∷ [])) o ≡ resolved v t (own_of m o)
  unfolding own_of resolved
  own_resolved t =
      let w = sets m (nodes_at + v * 6 + 4) (1 ∷ t ∷ []) in
      let n = most_nodes in
      own_ext o (tab (raw_at w) n) (tab (raw_at m) n) (tab (extra_at w) n) (tab (extra_at m) n) (tab (final_at w) n) (set (tab (final_at m) n) v (some t))
      (raws_kept m w n (node_other m v 4 1 t (omega arith) n 0 (omega arith) (λ p q. omega arith)) (node_other m v 4 1 t (omega arith) n 1 (omega arith) (λ p q. omega arith)))
      (extras_kept m w n (node_other m v 4 1 t (omega arith) n 2 (omega arith) (λ p q. omega arith)) (node_other m v 4 1 t (omega arith) n 3 (omega arith) (λ p q. omega arith))) (finals_set m n v (omega arith) t)

-- what is no node gets nothing
module _ (m : List ℕ) (o v : ℕ) (out : most_nodes ≤ v) where
  -- a value that is set past the end
  past : {A : Type 0} (f : ℕ → A) (n : ℕ) (a : A) → n ≤ v → tab f n ≡ set (tab f n) v a
  past f n a h = sym (set_out (tab f n) v a (rw (length_tab f n) h))

  -- RAW
  pub own_untyped : (t : ℕ) → own_of m o ≡ typed v t (own_of m o)
  unfolding own_of typed
  own_untyped t = let n = most_nodes in own_ext o (tab (raw_at m) n) (set (tab (raw_at m) n) v (some t)) (tab (extra_at m) n) (tab (extra_at m) n) (tab (final_at m) n) (tab (final_at m) n) (past (raw_at m) n (some t) out) refl refl

  -- EXTRA
  pub own_unmarked : (e : Extra) → own_of m o ≡ marked v e (own_of m o)
  unfolding own_of marked
  own_unmarked e = let n = most_nodes in own_ext o (tab (raw_at m) n) (tab (raw_at m) n) (tab (extra_at m) n) (set (tab (extra_at m) n) v e) (tab (final_at m) n) (tab (final_at m) n) refl (past (extra_at m) n e out) refl

  -- FINAL
  pub own_unresolved : (t : ℕ) → own_of m o ≡ resolved v t (own_of m o)
  unfolding own_of resolved
  own_unresolved t = let n = most_nodes in own_ext o (tab (raw_at m) n) (tab (raw_at m) n) (tab (extra_at m) n) (tab (extra_at m) n) (tab (final_at m) n) (set (tab (final_at m) n) v (some t)) refl refl (past (final_at m) n (some t) out)

-- ── the nodes are cleared ──

-- a function with one value has a list of that value
tab_same : {A : Type 0} (f : ℕ → A) (n : ℕ) (a : A) → ((i : ℕ) → i < n → f i ≡ a) → tab f n ≡ replicate n a
tab_same f zero a h = refl
tab_same f (suc n) a h = rw (h 0 (omega arith), tab_same (λ i. f (suc i)) n a (λ i l. h (suc i) (omega arith)))

-- where the cells of the nodes are 0, no node is typed
module _ (w : List ℕ) (o : ℕ) (zeros : (i : ℕ) → nodes_at ≤ i → i < errors_at → cell w i ≡ 0) where
  -- no RAW
  raw_blank : (x : ℕ) → x < most_nodes → raw_at w x ≡ none
  unfolding raw_at
  raw_blank x h = rw (zeros (nodes_at + x * 6 + 0) (omega arith) (omega arith))

  -- no EXTRA
  extra_blank : (x : ℕ) → x < most_nodes → extra_at w x ≡ extra.Absent
  unfolding extra_at extra_of
  extra_blank x h = rw (zeros (nodes_at + x * 6 + 2) (omega arith) (omega arith))

  -- no FINAL
  final_blank : (x : ℕ) → x < most_nodes → final_at w x ≡ none
  unfolding final_at
  final_blank x h = rw (zeros (nodes_at + x * 6 + 4) (omega arith) (omega arith))

  -- none has a type, an EXTRA or a final type
  pub own_blank : own_of w o ≡ blank o
  unfolding own_of blank
  own_blank =
      let n = most_nodes in
      own_ext o (tab (raw_at w) n) (replicate n none) (tab (extra_at w) n) (replicate n extra.Absent) (tab (final_at w) n) (replicate n none) (tab_same (raw_at w) n none raw_blank) (tab_same (extra_at w) n extra.Absent extra_blank) (tab_same (final_at w) n none final_blank)

-- the memory has its length
pub cleared_length : (m : List ℕ) (k : ℕ) → length (cleared m k) ≡ length m
unfolding cleared
cleared_length m zero = refl
cleared_length m (suc k) = length-set (cleared m k) (nodes_at + k) 0 ∙ cleared_length m k

-- the cells below the nodes stay
pub cleared_below : (m : List ℕ) (k i : ℕ) → i < nodes_at → cell (cleared m k) i ≡ cell m i
unfolding cleared
cleared_below m zero i h = refl
cleared_below m (suc k) i h = set_above (cleared m k) (nodes_at + k) i 0 (omega arith) ∙ cleared_below m k i h

-- a cleared cell is 0
pub cleared_cell : (m : List ℕ) (k i : ℕ) → nodes_at ≤ i → i < nodes_at + k → i < length m → cell (cleared m k) i ≡ 0
unfolding cleared
cleared_cell m zero i l r h = absurd (omega arith)
cleared_cell m (suc k) i l r h = by (ℕ_discrete i (nodes_at + k)) (λ q. cleared_cell m k i l q h)
  where
    by : Dec (i ≡ nodes_at + k) → (i < nodes_at + k → cell (cleared m k) i ≡ 0) → cell (set (cleared m k) (nodes_at + k) 0) i ≡ 0
    by (yes e) f = rw e (get_or-set_same (cleared m k) (nodes_at + k) 0 0 (omega (arith, cleared_length m k)))
    by (no n) f = get_or-set_other (cleared m k) (nodes_at + k) i 0 0 n ∙ f (omega arith)

-- ── an error is written ──

-- the nine numbers of an error
abbrev pub numbers : TypingError → List ℕ
numbers e = kind_number e.kind ∷ e.cause ∷ span_tag e.at ∷ span_value e.at ∷ second_tag e.second ∷ second_value e.second ∷ e.a ∷ e.b ∷ e.c ∷ []

-- they are stored one after another
pub error_sets : (m : List ℕ) (i : ℕ) (e : TypingError) → error_written m i e ≡ sets m (errors_at + i * 9) (numbers e)
unfolding error_written
error_sets m i e = simp towards_suc

-- the error reads as it was written
pub error_read : (m : List ℕ) (i : ℕ) (e : TypingError) → errors_at + i * 9 + 9 ≤ length m → error_at (sets m (errors_at + i * 9) (numbers e)) i ≡ e
unfolding error_at
error_read m i e room =
    rw (at 0 (omega arith), at 1 (omega arith), at 2 (omega arith), at 3 (omega arith), at 4 (omega arith), at 5 (omega arith), at 6 (omega arith), at 7 (omega arith), at 8 (omega arith), kind_read e.kind, span_read e.at, second_read e.second)
  where
    at : (k : ℕ) → k < 9 → error_cell (sets m (errors_at + i * 9) (numbers e)) i k ≡ get_or (numbers e) k 0
    at k h = sets_at m (errors_at + i * 9) (numbers e) k h room

-- one more error
pub errors_more : (m : List ℕ) (n : ℕ) (e : TypingError) → errors_at + n * 9 + 9 ≤ length m → errors_of (error_written m n e) (n + 1) ≡ e ∷ errors_of m n
unfolding errors_of
errors_more m n e room = rw (error_sets m n e, add-one n, error_read m n e room, errors_kept m (sets m (errors_at + n * 9) (numbers e)) n (λ i l r. sets_other m (errors_at + n * 9) (numbers e) i (λ k h q. omega arith)))
