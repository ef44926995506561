-- The counts of a body and the places of its rows: how they grow by a line, and that two keys' rows stand apart.
-- Assumes nothing.
use Rattle.std.specs.Prelude.{ℕ, zero, suc, ◌+◌, ◌<◌, ◌≤◌, ◌≡◌, refl, ◌⊎◌, Bool, true, false, cond, leb, ltb, eqb}
use Rattle.std.proofs.Common.{arith, sym, ap, ◌∙◌, inl, inr, ltb-true, ltb-false, leb-true, lt-ltb, eqb-true}
use Rattle.std.proofs.lemmas.Bool.{false≢true, eqb-false}
use Rattle.forms.specs.Form.{key_type, key_def, key_inst, key_bind, key_node}
use Rattle.refs.specs.declared.Counts.{Counts}
use Rattle.body.specs.Body.{limit_of, count_of, base_of, counted}
use Rattle.well_formed.specs.Good.{behind}

-- there are no more rows of types, defs, insts and nodes in n than in n'
pub record Within (n n' : Counts) : Type 0 where
  pub types : n.types ≤ n'.types
  pub defs : n.defs ≤ n'.defs
  pub insts : n.insts ≤ n'.insts
  pub nodes : n.nodes ≤ n'.nodes

-- a number that may grow by one
step_le : (b : Bool) (x : ℕ) → x ≤ cond b (x + 1) x
step_le true x = omega arith
step_le false x = omega arith

-- the same number in both, or what stood there
pick_le : (b : Bool) (i x y : ℕ) → x ≤ y → cond b i x ≤ cond b i y
pick_le true i x y h = omega arith
pick_le false i x y h = h

-- a number below what stood there, or that
less_le : (b : Bool) (i x : ℕ) → (b ≡ true → i ≤ x) → cond b i x ≤ x
less_le true i x h = h refl
less_le false i x h = omega arith

-- what stood there before it grew
back : (b : Bool) (i x : ℕ) → (b ≡ true → i ≡ x) → cond b i (cond b (x + 1) x) ≡ x
back true i x h = h refl
back false i x h = refl

-- the count of types is that of their key,
count_types : (n : Counts) (k : ℕ) → eqb k key_type ≡ true → count_of n k ≡ n.types
unfolding count_of
count_types n k p = ap (count_of n) (eqb-true k key_type p)

-- so is that of defs,
count_defs : (n : Counts) (k : ℕ) → eqb k key_def ≡ true → count_of n k ≡ n.defs
unfolding count_of
count_defs n k p = ap (count_of n) (eqb-true k key_def p)

-- of insts,
count_insts : (n : Counts) (k : ℕ) → eqb k key_inst ≡ true → count_of n k ≡ n.insts
unfolding count_of
count_insts n k p = ap (count_of n) (eqb-true k key_inst p)

-- and of nodes
count_nodes : (n : Counts) (k : ℕ) → eqb k key_node ≡ true → count_of n k ≡ n.nodes
unfolding count_of
count_nodes n k p = ap (count_of n) (eqb-true k key_node p)

-- a line more
pub counted_within : (n : Counts) (k m : ℕ) → Within n (counted n k m)
unfolding counted
counted_within n k m = record {
  types = step_le (eqb k key_type) n.types;
  defs = step_le (eqb k key_def) n.defs;
  insts = step_le (eqb k key_inst) n.insts;
  nodes = step_le (eqb k key_node) n.nodes;
}

-- with m fields
pub counted_fields : (n : Counts) (k m : ℕ) → (counted n k m).fields ≡ n.fields + m
unfolding counted
counted_fields n k m = refl

-- what stood before a row
pub behind_within : (n n' : Counts) (k i : ℕ) → Within n n' → Within (behind n k i) (behind n' k i)
unfolding behind
behind_within n n' k i w = record {
  types = pick_le (eqb k key_type) i n.types n'.types w.types;
  defs = pick_le (eqb k key_def) i n.defs n'.defs w.defs;
  insts = pick_le (eqb k key_inst) i n.insts n'.insts w.insts;
  nodes = pick_le (eqb k key_node) i n.nodes n'.nodes w.nodes;
}

-- what stood before a row is within the whole
pub behind_less : (n : Counts) (k i : ℕ) → i ≤ count_of n k → Within (behind n k i) n
unfolding behind
behind_less n k i h = record {
  types = less_le (eqb k key_type) i n.types (λ p. omega (arith, count_types n k p));
  defs = less_le (eqb k key_def) i n.defs (λ p. omega (arith, count_defs n k p));
  insts = less_le (eqb k key_inst) i n.insts (λ p. omega (arith, count_insts n k p));
  nodes = less_le (eqb k key_node) i n.nodes (λ p. omega (arith, count_nodes n k p));
}

-- what stood before the row of a new line is what stood before the line: the nodes
pub behind_new_nodes : (n : Counts) (k m : ℕ) → (behind (counted n k m) k (count_of n k)).nodes ≡ n.nodes
unfolding behind counted
behind_new_nodes n k m = back (eqb k key_node) (count_of n k) n.nodes (count_nodes n k)

-- and the others
pub behind_new : (n : Counts) (k m : ℕ) → Within n (behind (counted n k m) k (count_of n k))
unfolding behind counted
behind_new n k m = record {
  types = omega (arith, back (eqb k key_type) (count_of n k) n.types (count_types n k));
  defs = omega (arith, back (eqb k key_def) (count_of n k) n.defs (count_defs n k));
  insts = omega (arith, back (eqb k key_inst) (count_of n k) n.insts (count_insts n k));
  nodes = omega (arith, back (eqb k key_node) (count_of n k) n.nodes (count_nodes n k));
}

-- a number below a count that may have grown
below_grown : (j k c i x : ℕ) → eqb j c ≡ true → i < cond (eqb k c) (x + 1) x → (i < x) ⊎ ((j ≡ k) × (i ≡ x))
below_grown j k c i x p h = by (eqb k c) refl h (ltb i x) refl
  where
    by : (b : Bool) → eqb k c ≡ b → i < cond b (x + 1) x → (d : Bool) → ltb i x ≡ d → (i < x) ⊎ ((j ≡ k) × (i ≡ x))
    by b q h true r = inl (ltb-true i x r)
    by true q h false r = inr (eqb-true j c p ∙ sym (eqb-true k c q), omega (arith, ltb-false i x r))
    by false q h false r = inl h

-- a row of the key j behind a line of the key k: one that stood before, or the new one
pub grown : (n : Counts) (k m j i : ℕ) → i < count_of (counted n k m) j → (i < count_of n j) ⊎ ((j ≡ k) × (i ≡ count_of n j))
unfolding count_of counted
grown n k m j i h = by (eqb j key_type) refl (eqb j key_def) refl (eqb j key_inst) refl (eqb j key_bind) refl (eqb j key_node) refl h
  where
    by : (a : Bool) → eqb j key_type ≡ a → (b : Bool) → eqb j key_def ≡ b → (c : Bool) → eqb j key_inst ≡ c
        → (d : Bool) → eqb j key_bind ≡ d → (e : Bool) → eqb j key_node ≡ e
        → i < cond a (cond (eqb k key_type) (n.types + 1) n.types)
        (cond b (cond (eqb k key_def) (n.defs + 1) n.defs)
        (cond c (cond (eqb k key_inst) (n.insts + 1) n.insts)
        (cond d (cond (eqb k key_bind) (n.binds + 1) n.binds) (cond e (cond (eqb k key_node) (n.nodes + 1) n.nodes) 0))))
        → (i < cond a n.types (cond b n.defs (cond c n.insts (cond d n.binds (cond e n.nodes 0)))))
        ⊎ ((j ≡ k) × (i ≡ cond a n.types (cond b n.defs (cond c n.insts (cond d n.binds (cond e n.nodes 0))))))
    by true p b q c r d s e t h = below_grown j k key_type i n.types p h
    by false p true q c r d s e t h = below_grown j k key_def i n.defs q h
    by false p false q true r d s e t h = below_grown j k key_inst i n.insts r h
    by false p false q false r true s e t h = below_grown j k key_bind i n.binds s h
    by false p false q false r false s true t h = below_grown j k key_node i n.nodes t h
    by false p false q false r false s false t h = absurd (omega arith)

-- a line takes no row away,
pub counted_more : (n : Counts) (k m j : ℕ) → j ≤ key_node → count_of n j ≤ count_of (counted n k m) j
unfolding count_of counted
counted_more n k m zero h = step_le (eqb k key_type) n.types
counted_more n k m (suc zero) h = step_le (eqb k key_def) n.defs
counted_more n k m (suc (suc zero)) h = step_le (eqb k key_inst) n.insts
counted_more n k m (suc (suc (suc zero))) h = step_le (eqb k key_bind) n.binds
counted_more n k m (suc (suc (suc (suc zero)))) h = step_le (eqb k key_node) n.nodes
counted_more n k m (suc (suc (suc (suc (suc j))))) h = absurd (omega arith)

-- and its key has a row more
pub counted_own : (n : Counts) (k m : ℕ) → k ≤ key_node → count_of (counted n k m) k ≡ count_of n k + 1
unfolding count_of counted
counted_own n zero m h = refl
counted_own n (suc zero) m h = refl
counted_own n (suc (suc zero)) m h = refl
counted_own n (suc (suc (suc zero))) m h = refl
counted_own n (suc (suc (suc (suc zero)))) m h = refl
counted_own n (suc (suc (suc (suc (suc k))))) m h = absurd (omega arith)

-- the counts stay within the limits
pub counted_limited : (n : Counts) (k m : ℕ) → ((j : ℕ) → count_of n j ≤ limit_of j) → count_of n k < limit_of k → (j : ℕ) → count_of (counted n k m) j ≤ limit_of j
counted_limited n k m l h j = by (count_of (counted n k m) j) (grown n k m j)
  where
    at : (i : ℕ) → (i < count_of n j) ⊎ ((j ≡ k) × (i ≡ count_of n j)) → suc i ≤ limit_of j
    at i (inl p) = omega (arith, l j)
    at i (inr q) = omega (arith, h, q.1, ap (count_of n) q.0, ap limit_of q.0)

    by : (c : ℕ) → ((i : ℕ) → i < c → (i < count_of n j) ⊎ ((j ≡ k) × (i ≡ count_of n j))) → c ≤ limit_of j
    by zero g = omega arith
    by (suc c) g = at c (g c (omega arith))

-- a test holds of each number below m
unfoldable pub each : ℕ → (ℕ → Bool) → Bool
each zero p = true
each (suc m) p = cond (p m) (each m p) false

-- so it holds of one
pub each_at : (m : ℕ) (p : ℕ → Bool) (i : ℕ) → each m p ≡ true → i < m → p i ≡ true
unfolding each
each_at zero p i e h = absurd (omega arith)
each_at (suc m) p i e h = by (p m) refl e (eqb i m) refl (each_at m p i)
  where
    by : (b : Bool) → p m ≡ b → cond b (each m p) false ≡ true → (c : Bool) → eqb i m ≡ c → (each m p ≡ true → i < m → p i ≡ true) → p i ≡ true
    by true q e true r again = ap p (eqb-true i m r) ∙ q
    by true q e false r again = again e (omega (arith, eqb-false i m r))
    by false q e c r again = absurd (false≢true e)

-- the rows of a key end before those of a later key begin
apartb : ℕ → ℕ → Bool
apartb j k = cond (ltb j k) (leb (base_of j + limit_of j) (base_of k)) true

-- the rows of a lower key stand lower
rows_ordered : (j k : ℕ) → j < k → k < 6 → base_of j + limit_of j ≤ base_of k
unfolding each base_of limit_of apartb
rows_ordered j k h b = by (ltb j k) (lt-ltb j k h) (each_at 6 (λ (x : ℕ). apartb x k) j (each_at 6 (λ (y : ℕ). each 6 (λ (x : ℕ). apartb x y)) k refl b) (omega arith))
  where
    by : (c : Bool) → c ≡ true → cond c (leb (base_of j + limit_of j) (base_of k)) true ≡ true → base_of j + limit_of j ≤ base_of k
    by true e h = leb-true (base_of j + limit_of j) (base_of k) h
    by false e h = absurd (false≢true e)

-- every row is within the table
pub rows_inside : (k : ℕ) → k < 6 → base_of k + limit_of k ≤ 1921
unfolding each base_of limit_of
rows_inside k h = leb-true (base_of k + limit_of k) 1921 (each_at 6 (λ (x : ℕ). leb (base_of x + limit_of x) 1921) k refl h)

-- two rows at one place are of one key
pub rows_apart : (j k a b : ℕ) → j < 6 → k < 6 → a < limit_of j → b < limit_of k → base_of j + a ≡ base_of k + b → j ≡ k
rows_apart j k a b hj hk ha hb e = by (ltb j k) refl (ltb k j) refl
  where
    by : (c : Bool) → ltb j k ≡ c → (d : Bool) → ltb k j ≡ d → j ≡ k
    by true p d q = absurd (omega (arith, rows_ordered j k (ltb-true j k p) hk))
    by false p true q = absurd (omega (arith, rows_ordered k j (ltb-true k j q) hj))
    by false p false q = omega (arith, ltb-false j k p, ltb-false k j q)
