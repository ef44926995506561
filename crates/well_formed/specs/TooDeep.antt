-- The answer 6 is given only where 65 nodes stand in one another, or 5 of fun.
-- Assumes nothing.
use Rattle.std.specs.Prelude.{ℕ, zero, suc, ◌+◌, ◌-◌, ◌<◌, ◌≤◌, ◌≡◌, ◌⊎◌, List, [], ◌∷◌, Bool, false, cond, leb, eqb, length, get_or}
use Rattle.std.proofs.Math.Nat.{zero-add}
use Rattle.std.proofs.Common.{arith, sym, inl, ltb-true, ltb-false, leb-true, eqb-true, eq-eqb}
use Rattle.std.proofs.Math.Path.{refl}
use Rattle.std.proofs.Math.Logic.{inr}
use Rattle.std.proofs.Math.Bool.{true}
use Rattle.std.proofs.lemmas.Bool.{false≢true}
use Rattle.std.proofs.Math.Dec.{ltb}
use Rattle.forms.specs.Form.{forms, no_form, form_at, kind_at, key_type, key_node, LowType}
use Rattle.refs.specs.declared.Counts.{Counts}
use Rattle.refs.specs.Refs.{nodes_at, fixed_types, form_in, first_in, count_in, levels_in, tag_in, value_in, a_node, refers_to, is_child, levels_of}
use Rattle.body.specs.declared.State.{State}
use Rattle.body.specs.Body.{count_of, base_of, deeper, levels_over, Stepped, bad, next, Ended, refused, read, proceed, settle, fault_number, answer_number}
use Rattle.well_formed.specs.Good.{Attained, RowGood, kind_in, behind, RowsGood}
use Rattle.well_formed.specs.Counting.{each, each_at}
use Rattle.well_formed.specs.Bytes.{Enough}
use Rattle.well_formed.specs.Frame.{without, without_kind}
use Rattle.well_formed.specs.Reading.{Reading}
use Rattle.well_formed.specs.Step.{GoodStep}
use Rattle.well_formed.specs.Behind.{onwards}
use Rattle.well_formed.specs.Weight.{node_deeper}
use Rattle.well_formed.specs.Levels.{Contains, Parent, Chain, funs, low_type}

-- R holds of a number and a lower one
abbrev pub Lower : (ℕ → ℕ → Type 0) → ℕ → ℕ → Type 0
Lower R a x = (x < a) × R a x

-- 65 nodes, each a child of the one before
abbrev pub DeepNodes : Counts → List ℕ → List ℕ → Type 0
DeepNodes n rows cells = (a : ℕ) × (xs : List ℕ) × (a < n.nodes) × Chain (Lower (Parent rows cells)) (a ∷ xs) × (length (a ∷ xs) ≡ 65)

-- types, each in the one before, of which 5 are a fun
abbrev pub DeepTypes : Counts → List ℕ → List ℕ → Type 0
DeepTypes n rows cells = (i : ℕ) × (is : List ℕ) × (i < n.types) × Chain (Lower (Contains rows cells)) (i ∷ is) × (funs rows (i ∷ is) ≡ 5)

-- no line is faulty, and in the tables 65 nodes stand in one another, or 5 of fun
abbrev pub TooDeep : Stepped → Type 0
TooDeep (bad x) = ⊥
TooDeep (next st cells rows) = DeepNodes st.counts rows cells ⊎ DeepTypes st.counts rows cells

-- where R holds of each a below N with more than own a levels and a lower number with the rest of its levels, own a being 0 or 1
module _ (R : ℕ → ℕ → Type 0) (N : ℕ) (level own : ℕ → ℕ) (count : List ℕ → ℕ) (none : count [] ≡ 0)
    (more : (a : ℕ) (xs : List ℕ) → count (a ∷ xs) ≡ own a + count xs) (low : (a : ℕ) → own a ≤ 1)
    (part : (a w : ℕ) → a < N → own a < w → w ≤ level a → (x : ℕ) × Lower R a x × (w ≤ level x + own a)) where
  -- a chain that starts at a and counts w
  abbrev ChainOf : ℕ → ℕ → Type 0
  ChainOf a w = (xs : List ℕ) × Chain (Lower R) (a ∷ xs) × (count (a ∷ xs) ≡ w)

  -- a number before a chain
  chain_onto : (a w x : ℕ) → own a ≤ w → Lower R a x → ChainOf x (w - own a) → ChainOf a w
  chain_onto a w x h r (xs, c, e) = (x ∷ xs, (r, c), omega (arith, more a (x ∷ xs), e))

  -- there is one for each w of at least 1 and at most the level of a
  chain-below : (m a w : ℕ) → a < m → a < N → 0 < w → w ≤ level a → ChainOf a w
  chain-below zero a w b h z l = absurd (omega arith)
  chain-below (suc m) a w b h z l = by (ltb (own a) w) refl (chain-below m)
    where
      one : own a ≡ w → ChainOf a w
      one e = ([], tt, omega (arith, more a [], none, e))

      onto : ((a w : ℕ) → a < m → a < N → 0 < w → w ≤ level a → ChainOf a w) → own a < w → (x : ℕ) × Lower R a x × (w ≤ level x + own a) → ChainOf a w
      onto again o (x, r, q) = chain_onto a w x (omega arith) r (again x (w - own a) (omega (arith, r.0)) (omega (arith, r.0)) (omega arith) (omega arith))

      by : (c : Bool) → ltb (own a) w ≡ c → ((a w : ℕ) → a < m → a < N → 0 < w → w ≤ level a → ChainOf a w) → ChainOf a w
      by true p again = onto again (ltb-true (own a) w p) (part a w h (ltb-true (own a) w p) l)
      by false p again = one (omega (arith, ltb-false (own a) w p, low a))

-- a form of a key passes a test that each form of the key passes
of_key : (k : ℕ) (p : ℕ → Bool) (f : ℕ) → each 30 (λ (x : ℕ). cond (eqb (get_or forms x no_form).key k) (p x) true) ≡ true → f < 30
    → (get_or forms f no_form).key ≡ k → p f ≡ true
of_key k p f e h q = rw (eq-eqb (get_or forms f no_form).key k q) at (each_at 30 (λ (x : ℕ). cond (eqb (get_or forms x no_form).key k) (p x) true) f e h)

-- no field of a node is a type in a type
node_kind : (f i : ℕ) → f < 30 → (get_or forms f no_form).key ≡ key_node → eqb (kind_at (form_at f) i) LowType ≡ false
unfolding each forms form_at without
node_kind f i h q =
    without_kind (λ (x : ℕ). eqb x LowType) (form_at f) i (of_key key_node (λ (x : ℕ). without (λ (y : ℕ). eqb y LowType) (form_at x)) f refl h q)

-- no field of a type refers to a node
type_kind : (f i : ℕ) → f < 30 → (get_or forms f no_form).key ≡ key_type → eqb (refers_to (kind_at (form_at f) i)) a_node ≡ false
unfolding each forms form_at without refers_to
type_kind f i h q =
    without_kind (λ (x : ℕ). eqb (refers_to x) a_node) (form_at f) i (of_key key_type (λ (x : ℕ). without (λ (y : ℕ). eqb (refers_to y) a_node) (form_at x)) f refl h q)

-- a level more is at most one more
deeper_le : (d : ℕ) → deeper d ≤ d + 1
unfolding deeper
deeper_le d = by (ltb d 65) refl
  where
    by : (c : Bool) → ltb d 65 ≡ c → cond c (d + 1) 65 ≤ d + 1
    by true p = omega arith
    by false p = omega (arith, ltb-false d 65 p)

-- one where a form is a fun
abbrev is_fun : ℕ → ℕ
is_fun f = cond (eqb f 1) 1 0

-- at most one
fun_low : (f : ℕ) → is_fun f ≤ 1
fun_low f = by (eqb f 1)
  where
    by : (c : Bool) → cond c 1 0 ≤ 1
    by true = omega arith
    by false = omega arith

-- only a fun is a level of its own among types
type_over : (f d : ℕ) → f < 30 → (get_or forms f no_form).key ≡ key_type → levels_over f d ≤ d + is_fun f
unfolding each forms levels_over
type_over f d h q = by (eqb f 1) (ltb f 7) (of_key key_type (λ (x : ℕ). ltb x 7) f refl h q)
  where
    by : (a b : Bool) → b ≡ true → cond a (deeper d) (cond b d (cond (ltb 28 f) d (deeper d))) ≤ d + cond a 1 0
    by true b e = deeper_le d
    by false true e = omega arith
    by false false e = absurd (false≢true e)

module _ (n : Counts) (rows cells : List ℕ) (good : (k : ℕ) → RowsGood n k rows cells) where
  -- the row of a node is good,
  node_row_lem : (a : ℕ) → a < n.nodes → RowGood (behind n key_node a) n.fields key_node (nodes_at + a) rows cells
  unfolding base_of count_of
  node_row_lem = good key_node

  -- and that of a type
  type_row_lem : (i : ℕ) → i < n.types → RowGood (behind n key_type i) n.fields key_type i rows cells
  unfolding base_of count_of
  type_row_lem i h = rw (zero-add i) at (good key_type i h)

  -- a node of more than one level has a child with at least the rest of them
  node_part : (a w : ℕ) → a < n.nodes → 1 < w → w ≤ levels_in rows (nodes_at + a)
      → (x : ℕ) × Lower (Parent rows cells) a x × (w ≤ levels_in rows (nodes_at + x) + 1)
  unfolding behind levels_of
  node_part a w h o l = by g.attained
    where
      g : RowGood (behind n key_node a) n.fields key_node (nodes_at + a) rows cells
      g = node_row_lem a h

      over : (d : ℕ) → levels_in rows (nodes_at + a) ≡ levels_over (form_in rows (nodes_at + a)) d → w ≤ d + 1
      over d e = omega (arith, node_deeper (form_in rows (nodes_at + a)) d g.form g.key, deeper_le d, e)

      at : (i : ℕ) → i < count_in rows (nodes_at + a) → (c : Bool) → is_child (kind_in rows (nodes_at + a) i) (tag_in cells (first_in rows (nodes_at + a) + i)) ≡ c
          → (b : Bool) → b ≡ false → (y : ℕ)
          → w ≤ cond c (levels_in rows (nodes_at + value_in cells (first_in rows (nodes_at + a) + i))) (cond b y 0) + 1
          → (x : ℕ) × Lower (Parent rows cells) a x × (w ≤ levels_in rows (nodes_at + x) + 1)
      at i b true p c q y m = (
        value_in cells (first_in rows (nodes_at + a) + i),
        (((g.fields i b).child p).lower, (i, record { there = b; child = p; value = refl })),
        m,
      )
      at i b false p true q y m = absurd (false≢true (sym q))
      at i b false p false q y m = absurd (omega arith)

      by : Attained (form_in rows (nodes_at + a)) (first_in rows (nodes_at + a)) (count_in rows (nodes_at + a)) (levels_in rows (nodes_at + a)) rows cells
          → (x : ℕ) × Lower (Parent rows cells) a x × (w ≤ levels_in rows (nodes_at + x) + 1)
      by (inl e) = absurd (omega (arith, over 0 e))
      by (inr (i, b, e)) =
          at i b _ refl (eqb (kind_in rows (nodes_at + a) i) LowType) (node_kind (form_in rows (nodes_at + a)) i g.form g.key) _ (over _ e)

  -- a type of more levels than it is itself has in it a type with at least the rest of them
  type_part : (i w : ℕ) → i < n.types → is_fun (form_in rows i) < w → w ≤ levels_in rows i
      → (x : ℕ) × Lower (Contains rows cells) i x × (w ≤ levels_in rows x + is_fun (form_in rows i))
  unfolding behind levels_of is_child
  type_part i w h o l = by g.attained
    where
      g : RowGood (behind n key_type i) n.fields key_type i rows cells
      g = type_row_lem i h

      over : (d : ℕ) → levels_in rows i ≡ levels_over (form_in rows i) d → w ≤ d + is_fun (form_in rows i)
      over d e = omega (arith, type_over (form_in rows i) d g.form g.key, e)

      at : (j : ℕ) → j < count_in rows i → (a : Bool) → a ≡ false → (t : Bool) (y : ℕ) (b : Bool) → eqb (kind_in rows i j) LowType ≡ b
          → (c : Bool) → leb fixed_types (value_in cells (first_in rows i + j)) ≡ c
          → w ≤ cond (cond a t false) y (cond b (cond c (levels_in rows (value_in cells (first_in rows i + j) - fixed_types)) 0) 0) + is_fun (form_in rows i)
          → (x : ℕ) × Lower (Contains rows cells) i x × (w ≤ levels_in rows x + is_fun (form_in rows i))
      at j d true z t y b p c q m = absurd (false≢true (sym z))
      at j d false z t y true p true q m =
          let v : ℕ = value_in cells (first_in rows i + j) in
          let kind : kind_in rows i j ≡ LowType = eqb-true (kind_in rows i j) LowType p in
          let fixed : fixed_types ≤ v = leb-true fixed_types v q in (
            v - fixed_types,
            (
              omega (arith, fixed, low_type (behind n key_type i) (kind_in rows i j) (first_in rows i + j) rows cells kind (g.fields j d)),
              (j, record { there = d; kind = kind; value = omega (arith, fixed) }),
            ),
            m,
          )
      at j d false z t y true p false q m = absurd (omega arith)
      at j d false z t y false p c q m = absurd (omega arith)

      by : Attained (form_in rows i) (first_in rows i) (count_in rows i) (levels_in rows i) rows cells
          → (x : ℕ) × Lower (Contains rows cells) i x × (w ≤ levels_in rows x + is_fun (form_in rows i))
      by (inl e) = absurd (omega (arith, over 0 e))
      by (inr (j, b, e)) = at j b _ (type_kind (form_in rows i) j g.form g.key) _ _ _ refl _ refl (over _ e)

  -- a node of more than 64 levels starts a chain of 65
  pub deep_nodes : (a : ℕ) → a < n.nodes → 64 < levels_in rows (nodes_at + a) → DeepNodes n rows cells
  deep_nodes a h l =
      let c = chain-below (Parent rows cells) n.nodes (λ (x : ℕ). levels_in rows (nodes_at + x)) (λ (x : ℕ). 1) (λ (xs : List ℕ). length xs) refl
      (λ x xs. omega arith) (λ x. omega arith) node_part (suc a) a 65 (omega arith) h (omega arith) (omega arith) in
      (a, c.0, h, c.1, c.2)

  -- a type of more than 4 starts one with 5 of fun
  pub deep_types : (i : ℕ) → i < n.types → 4 < levels_in rows i → DeepTypes n rows cells
  deep_types i h l =
      let c = chain-below (Contains rows cells) n.types (λ (x : ℕ). levels_in rows x) (λ (x : ℕ). is_fun (form_in rows x)) (λ (xs : List ℕ). funs rows xs) refl
      (λ x xs. refl) (λ x. fun_low (form_in rows x)) type_part (suc i) i 5 (omega arith) h (omega arith) (omega arith) in
      (i, c.0, h, c.1, c.2)

-- the number of an end's fault, 0 where it has none
abbrev pub fault_in : Ended → ℕ
fault_in (refused x l) = fault_number x
fault_in (read n cells rows) = 0

-- a line and those that follow
pub proceed_deep : (b l : ℕ) (x : Stepped) (k : State → List ℕ → List ℕ → Ended) (k' : State → List ℕ → List ℕ → Stepped) → GoodStep b x
    → ((st : State) (cells rows : List ℕ) → Reading st cells rows → Enough b st.counts.fields → fault_in (k st cells rows) ≡ 6 → TooDeep (k' st cells rows))
    → fault_in (proceed x l k) ≡ 6 → TooDeep (onwards x k')
proceed_deep b l (bad x) k k' g h e = omega arith
proceed_deep b l (next st cells rows) k k' g h e = h st cells rows g.0 g.1 e

-- an end has the number of its answer
pub settle_number : (x : Ended) (rows cells : List ℕ) → answer_number (settle x rows cells).answer ≡ fault_in x
settle_number (refused x l) rows cells = refl
settle_number (read n cells' rows') rows cells = refl
