-- The weight of a node, the number of nodes of its tree, as the rules read its line: that of each child, and of the items together.
-- Assumes nothing.
use Rattle.std.specs.Prelude.{◌≡◌, refl, List, Bool, true, false, cond, ℕ, suc, zero, ◌+◌, ◌-◌, ◌/◌, ◌<◌, ◌≤◌, eqb, ltb, leb}
use Rattle.std.proofs.Common.{sym, ap, ◌∙◌, add_assoc, add-zero, arith, eqb-true, eq-eqb, ltb-true, ltb-false}
use Rattle.std.proofs.lemmas.Bool.{false≢true, eqb-false}
use Rattle.type_table.specs.Memory.{pick}
use Rattle.forms.specs.declared.Form.{Form}
use Rattle.forms.specs.Form.{form_at, kind_at}
use Rattle.refs.specs.declared.Counts.{Counts}
use Rattle.refs.specs.Refs.{nodes_at, a_node, form_in, first_in, count_in, tag_in, value_in, refers_to, is_child}
use Rattle.nodes.specs.declared.Items.{Items}
use Rattle.nodes.specs.Nodes.{count_behind, behind, item}
use Rattle.well_formed.specs.Good.{WellFormed, written_as}
use Rattle.well_formed.specs.UsedOnce.{has_child, child_in, ChildAt}
use Rattle.well_formed.specs.Weight.{sum_to, part_of, below, weight, node_good, child_lower, body_in, fn_count, fn_child_lower}
use Rattle.well_formed.proofs.Weight.{weight_tree}
use Rattle.bounds.specs.Steps.{sum_from}

-- ── choices ──

-- what holds of both holds of the one that is chosen
pub pick_by : {A : Type 0} (P : A → Type 0) (b : Bool) (x y : A) → (b ≡ true → P x) → (b ≡ false → P y) → P (pick b x y)
pick_by P true x y p q = p refl
pick_by P false x y p q = q refl

-- ── sums ──

-- the first i numbers and k more
sum_from_lem : (i k : ℕ) (c : ℕ → ℕ) → sum_to (i + k) c ≡ sum_to i c + sum_from i k c
unfolding sum_to sum_from
sum_from_lem i zero c = let e : i + 0 ≡ i = omega arith in rw e (omega arith)
sum_from_lem i (suc k) c =
    let e : i + suc k ≡ suc i + k = omega arith in
    rw e (omega (arith, sum_from_lem (suc i) k c))

-- numbers that stand a places on
sum_shift : (a i k : ℕ) (c : ℕ → ℕ) → sum_from i k (λ j. c (a + j)) ≡ sum_from (a + i) k c
unfolding sum_from
sum_shift a i zero c = refl
sum_shift a i (suc k) c =
    let e : a + suc i ≡ suc (a + i) = omega arith in
    omega (arith, sum_shift a (suc i) k c, ap (λ (z : ℕ). sum_from z k c) e)

-- more numbers have no smaller sum
sum_more : (a b : ℕ) (c : ℕ → ℕ) → a ≤ b → sum_to a c ≤ sum_to b c
sum_more a b c h =
    let e : a + (b - a) ≡ b = omega arith in
    omega (arith, sum_from_lem a (b - a) c, ap (λ (z : ℕ). sum_to z c) e)

-- the sum of k numbers that are at least 1
pub sum_least : (i k : ℕ) (c : ℕ → ℕ) → ((j : ℕ) → j < i + k → 1 ≤ c j) → k ≤ sum_from i k c
unfolding sum_from
sum_least i zero c h = omega arith
sum_least i (suc k) c h = omega (arith, h i (omega arith), sum_least (suc i) k c (λ j l. h j (omega arith)))

-- ── kinds of fields ──

-- a field of the kind k is always a node
unfoldable pub is_node : ℕ → Bool
is_node k = cond (eqb (refers_to k) a_node) (eqb (k / 16) 1) false

-- a field of the kind k is a node or `-`
unfoldable pub is_optional : ℕ → Bool
is_optional k = cond (eqb (refers_to k) a_node) (eqb (k / 16) 2) false

-- a field that is always a node is a child
node_child : (k tag x : ℕ) → is_node k ≡ true → written_as (k / 16) tag x ≡ true → is_child k tag ≡ true
unfolding is_node is_child written_as
node_child k tag x = by (eqb (refers_to k) a_node) (eqb (k / 16) 1) _
  where
    by : (b c z : Bool) → cond b c false ≡ true → cond c (eqb tag 1) z ≡ true → cond b (eqb tag 1) false ≡ true
    by true true z e w = w
    by true false z e w = absurd (false≢true e)
    by false c z e w = absurd (false≢true e)

-- a field that may be a node is a child where it is not `-`
optional_child : (k tag x : ℕ) → is_optional k ≡ true → written_as (k / 16) tag x ≡ true → eqb tag 0 ≡ false → is_child k tag ≡ true
unfolding is_optional is_child written_as
optional_child k tag x o w z = by (eqb (refers_to k) a_node) (eqb (k / 16) 2) refl o
  where
    one : k / 16 ≡ 2 → eqb tag 1 ≡ true
    one e = let l : tag < 2 = ltb-true tag 2 (rw e at w) in eq-eqb tag 1 (omega (arith, eqb-false tag 0 z))

    by : (b c : Bool) → eqb (k / 16) 2 ≡ c → cond b c false ≡ true → cond b (eqb tag 1) false ≡ true
    by true true p e = one (eqb-true (k / 16) 2 p)
    by true false p e = absurd (false≢true e)
    by false c p e = absurd (false≢true e)

-- the kind of a field, by its place
pub kind_by : (P : ℕ → Type 0) (f : Form) (i : ℕ) → (i ≡ 0 → P f.0) → (i ≡ 1 → P f.1) → P f.2 → P f.3 → P (kind_at f i)
unfolding kind_at
kind_by P f i p q r s = by (eqb i 0) refl (eqb i 1) refl (eqb i 2)
  where
    by : (a : Bool) → eqb i 0 ≡ a → (b : Bool) → eqb i 1 ≡ b → (c : Bool) → P (cond a f.0 (cond b f.1 (cond c f.2 f.3)))
    by true x b y c = p (eqb-true i 0 x)
    by false x true y c = q (eqb-true i 1 y)
    by false x false y true = r
    by false x false y false = s

-- the items behind the first a fields are fields
pub items_inside : (c a : ℕ) → a ≤ c → a + count_behind c a ≤ c
unfolding count_behind
items_inside c a h = by (leb c a) (ltb (c - a) 255) refl
  where
    by : (x y : Bool) → ltb (c - a) 255 ≡ y → a + pick x 0 (pick y (c - a) 255) ≤ c
    by true y q = omega arith
    by false true q = omega arith
    by false false q = omega (arith, ltb-false (c - a) 255 q)

-- ── a node ──

-- the weight of a node
abbrev pub tree_size : List ℕ → List ℕ → ℕ → ℕ
tree_size rows cells = weight rows cells 64

-- what the child in the field i of the node x weighs, if it is one
abbrev pub part_size : List ℕ → List ℕ → ℕ → ℕ → ℕ
part_size rows cells x i = part_of (tree_size rows cells) rows cells (nodes_at + x) i

-- the weight of the children of a node
abbrev pub children_size : List ℕ → List ℕ → ℕ → ℕ
children_size rows cells x = below (tree_size rows cells) rows cells (nodes_at + x)

-- the number in the first field of the node x
abbrev pub first_child : List ℕ → List ℕ → ℕ → ℕ
first_child rows cells x = value_in cells (first_in rows (nodes_at + x))

-- the items behind the first a fields of the node x
abbrev pub items_at : List ℕ → ℕ → ℕ → Items
items_at rows x a = behind (first_in rows (nodes_at + x)) (count_in rows (nodes_at + x)) a

-- it is that of the field 0
pub first_field : (rows cells : List ℕ) (x : ℕ) → child_in rows cells (nodes_at + x) 0 ≡ first_child rows cells x
first_field rows cells x = ap (value_in cells) (add-zero (first_in rows (nodes_at + x)))

-- the field i of the node x is a child, the node y
pub record Part (n : Counts) (rows cells : List ℕ) (x i y : ℕ) : Type 0 where
  pub child : ChildAt rows cells (nodes_at + x) i y
  pub lower : y < n.nodes
  pub weighs : part_size rows cells x i ≡ tree_size rows cells y

module _ (n : Counts) (rows cells : List ℕ) (w : WellFormed n rows cells) where
  -- BODY is one of the nodes
  pub body_lower : body_in rows cells < n.nodes
  body_lower = fn_child_lower n rows cells w 0 (omega (arith, fn_count n rows cells w))

  -- a node weighs 1 more than its children
  pub whole : (x : ℕ) → x < n.nodes → tree_size rows cells x ≡ suc (children_size rows cells x)
  whole x h = weight_tree n rows cells w 64 x h (w.depth x h) ∙ omega arith

  module _ (x : ℕ) (h : x < n.nodes) where
    -- a child that is there
    child_part : (i y : ℕ) → i < count_in rows (nodes_at + x) → has_child rows cells (nodes_at + x) i ≡ true → child_in rows cells (nodes_at + x) i ≡ y → Part n rows cells x i y
    unfolding part_of
    child_part i y b c e = record {
      child = record { there = b; child = c; value = e };
      lower = rw e at (child_lower n rows cells w x h i b c);
      weighs = rw c (ap (tree_size rows cells) e);
    }

    module _ (f : ℕ) (e : form_in rows (nodes_at + x) ≡ f) where
      -- a line has at least the fields of its form
      fields_there : (form_at f).4 ≤ count_in rows (nodes_at + x)
      fields_there = rw e at (node_good n rows cells w x h).least

      -- a field of a kind that is always a node
      field_part : (i y : ℕ) → i < count_in rows (nodes_at + x) → is_node (kind_at (form_at f) i) ≡ true → child_in rows cells (nodes_at + x) i ≡ y → Part n rows cells x i y
      field_part i y b k = child_part i y b (rw e (node_child (kind_at (form_at f) i) _ _ k (rw e at ((node_good n rows cells w x h).fields i b).written)))

      -- one of the least number of fields
      pub node_part : (i y : ℕ) → i < (form_at f).4 → is_node (kind_at (form_at f) i) ≡ true → child_in rows cells (nodes_at + x) i ≡ y → Part n rows cells x i y
      node_part i y l = field_part i y (omega (arith, fields_there))

      -- one that may be a node, where it is not `-`
      pub optional_part : (i y : ℕ) → i < (form_at f).4 → is_optional (kind_at (form_at f) i) ≡ true → eqb (tag_in cells (first_in rows (nodes_at + x) + i)) 0 ≡ false
          → child_in rows cells (nodes_at + x) i ≡ y → Part n rows cells x i y
      optional_part i y l k z =
          let b : i < count_in rows (nodes_at + x) = omega (arith, fields_there) in
          child_part i y b (rw e (optional_child (kind_at (form_at f) i) _ _ k (rw e at ((node_good n rows cells w x h).fields i b).written) z))

      -- the first a fields weigh no more than all
      pub front : (a : ℕ) → a ≤ (form_at f).4 → sum_to a (part_size rows cells x) ≤ children_size rows cells x
      front a l = sum_more a (count_in rows (nodes_at + x)) (part_size rows cells x) (omega (arith, fields_there))

      module _ (a : ℕ) (l : a ≤ (form_at f).4) where
        -- the item j behind the first a fields
        pub item_part : ((i : ℕ) → a ≤ i → is_node (kind_at (form_at f) i) ≡ true) → (j : ℕ) → j < (items_at rows x a).count → Part n rows cells x (a + j) (item cells (items_at rows x a) j)
        unfolding item
        item_part k j b =
            field_part (a + j) _ (omega (arith, items_inside (count_in rows (nodes_at + x)) a (omega (arith, fields_there)))) (k (a + j) (omega arith))
            (ap (value_in cells) (sym (add_assoc (first_in rows (nodes_at + x)) a j)))

        -- the first a fields and the items behind them weigh no more than all
        pub items_front : sum_to a (part_size rows cells x) + sum_from 0 (items_at rows x a).count (λ j. part_size rows cells x (a + j)) ≤ children_size rows cells x
        items_front =
            let c : ℕ = (items_at rows x a).count in
            let z : a + 0 ≡ a = omega arith in
            omega (
              arith,
              items_inside (count_in rows (nodes_at + x)) a (omega (arith, fields_there)),
              sum_shift a 0 c (part_size rows cells x),
              ap (λ (i : ℕ). sum_from i c (part_size rows cells x)) z,
              sum_from_lem a c (part_size rows cells x),
              sum_more (a + c) (count_in rows (nodes_at + x)) (part_size rows cells x) (items_inside (count_in rows (nodes_at + x)) a (omega (arith, fields_there))),
            )
