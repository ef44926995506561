-- The number of nodes of a tree, and that the trees of `fn` have together at most as many as there are.
-- Assumes nothing.
use Prim.Native.Nat.{ℕ, zero, suc, ◌+◌, ◌-◌, ◌/◌, ◌<◌, ◌≤◌}
use Rattle.std.proofs.Math.Numerals.{add-two}
use native.Mathlib.Omega.{arith}
use Rattle.std.specs.Prelude.{◌≡◌, List, Bool, leb, ltb, eqb, get_or}
use Rattle.std.proofs.Math.Path.{refl}
use Rattle.std.proofs.Common.{ap, true≢false, leb-true, le-leb, eqb-true, eq-eqb, ne_eqb}
use Rattle.std.proofs.Math.Bool.{true, false, cond}
use Rattle.std.proofs.lemmas.Bool.{false≢true, lt-leb, eqb-false}
use Rattle.forms.specs.Form.{forms, no_form, form_at, kind_at, key_node, key_fn, TypeRef, Body, TypedParam}
use Rattle.refs.specs.declared.Counts.{Counts}
use Rattle.refs.specs.Refs.{nodes_at, fn_at, form_in, first_in, count_in, levels_in, user_in, tag_in, refers_to, is_child, levels_of}
use Rattle.body.specs.Body.{count_of, base_of, deeper, levels_over}
use Rattle.well_formed.specs.Good.{written_as, RowGood, ChildGood, kind_in, behind, WellFormed}
use Rattle.well_formed.specs.Counting.{each, each_at, behind_less}
use Rattle.well_formed.specs.UsedOnce.{has_child, child_in, nodes_ordered, node_fn_ordered}

-- the sum of f over the numbers below m
unfoldable pub sum_to : ℕ → (ℕ → ℕ) → ℕ
sum_to zero f = 0
sum_to (suc m) f = f m + sum_to m f

-- what W gives for the child in the field i of the row r, nothing where it is no child
unfoldable pub part_of : (ℕ → ℕ) → List ℕ → List ℕ → ℕ → ℕ → ℕ
part_of W rows cells r i = cond (has_child rows cells r i) (W (child_in rows cells r i)) 0

-- the sum of W over the children of the row r
abbrev pub below : (ℕ → ℕ) → List ℕ → List ℕ → ℕ → ℕ
below W rows cells r = sum_to (count_in rows r) (part_of W rows cells r)

-- the number of nodes of the tree of the node x, to a depth of l levels
unfoldable pub weight : List ℕ → List ℕ → ℕ → ℕ → ℕ
weight rows cells zero x = 0
weight rows cells (suc l) x = 1 + below (weight rows cells l) rows cells (nodes_at + x)

-- a sum of no larger numbers is no larger
sum-le : (m : ℕ) (f g : ℕ → ℕ) → ((i : ℕ) → i < m → f i ≤ g i) → sum_to m f ≤ sum_to m g
unfolding sum_to
sum-le zero f g h = omega arith
sum-le (suc m) f g h = omega (arith, h m (omega arith), sum-le m f g (λ i b. h i (omega arith)))

-- and smaller by d, where one of its numbers is
sum_more : (m v d : ℕ) (f g : ℕ → ℕ) → ((i : ℕ) → i < m → f i ≤ g i) → v < m → f v + d ≤ g v → sum_to m f + d ≤ sum_to m g
unfolding sum_to
sum_more zero v d f g h b e = absurd (omega arith)
sum_more (suc m) v d f g h b e = by (eqb v m) refl (sum_more m v d f g (λ i b. h i (omega arith)))
  where
    by : (c : Bool) → eqb v m ≡ c → (v < m → f v + d ≤ g v → sum_to m f + d ≤ sum_to m g) → f m + sum_to m f + d ≤ g m + sum_to m g
    by true p again = omega (arith, ap f (eqb-true v m p), ap g (eqb-true v m p), sum-le m f g (λ i b. h i (omega arith)))
    by false p again = omega (arith, again (omega (arith, eqb-false v m p)) e, h m (omega arith))

-- the first number of a sum and the others
sum_front : (m : ℕ) (f : ℕ → ℕ) → sum_to (suc m) f ≡ f 0 + sum_to m (λ i. f (suc i))
unfolding sum_to
sum_front zero f = refl
sum_front (suc m) f = omega (arith, sum_front m f)

-- a number behind a test is no more than a larger one behind a test that passes where the first does
cond_le : (b c : Bool) (x y : ℕ) → (b ≡ true → c ≡ true) → (b ≡ true → x ≤ y) → cond b x 0 ≤ cond c y 0
cond_le true true x y h g = g refl
cond_le true false x y h g = absurd (false≢true (h refl))
cond_le false c x y h g = omega arith

-- the sum of no larger numbers over the children of a row is no larger
pub below_le : (W W' : ℕ → ℕ) (rows cells : List ℕ) (r : ℕ)
    → ((i : ℕ) → i < count_in rows r → has_child rows cells r i ≡ true → W (child_in rows cells r i) ≤ W' (child_in rows cells r i))
    → below W rows cells r ≤ below W' rows cells r
unfolding part_of
below_le W W' rows cells r h =
    sum-le (count_in rows r) (part_of W rows cells r) (part_of W' rows cells r)
    (λ i b. cond_le (has_child rows cells r i) _ _ _ (λ e. e) (h i b))

-- to a greater depth there are no fewer nodes
weight_grows : (rows cells : List ℕ) (l x : ℕ) → weight rows cells l x ≤ weight rows cells (suc l) x
unfolding weight
weight_grows rows cells zero x = omega arith
weight_grows rows cells (suc l) x =
    omega (arith, below_le (weight rows cells l) (weight rows cells (suc l)) rows cells (nodes_at + x) (λ i b c. weight_grows rows cells l (child_in rows cells (nodes_at + x) i)))

-- so a tree has no more nodes than its root and the trees of its children
pub weight_le : (rows cells : List ℕ) (l x : ℕ) → weight rows cells l x ≤ 1 + below (weight rows cells l) rows cells (nodes_at + x)
unfolding weight
weight_le = weight_grows

-- a level more than some, at most 64, is more
pub deeper_more : (d m : ℕ) → deeper d ≤ m → m ≤ 64 → d < m
unfolding deeper
deeper_more d m = by (ltb d 65)
  where
    by : (c : Bool) → cond c (d + 1) 65 ≤ m → m ≤ 64 → d < m
    by true h b = omega arith
    by false h b = absurd (omega arith)

-- the form f is a level of its own, where it is one of a node
own_level : ℕ → Bool
own_level f = cond (eqb (get_or forms f no_form).key key_node) (cond (eqb f 1) true (cond (ltb f 7) false (cond (ltb 28 f) false true))) true

-- a node is a level of its own
pub node_deeper : (f d : ℕ) → f < 30 → (get_or forms f no_form).key ≡ key_node → levels_over f d ≡ deeper d
unfolding each own_level forms levels_over
node_deeper f d h k = by (eqb (get_or forms f no_form).key key_node) (eq-eqb _ _ k) (eqb f 1) (ltb f 7) (ltb 28 f) (each_at 30 own_level f refl h)
  where
    by : (q : Bool) → q ≡ true → (a b c : Bool) → cond q (cond a true (cond b false (cond c false true))) true ≡ true
        → cond a (deeper d) (cond b d (cond c d (deeper d))) ≡ deeper d
    by false z a b c e = absurd (false≢true z)
    by true z true b c e = refl
    by true z false true c e = absurd (false≢true e)
    by true z false false true e = absurd (false≢true e)
    by true z false false false e = refl

module _ (n : Counts) (rows cells : List ℕ) (w : WellFormed n rows cells) where
  -- the row of a node is good
  pub node_good : (x : ℕ) → x < n.nodes → RowGood (behind n key_node x) n.fields key_node (nodes_at + x) rows cells
  unfolding base_of count_of
  node_good x h = w.nodes x h

  -- what stood before it has no more nodes
  node_behind : (x : ℕ) → x < n.nodes → (behind n key_node x).nodes ≤ n.nodes
  unfolding count_of
  node_behind x h = (behind_less n key_node x (omega arith)).nodes

  -- a node has a level
  pub node_level : (x : ℕ) → x < n.nodes → 0 < levels_in rows (nodes_at + x)
  unfolding deeper
  node_level x h = rw (node_deeper (form_in rows (nodes_at + x)) 0 (node_good x h).form (node_good x h).key) at (node_good x h).level

  module _ (x : ℕ) (h : x < n.nodes) (i : ℕ) (b : i < count_in rows (nodes_at + x))
      (c : has_child rows cells (nodes_at + x) i ≡ true) where
    -- a child of a node is a node
    pub child_lower : child_in rows cells (nodes_at + x) i < n.nodes
    child_lower = omega (arith, node_behind x h, (((node_good x h).fields i b).child c).lower)

    -- the levels of a child of a node are fewer
    pub child_levels : levels_in rows (nodes_at + child_in rows cells (nodes_at + x) i) < levels_in rows (nodes_at + x)
    unfolding levels_of
    child_levels = deeper_more _ _ (rw (c, node_deeper (form_in rows (nodes_at + x)) _ (node_good x h).form (node_good x h).key) at ((node_good x h).levels i b)) (w.depth x h)

module _ (rows cells : List ℕ) (N : ℕ) (W : ℕ → ℕ) where
  -- W of the node x, where its user is at most b
  abbrev used_in : ℕ → ℕ → ℕ
  used_in b x = cond (leb (user_in rows (nodes_at + x)) b) (W x) 0

  -- the sum of W over the first N nodes whose users are at most b
  abbrev used_to : ℕ → ℕ
  used_to b = sum_to N (used_in b)

  -- with a higher bound W of a node is no less,
  used_in_le : (b c x : ℕ) → b ≤ c → used_in b x ≤ used_in c x
  used_in_le b c x h =
      cond_le (leb (user_in rows (nodes_at + x)) b) (leb (user_in rows (nodes_at + x)) c) (W x) (W x)
      (λ e. le-leb (user_in rows (nodes_at + x)) c (omega (arith, leb-true (user_in rows (nodes_at + x)) b e))) (λ e. omega arith)

  -- nor is the sum,
  used_le : (b c : ℕ) → b ≤ c → used_to b ≤ used_to c
  used_le b c h = sum-le N (used_in b) (used_in c) (λ x l. used_in_le b c x h)

  -- which is at most that over all,
  used_all : (b : ℕ) → used_to b ≤ sum_to N W
  used_all b = sum-le N (used_in b) W (λ x l. cond_le (leb (user_in rows (nodes_at + x)) b) true (W x) (W x) (λ e. refl) (λ e. omega arith))

  -- and more by W of a node that has the next user
  used_more : (j v : ℕ) → v < N → user_in rows (nodes_at + v) ≡ j + 1 → used_to j + W v ≤ used_to (j + 1)
  used_more j v h e =
      sum_more N v (W v) (used_in j) (used_in (j + 1)) (λ x l. used_in_le j (j + 1) x (omega arith)) h
      (rw (lt-leb (user_in rows (nodes_at + v)) j (omega arith), le-leb (user_in rows (nodes_at + v)) (j + 1) (omega arith)) (omega arith))

  module _ (n : Counts) (m k r : ℕ) (g : RowGood n m k r rows cells) (fewer : n.nodes ≤ N) where
    -- a field of a good row uses its child
    part_used : (i : ℕ) → i < count_in rows r → used_to (first_in rows r + i) + part_of W rows cells r i ≤ used_to (first_in rows r + i + 1)
    unfolding part_of
    part_used i h = by (has_child rows cells r i) refl
      where
        by : (c : Bool) → has_child rows cells r i ≡ c
            → used_to (first_in rows r + i) + cond c (W (child_in rows cells r i)) 0 ≤ used_to (first_in rows r + i + 1)
        by true p =
            let child : ChildGood n (kind_in rows r i) (first_in rows r + i) (child_in rows cells r i) rows cells = (g.fields i h).child p in
            used_more (first_in rows r + i) (child_in rows cells r i) (omega (arith, child.lower)) child.used
        by false p = omega (arith, used_le (first_in rows r + i) (first_in rows r + i + 1) (omega arith))

    -- so do its first c fields
    parts_used : (c : ℕ) → c ≤ count_in rows r → used_to (first_in rows r) + sum_to c (part_of W rows cells r) ≤ used_to (first_in rows r + c)
    unfolding sum_to
    parts_used zero h = omega (arith, used_le (first_in rows r) (first_in rows r + 0) (omega arith))
    parts_used (suc c) h =
        omega (arith, parts_used c (omega arith), part_used c (omega arith), used_le (first_in rows r + c + 1) (first_in rows r + suc c) (omega arith))

    -- and all its fields
    below_used : used_to (first_in rows r) + below W rows cells r ≤ used_to (first_in rows r + count_in rows r)
    below_used = parts_used (count_in rows r) (omega arith)

module _ (n : Counts) (rows cells : List ℕ) (w : WellFormed n rows cells) (W : ℕ → ℕ)
    (least : (x : ℕ) → x < n.nodes → W x ≤ 1 + below W rows cells (nodes_at + x)) where
  -- the sum of W over m nodes whose fields end by e is at most m more than that over the nodes that fields before e use
  nodes_used : (m e : ℕ) → m ≤ n.nodes → ((x : ℕ) → x < m → first_in rows (nodes_at + x) + count_in rows (nodes_at + x) ≤ e)
      → sum_to m W ≤ m + used_to rows cells n.nodes W e
  unfolding sum_to
  nodes_used zero e h b = omega arith
  nodes_used (suc m) e h b =
      omega (
        arith,
        least m (omega arith),
        nodes_used m (first_in rows (nodes_at + m)) (omega arith) (λ x l. nodes_ordered n rows cells w x m l (omega arith)),
        below_used rows cells n.nodes W (behind n key_node m) n.fields key_node (nodes_at + m) (node_good n rows cells w m (omega arith)) (node_behind n rows cells w m (omega arith)),
        used_le rows cells n.nodes W (first_in rows (nodes_at + m) + count_in rows (nodes_at + m)) e (b m (omega arith)),
      )

  -- the sum of W over the children of `fn` is at most the number of nodes
  fn_below : below W rows cells fn_at ≤ n.nodes
  fn_below =
      omega (
        arith,
        nodes_used n.nodes (first_in rows fn_at) (omega arith) (node_fn_ordered n rows cells w),
        below_used rows cells n.nodes W n n.fields key_fn fn_at w.fn (omega arith),
        used_all rows cells n.nodes W (first_in rows fn_at + count_in rows fn_at),
      )

-- the trees of the children of `fn` have together at most as many nodes as there are
pub trees_bound : (n : Counts) (rows cells : List ℕ) → WellFormed n rows cells → (l : ℕ) → below (weight rows cells l) rows cells fn_at ≤ n.nodes
trees_bound n rows cells w l = fn_below n rows cells w (weight rows cells l) (λ x h. weight_le rows cells l x)

-- BODY of `fn`
abbrev pub body_in : List ℕ → List ℕ → ℕ
body_in rows cells = child_in rows cells fn_at 1

-- the number of its P
abbrev pub params_in : List ℕ → ℕ
params_in rows = count_in rows fn_at - 2

-- its P of the number i
abbrev pub param_in : List ℕ → List ℕ → ℕ → ℕ
param_in rows cells i = child_in rows cells fn_at (i + 2)

-- the form f is the last, where it is that of `fn`
only_fn : ℕ → Bool
only_fn f = cond (eqb (get_or forms f no_form).key key_fn) (eqb f 29) true

-- the form of `fn` is the last
fn_form : (f : ℕ) → f < 30 → (get_or forms f no_form).key ≡ key_fn → f ≡ 29
unfolding each only_fn forms
fn_form f h k = eqb-true f 29 (by (eqb (get_or forms f no_form).key key_fn) (eq-eqb _ _ k) (each_at 30 only_fn f refl h))
  where
    by : (b : Bool) → b ≡ true → cond b (eqb f 29) true ≡ true → eqb f 29 ≡ true
    by true z e = e
    by false z e = absurd (false≢true z)

-- each field of `fn` but the first is a child
fn_kind : (i tag x : ℕ) → (i ≡ 0 → ⊥) → written_as (kind_at (form_at 29) i / 16) tag x ≡ true → is_child (kind_at (form_at 29) i) tag ≡ true
unfolding kind_at form_at forms written_as is_child refers_to
fn_kind i tag x h = by (eqb i 0) (ne_eqb i 0 h) (eqb i 1) (eqb i 2)
  where
    by : (a : Bool) → a ≡ false → (b c : Bool) → written_as (cond a TypeRef (cond b Body (cond c TypedParam TypedParam)) / 16) tag x ≡ true
        → is_child (cond a TypeRef (cond b Body (cond c TypedParam TypedParam))) tag ≡ true
    by true z b c w = absurd (true≢false z)
    by false z true c w = w
    by false z false true w = w
    by false z false false w = w

module _ (n : Counts) (rows cells : List ℕ) (w : WellFormed n rows cells) where
  -- the row of `fn` is of its form
  fn_is : form_in rows fn_at ≡ 29
  fn_is = fn_form (form_in rows fn_at) w.fn.form w.fn.key

  -- each field of it but the first is a child,
  pub fn_has_child : (i : ℕ) → suc i < count_in rows fn_at → has_child rows cells fn_at (suc i) ≡ true
  fn_has_child i h =
      rw fn_is
      (fn_kind (suc i) (tag_in cells (first_in rows fn_at + suc i)) (child_in rows cells fn_at (suc i)) (λ e. omega (arith, e)) (rw fn_is at (w.fn.fields (suc i) h).written))

  -- and a node
  pub fn_child_lower : (i : ℕ) → suc i < count_in rows fn_at → child_in rows cells fn_at (suc i) < n.nodes
  fn_child_lower i h = ((w.fn.fields (suc i) h).child (fn_has_child i h)).lower

  -- W of it
  fn_part : (W : ℕ → ℕ) (i : ℕ) → suc i < count_in rows fn_at → part_of W rows cells fn_at (suc i) ≡ W (child_in rows cells fn_at (suc i))
  unfolding part_of
  fn_part W i h = rw (fn_has_child i h)

  -- the fields of `fn` are OUT, BODY and each P
  pub fn_count : count_in rows fn_at ≡ suc (suc (params_in rows))
  unfolding form_at forms
  fn_count = let least : 2 ≤ count_in rows fn_at = rw fn_is at w.fn.least in omega arith

  -- the sum of W over each P is no more than over the fields behind BODY
  fn_params : (W : ℕ → ℕ) → sum_to (params_in rows) (λ i. W (param_in rows cells i)) ≤ sum_to (params_in rows) (λ i. part_of W rows cells fn_at (suc (suc i)))
  fn_params W = sum-le (params_in rows) _ _ (λ i h. rw (add-two i) (omega (arith, fn_part W (suc i) (omega (arith, fn_count)))))

  -- the sum of W over BODY and each P is no more than over the children of `fn`
  fn_children : (W : ℕ → ℕ) → W (body_in rows cells) + sum_to (params_in rows) (λ i. W (param_in rows cells i)) ≤ below W rows cells fn_at
  fn_children W =
      let f : ℕ → ℕ = part_of W rows cells fn_at in
      omega (
        arith,
        ap (λ (c : ℕ). sum_to c f) fn_count,
        sum_front (suc (params_in rows)) f,
        sum_front (params_in rows) (λ i. f (suc i)),
        fn_part W 0 (omega (arith, fn_count)),
        fn_params W,
      )

  -- the trees of BODY and of each P have together at most as many nodes as there are
  pub tree_bound : (l : ℕ) → weight rows cells l (body_in rows cells) + sum_to (params_in rows) (λ i. weight rows cells l (param_in rows cells i)) ≤ n.nodes
  tree_bound l = omega (arith, fn_children (weight rows cells l), trees_bound n rows cells w l)
