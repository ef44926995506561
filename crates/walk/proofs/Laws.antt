-- What each return of the walk shows: the program of a rule, from those of its parts.
use Rattle.std.specs.Prelude.{◌⊎◌, Err, None, Ok, Option as Option·R, Result, Some}
use Rattle.std.specs.Result.{IsErr, IsErrAnd}
use mathlib.Core.Path.{◌≡◌, refl, sym, subst}
use mathlib.Core.List.{List}
use mathlib.Core.Logic.{inl, inr}
use mathlib.Core.Option.{Option, none, some}
use Prim.Native.Nat.{ℕ, suc, ◌+◌, ◌-◌, ◌<◌, ◌≤◌}
use native.Mathlib.Omega.{arith}
use Rattle.type_table.specs.declared.TypeId.{TypeId}
use Rattle.type_table.specs.declared.DefId.{DefId}
use Rattle.type_table.specs.declared.NodeId.{NodeId}
use Rattle.nodes.specs.declared.Items.{Items}
use Rattle.nodes.specs.declared.Callee.{Callee}
use Rattle.nodes.specs.declared.Node.{Node}
use Rattle.nodes.specs.declared.Node.TheVariants as form
use Rattle.nodes.specs.Nodes.{Body, item, node_at, let_at}
use Rattle.record.specs.declared.Record.{Record}
use Rattle.record.specs.declared.Refusal.{Refusal}
use Rattle.record.specs.declared.Span.{Span}
use Rattle.record.specs.Steps.{Walk, set_node_type, for_each}
use Rattle.record.specs.Encodes.{Runs, Stops, Does, Types}
use Rattle.record.specs.Runs.{runs_done, then, then_stops, stops, type_is, type_refused, typed_type, typed_refused}
use Rattle.record.specs.Loops.{Onto, onto_same, onto_start, onto_next, onto_stops, onto_end}
use Rattle.rules.specs.Answers.{Indexes, Calls, Finds}
use Rattle.rules.specs.Rules as rule
use Rattle.walk.specs.Pairs.{Pairs}
use Rattle.walk.specs.WrittenDown.{WrittenDown}
use Rattle.walk.specs.Walk.{Visit, element, elements, typeck_stmt, stmt, stmts, arg, args, rule_of, typeck_rule, typeck_expr}

-- what is not there
pub absent : {A : Type 0} (o : Option·R A) → ((x : A) → o ≡ Some x → ⊥) → o ≡ None
absent None h = refl
absent (Some x) h = absurd (h x refl)

-- ── a `?` ──

module _ {m m' : List ℕ} {c : Record} {A : Type 0} {v : Result A Refusal} {e : Refusal} (was : v ≡ Err e) where
  -- it returns the refusal of a part as that of the whole, where two types are given
  pub exit_pair : {p : Walk (ℕ × ℕ)} (r : Result (Record × TypeId × TypeId) Refusal) → IsErr r × IsErrAnd r (λ y. y ≡ e) → Stops m c m' e.record p e.number e.node.0 → Pairs m c m' r p
  exit_pair (Ok x) h S = absurd h.1
  exit_pair (Err y) h S = rw h.1 (record { by = S })

-- ── answers by their variants ──

module _ {m m' : List ℕ} {c d : Record} where
  -- two types
  pub pair_types : {p : Walk (ℕ × ℕ)} {r : Result (Record × TypeId × TypeId) Refusal} {x y : TypeId} → r ≡ Ok (d, x, y) → Pairs m c m' r p → Runs m c m' d p (x.0, y.0)
  pair_types e h = rw e at h.by

  -- no element
  pub element_not : {p : Walk (Option ℕ)} {r : Result TypeId Record} → r ≡ Err d → Indexes m c m' r p → Runs m c m' d p none
  element_not e h = rw e at h.by

  -- no callee
  pub callee_not : {p : Walk (Option (Callee × ℕ))} {r : Result (Callee × TypeId) Record} → r ≡ Err d → Calls m c m' r p → Runs m c m' d p none
  callee_not e h = rw e at h.by

  -- no method
  pub method_not : {p : Walk (Option ℕ)} {r : Result DefId Record} → r ≡ Err d → Finds m c m' r p → Runs m c m' d p none
  method_not e h = rw e at h.by

module _ {m m' : List ℕ} {c : Record} where
  -- a refusal of two types
  pub pair_refused : {p : Walk (ℕ × ℕ)} {r : Result (Record × TypeId × TypeId) Refusal} {e : Refusal} → r ≡ Err e → Pairs m c m' r p → Stops m c m' e.record p e.number e.node.0
  pair_refused e h = rw e at h.by

  -- an element
  pub element_is : {p : Walk (Option ℕ)} {r : Result TypeId Record} {e : TypeId} → r ≡ Ok e → Indexes m c m' r p → Runs m c m' c p (some e.0)
  element_is e h = rw e at h.by

  -- a callee
  pub callee_is : {p : Walk (Option (Callee × ℕ))} {r : Result (Callee × TypeId) Record} {f : Callee} {o : TypeId} → r ≡ Ok (f, o) → Calls m c m' r p → Runs m c m' c p (some (f, o.0))
  callee_is e h = rw e at h.by

  -- a method
  pub method_is : {p : Walk (Option ℕ)} {r : Result DefId Record} {f : DefId} → r ≡ Ok f → Finds m c m' r p → Runs m c m' c p (some f.0)
  method_is e h = rw e at h.by

-- ── a node ──

-- the rule of a node, by its form
pub rule_by : (b : Body) (E : Visit) {m m' : List ℕ} {c : Record} (n : ℕ) (v k : Node) {z : Result (Record × TypeId) Refusal} → v ≡ node_at b.rows b.cells n → v ≡ k → Types m c m' z (rule_of b E n k) → Types m c m' z (typeck_rule b E n)
unfolding typeck_rule
rule_by b E n v k h e R = rw (← h, e) R

-- that of a `let` or a `param`, which are no expressions
pub rule_none : (b : Body) (E : Visit) {m : List ℕ} {c : Record} (n : ℕ) (v : Node) → v ≡ node_at b.rows b.cells n → ((t : Option·R TypeId) × (e : Option·R NodeId) × (v ≡ form.Let t e)) ⊎ ((t : Option·R TypeId) × (v ≡ form.Param t)) → Types m c m (Ok (c, record { 0 = rule.err_type })) (typeck_rule b E n)
rule_none b E n v h (inl q) = rule_by b E n v (form.Let q.0 q.1) h q.2 (typed_type runs_done)
rule_none b E n v h (inr q) = rule_by b E n v (form.Param q.0) h q.1 (typed_type runs_done)

module _ (b : Body) (n : ℕ) where
  -- no level is left
  pub expr_none : {m : List ℕ} {c : Record} (k : ℕ) → k ≡ 0 → Runs m c m c (typeck_expr b k n) rule.err_type
  unfolding typeck_expr
  expr_none k h = rw h runs_done

  -- the levels below
  levels_below : (k : ℕ) → (k ≡ 0 → ⊥) → k ≡ suc (k - 1)
  levels_below k h = omega arith

  -- its rule, and its type is written down
  pub expr_on : {m m₁ m' : List ℕ} {c d : Record} (k t : ℕ) → (k ≡ 0 → ⊥) → Runs m c m₁ d (typeck_rule b (typeck_expr b (k - 1)) n) t → Runs m₁ d m' d (set_node_type n t) tt → Runs m c m' d (typeck_expr b k n) t
  unfolding typeck_expr
  expr_on k t h R T = rw (levels_below k h) (then _ R (then _ T runs_done))

  -- its rule is refused
  pub expr_off : {m m' : List ℕ} {c d : Record} (k a p : ℕ) → (k ≡ 0 → ⊥) → Stops m c m' d (typeck_rule b (typeck_expr b (k - 1)) n) a p → Stops m c m' d (typeck_expr b k n) a p
  unfolding typeck_expr
  expr_off k a p h R = rw (levels_below k h) (stops _ R)

  -- what its rule gave is written down
  pub expr_written : {m m₁ m' : List ℕ} {c : Record} {z : Result (Record × TypeId) Refusal} (k : ℕ) → (k ≡ 0 → ⊥) → Types m c m₁ z (typeck_rule b (typeck_expr b (k - 1)) n) → WrittenDown m₁ n z m' → Types m c m' z (typeck_expr b k n)
  expr_written {z = Ok (d, t)} k h R w = typed_type (expr_on k t.0 h (type_is refl R) (w.by d))
  expr_written {z = Err e} k h R w = typed_refused (expr_off k e.number e.node.0 h (type_refused refl (rw w.by R)))

-- a type is written down,
pub written_type : (n : ℕ) {m w : List ℕ} {z : Result (Record × TypeId) Refusal} {d : Record} {t : TypeId} → z ≡ Ok (d, t) → Does m w (set_node_type n t.0) → WrittenDown m n z w
written_type n {m = m} {w = w} e p = subst (λ (z : Result (Record × TypeId) Refusal). WrittenDown m n z w) (sym e) (record { by = p })

-- and nothing where there is none
pub written_none : (n : ℕ) {m : List ℕ} (z : Result (Record × TypeId) Refusal) → ((x : Record × TypeId) → z ≡ Ok x → ⊥) → WrittenDown m n z m
written_none n (Ok x) h = absurd (h x refl)
written_none n (Err e) h = record { by = refl }

-- ── loops ──

module _ (b : Body) (E : Visit) (t : Items) where
  -- ── the later elements of a list ──

  module _ (n x : ℕ) where
    -- none is done
    pub elements_first : {m : List ℕ} {c : Record} → Onto m c m c (elements b E n t x) (for_each 1 (t.count - 1) (element b E n t x))
    unfolding elements
    elements_first = onto_same

    module _ {m₀ m : List ℕ} {c₀ c : Record} (i k a : ℕ) (l : i < k) (e : a ≡ item b.cells t i) (O : Onto m₀ c₀ m c (elements b E n t x) (for_each i (k - i) (element b E n t x))) where
      -- one more
      pub elements_next : {m₁ m₂ : List ℕ} {c₁ c₂ : Record} (y : ℕ) → Runs m c m₁ c₁ (E a) y → Runs m₁ c₁ m₂ c₂ (rule.element n a x y) tt → Onto m₀ c₀ m₂ c₂ (elements b E n t x) (for_each (i + 1) (k - (i + 1)) (element b E n t x))
      unfolding element
      elements_next y T R = onto_next (element b E n t x) i k l O (rw (← e) (then _ T R))

      -- one whose equation is refused
      pub elements_refused : {m₁ m₂ : List ℕ} {c₁ c₂ : Record} (y q p : ℕ) → Runs m c m₁ c₁ (E a) y → Stops m₁ c₁ m₂ c₂ (rule.element n a x y) q p → Stops m₀ c₀ m₂ c₂ (elements b E n t x) q p
      unfolding element
      elements_refused y q p T R = onto_stops (element b E n t x) i k l O (rw (← e) (then_stops _ T R))

      -- one that is refused itself
      pub elements_stop : {m₁ : List ℕ} {c₁ : Record} (q p : ℕ) → Stops m c m₁ c₁ (E a) q p → Stops m₀ c₀ m₁ c₁ (elements b E n t x) q p
      unfolding element
      elements_stop q p T = onto_stops (element b E n t x) i k l O (rw (← e) (stops _ T))

    -- all are done
    pub elements-last : {m₀ m : List ℕ} {c₀ c : Record} (i k : ℕ) → k ≤ i → Onto m₀ c₀ m c (elements b E n t x) (for_each i (k - i) (element b E n t x)) → Runs m₀ c₀ m c (elements b E n t x) tt
    elements-last i k h O = onto_end (element b E n t x) i k h O

  -- ── the arguments of a call ──

  module _ (n : ℕ) (p : Span) (f : Callee) (from : ℕ) where
    -- none is done
    pub args_first : {m : List ℕ} {c : Record} → Onto m c m c (args b E n p f t from) (for_each 0 (t.count - 0) (arg b E n p f t from))
    unfolding args
    args_first = onto_start (arg b E n p f t from) t.count

    module _ {m₀ m : List ℕ} {c₀ c : Record} (i k a : ℕ) (l : i < k) (e : a ≡ item b.cells t i) (O : Onto m₀ c₀ m c (args b E n p f t from) (for_each i (k - i) (arg b E n p f t from))) where
      -- one more
      pub args_next : {m₁ m₂ : List ℕ} {c₁ c₂ : Record} (y : ℕ) → Runs m c m₁ c₁ (E a) y → Runs m₁ c₁ m₂ c₂ (rule.argument b.rows b.cells n p f (from + i) y) tt → Onto m₀ c₀ m₂ c₂ (args b E n p f t from) (for_each (i + 1) (k - (i + 1)) (arg b E n p f t from))
      unfolding arg
      args_next y T R = onto_next (arg b E n p f t from) i k l O (rw (← e) (then _ T R))

      -- one whose equation is refused
      pub args_refused : {m₁ m₂ : List ℕ} {c₁ c₂ : Record} (y q w : ℕ) → Runs m c m₁ c₁ (E a) y → Stops m₁ c₁ m₂ c₂ (rule.argument b.rows b.cells n p f (from + i) y) q w → Stops m₀ c₀ m₂ c₂ (args b E n p f t from) q w
      unfolding arg
      args_refused y q w T R = onto_stops (arg b E n p f t from) i k l O (rw (← e) (then_stops _ T R))

      -- one that is refused itself
      pub args_stop : {m₁ : List ℕ} {c₁ : Record} (q w : ℕ) → Stops m c m₁ c₁ (E a) q w → Stops m₀ c₀ m₁ c₁ (args b E n p f t from) q w
      unfolding arg
      args_stop q w T = onto_stops (arg b E n p f t from) i k l O (rw (← e) (stops _ T))

    -- all are done
    pub args_last : {m₀ m : List ℕ} {c₀ c : Record} (i k : ℕ) → k ≤ i → Onto m₀ c₀ m c (args b E n p f t from) (for_each i (k - i) (arg b E n p f t from)) → Runs m₀ c₀ m c (args b E n p f t from) tt
    args_last i k h O = onto_end (arg b E n p f t from) i k h O

  -- ── the statements of a block ──

  -- none is done
  pub stmts_first : {m : List ℕ} {c : Record} → Onto m c m c (stmts b E t) (for_each 0 (t.count - 0) (stmt b E t))
  unfolding stmts
  stmts_first = onto_start (stmt b E t) t.count

  module _ {m₀ m : List ℕ} {c₀ c : Record} (i k a : ℕ) (l : i < k) (e : a ≡ item b.cells t i) (O : Onto m₀ c₀ m c (stmts b E t) (for_each i (k - i) (stmt b E t))) where
    -- one more
    pub stmts_next : {m₁ : List ℕ} {c₁ : Record} → Runs m c m₁ c₁ (typeck_stmt b E a (let_at b.rows b.cells a)) tt → Onto m₀ c₀ m₁ c₁ (stmts b E t) (for_each (i + 1) (k - (i + 1)) (stmt b E t))
    unfolding stmt
    stmts_next T = onto_next (stmt b E t) i k l O (rw (← e) T)

    -- one that is refused
    pub stmts_stop : {m₁ : List ℕ} {c₁ : Record} (q p : ℕ) → Stops m c m₁ c₁ (typeck_stmt b E a (let_at b.rows b.cells a)) q p → Stops m₀ c₀ m₁ c₁ (stmts b E t) q p
    unfolding stmt
    stmts_stop q p T = onto_stops (stmt b E t) i k l O (rw (← e) T)

  -- all are done
  pub stmts_last : {m₀ m : List ℕ} {c₀ c : Record} (i k : ℕ) → k ≤ i → Onto m₀ c₀ m c (stmts b E t) (for_each i (k - i) (stmt b E t)) → Runs m₀ c₀ m c (stmts b E t) tt
  stmts_last i k h O = onto_end (stmt b E t) i k h O
