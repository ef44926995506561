-- A well-formed body meets no default: with any other answers in their place it runs to the same answer and state. Assumes nothing.
use Rattle.std.specs.Prelude.{◌≡◌, List, [], ◌∷◌, Bool, ℕ, suc, zero, ◌+◌, ◌<◌, ◌≤◌, eqb, get_or, replicate}
use Rattle.std.proofs.Math.Path.{refl}
use Rattle.std.proofs.Common.{ap, ◌∙◌, arith}
use Rattle.std.proofs.Math.Option.{Option, none, some}
use Rattle.std.proofs.Math.Bool.{true, false, cond}
use Rattle.std.proofs.lemmas.Bool.{false≢true}
use Rattle.std.proofs.Math.ListN.{length}
use Rattle.theory.specs.Rules.{Shape, Kind, regular, integer, floating, as_var, row, kind, bound, iter}
use Rattle.theory.specs.Program.{run, ◌>>=◌}
use Rattle.theory.specs.Basics.{All}
use Rattle.theory.specs.Graph.{Good}
use Rattle.theory.specs.Demand.{Track}
use Rattle.theory.proofs.Demand.{track}
use Rattle.theory.specs.Start.{start}
use Rattle.forms.specs.Form.{forms, form_at, kind_at}
use Rattle.refs.specs.declared.Counts.{Counts}
use Rattle.refs.specs.Refs.{nodes_at, fn_at, form_in, count_in, is_expr, is_last, stands}
use Rattle.nodes.specs.Nodes.{Body, as_arr}
use Rattle.record.specs.Own.{blank}
use Rattle.record.specs.Steps.{State, Walk, shape_of_lem, for_each}
use Rattle.rules.specs.Rules.{err_type}
use Rattle.resolve.specs.Resolve.{bound_of, end_by, end_from, end_of, drawn_as, open_type, variable_type, settled, resolve_variable, resolve_array, resolve_element, resolve_shape, resolve_type_variable, final_type, resolve_node, resolve_nodes, body_with}
use Rattle.well_formed.specs.Good.{WellFormed, kind_in}
use Rattle.well_formed.specs.Weight.{body_in, fn_count, fn_has_child}
use Rattle.bounds.specs.Refers.{fn_form}
use Rattle.bounds.specs.Confined.{Confined, Known, DrawnAt, Any, any_numbers, any_known, done_confined, shape_of_confined, node_type_confined, set_final_confined, array_of_confined}
use Rattle.bounds.specs.ConfinedWalk.{resolve_variable_confined}
use Rattle.bounds.specs.InRows.{declared_state, declared_track}
use Rattle.bounds.specs.Origins.{OriginsOf, origin_of_lem, drawn_some, run_origins}
use Rattle.bounds.specs.Alike.{Same, bind_same, each_same, and_same, Raws, Alike}
use Rattle.bounds.specs.Defaults.{Defaults, other_end, other_open, other_settled, other_variable, other_array, other_element, other_shape, other_resolved, other_final, other_node}

-- ── the end of bindings ──

module _ (rows : List Shape) (kinds : List Kind) (b : List (Option ℕ)) (good : Good rows kinds b) where
  -- with more steps than a row's rank its bindings end, whatever is answered where they do not
  ends : (d e n x : ℕ) → good.rank x < n
      → iter (λ (f : ℕ → ℕ) (y : ℕ). end_by f y (bound_of b (as_var (row rows y)))) d n x ≡ iter (λ (f : ℕ → ℕ) (y : ℕ). end_by f y (bound_of b (as_var (row rows y)))) e n x
  ends d e zero x h = absurd (omega arith)
  ends d e (suc n) x h = by (as_var (row rows x)) refl (ends d e n)
    where
      to : {f g : ℕ → ℕ} (v : ℕ) → as_var (row rows x) ≡ some v → (o : Option ℕ) → bound b v ≡ o → ((y : ℕ) → good.rank y < n → f y ≡ g y) → end_by f x o ≡ end_by g x o
      to v p none q again = refl
      to v p (some y) q again = again y (let r : All (λ (z : ℕ). good.rank z < good.rank x) (y ∷ []) = rw (p, q) at (good.falls x) in omega (arith, r.0))

      by : {f g : ℕ → ℕ} (o : Option ℕ) → as_var (row rows x) ≡ o → ((y : ℕ) → good.rank y < n → f y ≡ g y) → end_by f x (bound_of b o) ≡ end_by g x (bound_of b o)
      by none p again = refl
      by (some v) p again = to v p (bound b v) refl again

-- ── the final types ──

-- the invariant of demand 3, and the origins of the variables
pub record Drawn (N : Counts) (s : State) : Type 0 where
  pub tracked : Track s
  pub origins : OriginsOf N.nodes s

module _ (N : Counts) (small : N.nodes ≤ 1024) (b : Body) (D : Defaults) where
  -- a confined program keeps them
  confined_drawn : {A : Type 0} {Q : A → Type 0} {p : Walk A} → Confined N any_numbers Q p → (s : State) → Drawn N s → Drawn N (run p s).1
  confined_drawn {Q = Q} {p = p} P s d = record { tracked = track p s d.tracked; origins = run_origins Q N p P.by s d.origins }

  -- so it runs as itself
  itself : {A : Type 0} {Q : A → Type 0} {p : Walk A} → Confined N any_numbers Q p → Same (Drawn N) p p
  itself P = record { by = λ s d. refl; holds = confined_drawn P }

  -- an open variable of its kind and origin
  open_same : (o : Option ℕ) (k : Kind) → DrawnAt N.nodes k o → (s : State) → run (open_type o k) s ≡ run (other_open D o k) s
  open_same o integer h s = refl
  open_same o floating h s = refl
  open_same o regular h s = rw (h.2 ∙ drawn_some h.0 (omega (arith, h.1)))

  -- what is known of tables that say nothing of types
  abbrev known : Known N b any_numbers
  known = any_known N b

  -- a variable
  variable_same : (x : ℕ) → Same (Drawn N) (resolve_variable x) (other_variable D x)
  unfolding run ◌>>=◌ resolve_variable end_of shape_of_lem other_variable other_end variable_type drawn_as
  variable_same x = record { by = runs; holds = confined_drawn (resolve_variable_confined known x tt) }
    where
      settles : (s : State) → Drawn N s → (y : ℕ) (o : Option ℕ) → as_var (row s.rows y) ≡ o → run (settled y o) s ≡ run (other_settled D y o) s
      settles s d y none e = refl
      settles s d y (some v) e =
          let c = d.tracked.tables.claim in
          open_same (get_or s.origins v none) (kind s.kinds v) (origin_of_lem N.nodes s.kinds s.origins d.origins v (omega (arith, c.kinds_sized, c.good.meant y v e))) s

      runs : (s : State) → Drawn N s → run (resolve_variable x) s ≡ run (other_variable D x) s
      runs s d =
          let g = d.tracked.tables.claim.good in
          let y : ℕ = end_from s.rows s.mem.binds (suc (length s.rows)) x in
          settles s d y (as_var (row s.rows y)) refl
          ∙ ap (λ (z : ℕ). run (other_settled D z (as_var (row s.rows z))) s) (ends s.rows s.kinds s.mem.binds g err_type D.ending (suc (length s.rows)) x (omega (arith, g.top x)))

  -- an array of a variable
  array_same : (x e : ℕ) (o : Option ℕ) → Same (Drawn N) (resolve_array x e o) (other_array D x e o)
  array_same x e none = itself {Q = Any} (done_confined x tt)
  array_same x e (some v) = bind_same (variable_same e) (λ y. itself (array_of_confined y tt))

  -- an array
  element_same : (x : ℕ) (o : Option ℕ) → Same (Drawn N) (resolve_element x o) (other_element D x o)
  element_same x none = itself {Q = Any} (done_confined x tt)
  element_same x (some e) = bind_same (itself (shape_of_confined e)) (λ s. array_same x e (as_var s))

  -- a type
  shape_same : (x : ℕ) (s : Shape) (o : Option ℕ) → Same (Drawn N) (resolve_shape x s o) (other_shape D x s o)
  shape_same x s none = element_same x (as_arr s)
  shape_same x s (some v) = variable_same x

  -- the final type of a node that has a type
  final_same : (p : ℕ) (o : Option ℕ) → Same (Drawn N) (final_type p o) (other_final D p o)
  unfolding resolve_type_variable other_resolved
  final_same p none = itself {Q = Any} (done_confined tt tt)
  final_same p (some x) = bind_same (bind_same (itself (shape_of_confined x)) (λ s. shape_same x s (as_var s))) (λ y. itself (set_final_confined p y))

  -- the final types of k nodes
  pub nodes_same : (k : ℕ) → Same (Drawn N) (resolve_nodes k) (for_each 0 k (other_node D))
  unfolding resolve_nodes resolve_node other_node
  nodes_same k = each_same 0 k _ _ (λ i l. bind_same (itself (node_type_confined i)) (λ t. final_same i t))

-- ── a body ──

module _ (n : Counts) (rows cells : List ℕ) (w : WellFormed n rows cells) (D : Defaults) where
  -- BODY is an expression
  pub body_expr : is_expr (form_in rows (nodes_at + body_in rows cells)) ≡ true
  unfolding form_at forms kind_at stands is_last
  body_expr =
      let l : 1 < count_in rows fn_at = omega (arith, fn_count n rows cells w) in
      let s : stands n (kind_in rows fn_at 1) (body_in rows cells) rows cells ≡ true = ((w.fn.fields 1 l).child (fn_has_child n rows cells w 0 l)).stands_there in
      by (eqb (body_in rows cells + 1) n.nodes) (rw (fn_form n rows cells w) at s)
    where
      by : (c : Bool) → cond c (is_expr (form_in rows (nodes_at + body_in rows cells))) false ≡ true → is_expr (form_in rows (nodes_at + body_in rows cells)) ≡ true
      by true e = e
      by false e = absurd (false≢true e)

  -- what holds of each state between the parts of a body
  abbrev pub Whole : State → Type 0
  Whole s = Raws n.nodes [] s × Drawn n s

  -- a part that runs alike
  pub part_same : {A : Type 0} {Q : A → Type 0} {p q : Walk A} → Alike n.nodes p q → Confined n any_numbers Q p → Same Whole p q
  part_same P C = and_same (P.same []) (confined_drawn n w.limited.nodes (body_with n rows cells) D C)

  -- before it each node has a place for its RAW, and no variable is drawn
  pub start_whole : Whole (declared_state n rows cells)
  unfolding start blank
  start_whole = (
    record { places = let e : length (replicate {A = Option ℕ} 1024 none) ≡ 1024 = refl in omega (arith, e, w.limited.nodes); typed = tt },
    record { tracked = declared_track n rows cells w; origins = tt },
  )
