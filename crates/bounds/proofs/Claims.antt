-- What is claimed of the walk over a well-formed body, one citation each: the limits of document 01 are never exceeded, its levels never run out, each type
-- line has its number, functions stand at most 4 deep in one another, all types and variables are known, each number refers to what is there; then the promise of
-- `type_body`, what its answer says of the refusal, which number and place that has, at which nodes equations are raised, which of them was refused, which errors are theirs, that they ended, and demand 3 for them;
-- last, that no default of the definitions is met.
-- The body is what `type_body` of crate `resolve` says, over the tables that `read_body` leaves on 0 (`WellFormed` of crate `well_formed`), from the
-- fixed types and no node typed; `Fits` of crate `record` says that no table of a state is over its limit.
use Rattle.std.specs.Prelude.{◌≡◌, ◌↔◌, List, [], ◌∷◌, ◌++◌, true, ℕ, ◌+◌, ◌*◌, ◌<◌, ◌≤◌, length, drop, Result}
use Rattle.std.proofs.Math.Path.{refl}
use Rattle.std.proofs.Math.Option.{none, some}
use Rattle.std.proofs.Common.{arith, lt-ltb}
use Rattle.theory.specs.Rules.{inst, base, fn, refused12, refused13, Mem, row, unify}
use Rattle.theory.specs.Program.{Equation, done, intern, run}
use Rattle.theory.specs.Basics.{All}
use Rattle.theory.specs.Ways.{Way, Kinded, Agrees, Sided, Meets, Went, Failed}
use Rattle.theory.specs.Depth.{Functions, bounded}
use Rattle.theory.proofs.Depth.{four_enough}
use Rattle.theory.specs.Start.{start}
use Rattle.type_table.specs.Memory.{tab}
use Rattle.type_table.specs.Sound.{fixed_types}
use Rattle.refs.specs.declared.Counts.{Counts}
use Rattle.nodes.specs.Nodes.{fn_line}
use Rattle.record.specs.Own.{log_at, blank}
use Rattle.record.specs.Steps.{fn_def_lem, instance}
use Rattle.record.specs.Encodes.{input_total, Fits}
use Rattle.walk.specs.Walk.{typeck_expr}
use Rattle.resolve.specs.Resolve.{declare_types, body_with, type_body}
use Rattle.resolve.specs.Body.{first_state, last_state, ends, TypedBy, BodyTyped}
use Rattle.well_formed.specs.Good.{WellFormed}
use Rattle.bounds.specs.Adds.{Larger}
use Rattle.bounds.specs.Body.{body_cost, body_adds}
use Rattle.bounds.specs.Levels.{body_levels}
use Rattle.bounds.specs.Declared.{line_shape, behind_types}
use Rattle.bounds.specs.Declared as declared
use Rattle.bounds.specs.Confined.{is_made}
use Rattle.bounds.specs.Made as made
use Rattle.bounds.proofs.Made as proved_made
use Rattle.bounds.proofs.Answered.{answered, unanswered}
use Rattle.bounds.proofs.Refusals.{body_placed}
use Rattle.bounds.proofs.Raised.{body_raised}
use Rattle.bounds.specs.Newest.{Unrefused, NewestIs}
use Rattle.bounds.proofs.Newest.{body_12, body_13, body_unrefused, body_own_refusal}
use Rattle.bounds.specs.Causes.{Pairwise, Caused}
use Rattle.bounds.proofs.Causes.{body_caused}
use Rattle.bounds.specs.Ended.{raised_in, EndedIn, body_ended}
use Rattle.bounds.specs.Instances.{WayOf}
use Rattle.bounds.proofs.Instances.{body_way}
use Rattle.bounds.specs.Refers.{Refers, refers}
use Rattle.bounds.specs.InRows.{InRows, declared_state}
use Rattle.bounds.proofs.InRows.{body_in_rows}
use Rattle.bounds.specs.Demand.{end, without_error, first_failure}
use Rattle.bounds.specs.Defaults.{Defaults, other_body}
use Rattle.bounds.specs.Origins.{OriginsOf}
use Rattle.bounds.proofs.NeverMet.{never_met, body_origins}
use Rattle.bounds.specs.Nesting.{AtEquations, line_row, four_deep}
use Rattle.bounds.proofs.Nesting.{body_rows_lem, body_equations}
use Rattle.bounds.specs.Claims.{after, before}
use Rattle.record.specs.declared.Record.{Record}
use Rattle.record.specs.declared.Refusal.{Refusal}

module _ (n : Counts) (rows cells : List ℕ) (w : WellFormed n rows cells) (o : ℕ) where
  -- the tables behind a body are those before it, and what its types and nodes allow
  grown : Larger (body_cost n) (before o) (after n rows cells o)
  grown = (body_adds n rows cells w).larger (before o)

  -- ── 1. by the types and nodes of the file ──

  -- at most a variable for each node,
  pub vars_bound : length (after n rows cells o).kinds ≤ n.nodes
  unfolding start
  vars_bound = omega (arith, grown.vars)

  -- the fixed types, a row for each type line and three for each node,
  pub types_bound : length (after n rows cells o).rows ≤ 14 + n.types + 3 * n.nodes
  unfolding start
  types_bound = omega (arith, grown.rows)

  -- 16 inputs for each type line and one for each node,
  pub inputs_bound : input_total (after n rows cells o).rows ≤ 16 * n.types + n.nodes
  unfolding start input_total
  inputs_bound = omega (arith, grown.inputs)

  -- three errors for each node,
  pub errors_bound : length (after n rows cells o).errs ≤ 3 * n.nodes
  unfolding start
  errors_bound = omega (arith, grown.errors)

  -- and two equations
  pub equations_bound : length (after n rows cells o).log ≤ 2 * n.nodes
  unfolding start
  equations_bound = omega (arith, grown.equations)

  -- ── 2. document 01's limits ──

  -- at most 1,024 variables
  pub variables_1024 : length (after n rows cells o).kinds ≤ 1024
  variables_1024 = omega (arith, vars_bound, w.limited.nodes)

  -- at most 4,096 made types beside the fixed and the declared ones
  pub made_types_4096 : length (after n rows cells o).rows ≤ 14 + n.types + 4096
  made_types_4096 = omega (arith, types_bound, w.limited.nodes)

  -- at most 8,192 inputs of declared types, and one more for each node
  pub inputs_8192 : input_total (after n rows cells o).rows ≤ 8192 + n.nodes
  inputs_8192 = omega (arith, inputs_bound, w.limited.types)

  -- at most 3,072 errors,
  pub errors_3072 : length (after n rows cells o).errs ≤ 3072
  errors_3072 = omega (arith, errors_bound, w.limited.nodes)

  -- so at most the 4,096 that are lent
  pub errors_4096 : length (after n rows cells o).errs ≤ 4096
  errors_4096 = omega (arith, errors_3072)

  -- no table is over its limit
  pub never_full : Fits (after n rows cells o)
  never_full = record {
    rows = omega (arith, types_bound, w.limited.types, w.limited.nodes);
    vars = variables_1024;
    inputs = omega (arith, inputs_8192, w.limited.nodes);
    errors = errors_3072;
    equations = omega (arith, equations_bound, w.limited.nodes);
  }

  -- ── 3. levels ──

  -- 64 levels of nodes are enough: BODY is typed by the same program with any more
  pub levels_64 : (j : ℕ) → typeck_expr (body_with n rows cells) 64 (fn_line rows cells).body.0 ≡ typeck_expr (body_with n rows cells) (64 + j) (fn_line rows cells).body.0
  levels_64 = body_levels n rows cells w

  -- ── 4. type lines ──

  -- the type lines end with an answer,
  pub types_end : (run (declare_types rows cells n.types) (before o)).0 ≡ some tt
  types_end = declared.types_end n rows cells w (blank o)

  -- behind them there are 14 types and one for each line,
  pub types_count : length (run (declare_types rows cells n.types) (before o)).1.rows ≡ 14 + n.types
  types_count = declared.types_count n rows cells w (blank o)

  -- and a `type` line of the number i is the type i + 14, as `line_shape` of Declared says it,
  pub type_number : (i : ℕ) → i < n.types → row (run (declare_types rows cells n.types) (before o)).1.rows (14 + i) ≡ line_shape rows cells i
  type_number = declared.type_number n rows cells w (blank o)

  -- to the end
  pub type_number_stays : (i : ℕ) → i < n.types → row (after n rows cells o).rows (14 + i) ≡ line_shape rows cells i
  type_number_stays = line_row n rows cells w (after n rows cells o).rows (body_rows_lem n rows cells w (blank o))

  -- ── 5. functions in one another ──

  -- they stand at most 4 deep, and are made of rows without variables and lambdas,
  pub functions_4 : Functions (after n rows cells o).rows 4
  functions_4 = four_deep n rows cells w (after n rows cells o).rows (body_rows_lem n rows cells w (blank o))

  -- so at each equation the rules that enter at most four functions against lambdas in one another give the same result
  pub equations_4 : AtEquations (λ s. (k : ℕ) (m : Mem) (x y : ℕ) → bounded s.rows s.kinds 4 k m x y ≡ unify s.rows s.kinds k m x y) (type_body n rows cells) (before o)
  equations_4 = body_equations n rows cells w (blank o) _ (λ s f. four_enough s.rows s.kinds f)

  -- ── 6. all types and variables ──

  -- all types: the fixed ones, those of the `type` lines, and behind these the made ones,
  pub all_types : (after n rows cells o).rows ≡ fixed_types ++ (tab (line_shape rows cells) n.types ++ drop (14 + n.types) (after n rows cells o).rows)
  all_types = proved_made.all_types n rows cells (blank o) w

  -- the first two there,
  pub declared_count : 14 + n.types ≤ length (after n rows cells o).rows
  declared_count = proved_made.declared_count n rows cells (blank o) w

  -- the made ones at most 4,096,
  pub made_count : length (drop (14 + n.types) (after n rows cells o).rows) ≤ 4096
  made_count = omega (arith, made.made_count n rows cells (blank o) w, w.limited.nodes)

  -- each of the form `var,V`, `array,E`, `ref,E`, `fn,D`, `inst,K` or `lambda,NODE,OUT,IN..`,
  pub made_forms : All (λ s. is_made s ≡ true) (drop (14 + n.types) (after n rows cells o).rows)
  made_forms = proved_made.made_forms n rows cells (blank o) w

  -- with at most one input for each node
  pub made_inputs : input_total (drop (14 + n.types) (after n rows cells o).rows) ≤ n.nodes
  made_inputs = proved_made.made_inputs n rows cells (blank o) w

-- each variable has a kind, a binding or none, a negation mark and an origin or none
pub variables : (n : Counts) (rows cells : List ℕ) (o : ℕ) → let s = after n rows cells o in (length s.mem.binds ≡ length s.kinds) × (length s.mem.marks ≡ length s.kinds) × (length s.origins ≡ length s.kinds)
variables n rows cells o = (made.binds_count n rows cells (blank o), made.marks_count n rows cells (blank o), made.origins_count n rows cells (blank o))

-- ── 7. each number refers to what is there ──

module _ (n : Counts) (rows cells : List ℕ) (w : WellFormed n rows cells) where
  -- a body is what it runs behind its type lines,
  pub body_behind_types : run (type_body n rows cells) (first_state rows cells) ≡ run (behind_types n rows cells) (declared_state n rows cells)
  body_behind_types = declared.body_behind n rows cells w (blank (fn_line rows cells).output.0)

  -- and there both sides of each equation, what each made type is made of and RAW of each node are rows, so that no number is clipped
  pub rows_alone : InRows (behind_types n rows cells) (declared_state n rows cells)
  rows_alone = body_in_rows n rows cells w

  -- the numbers that the rules read are those of nodes, declared types, definitions and instances of the file,
  pub numbers_refer : Refers n (body_with n rows cells)
  numbers_refer = refers n rows cells w

  -- each such definition has a type,
  pub definition_type : (d : ℕ) → d < n.defs → fn_def_lem d ≡ intern (fn d) done
  unfolding fn_def_lem
  definition_type d h = rw (lt-ltb d 256 (omega (arith, w.limited.defs)))

  -- and so has each such instance
  pub instance_type : (k : ℕ) → k < n.insts → instance k ≡ intern (base (inst k)) done
  unfolding instance
  instance_type k h = rw (lt-ltb k 64 (omega (arith, w.limited.insts)))

-- ── 8. the promise of `type_body`, its answer, and demand 3 ──

-- of a body that was read, in a memory of at least 80,802 cells: the answer is that of the rules, and the memory holds the state in which the body ends
pub typed_in_memory : (n : Counts) (rows cells : List ℕ) → WellFormed n rows cells → (m m' : List ℕ) (r : Result Record Refusal) → log_at ≤ length m → BodyTyped m m' r n rows cells → TypedBy m' r n rows cells
typed_in_memory n rows cells w m m' r large t = t.by large (never_full n rows cells w (fn_line rows cells).output.0)

module _ (n : Counts) (rows cells : List ℕ) where
  -- answered 0, there is no refusal
  pub answered_0 : ends n rows cells → (last_state n rows cells).stop ≡ none
  unfolding start
  answered_0 = answered (type_body n rows cells) (first_state rows cells) refl tt

  -- not answered 0, there is one
  pub not_answered_0 : (run (type_body n rows cells) (first_state rows cells)).0 ≡ none → (k : ℕ) × (p : ℕ) × ((last_state n rows cells).stop ≡ some (k, p))
  unfolding start
  not_answered_0 = unanswered (type_body n rows cells) (first_state rows cells) refl

  -- of a body that was read: its number is 10, 11, 12 or 13, its place a node
  pub refusal_number_and_place : WellFormed n rows cells → (run (type_body n rows cells) (first_state rows cells)).0 ≡ none
      → (k : ℕ) × (p : ℕ) × ((last_state n rows cells).stop ≡ some (k, p)) × (10 ≤ k) × (k ≤ 13) × (p < n.nodes)
  refusal_number_and_place w e = let r = not_answered_0 e in let q = body_placed n rows cells w _ r.0 r.1 r.2 in (r.0, r.1, r.2, q.least, q.most, q.lower)

  -- and each equation was raised by the rule of one of its nodes
  pub equations_at_nodes : WellFormed n rows cells → All (λ (q : Equation). q.node < n.nodes) (end n rows cells).log
  equations_at_nodes w = body_raised n rows cells w _

  -- 12 is the refusal of the newest equation, raised by the rule of the node of the refusal; none before it was refused
  pub refused_12 : WellFormed n rows cells → (p : ℕ) → (end n rows cells).stop ≡ some (12, p) → NewestIs refused12 p (end n rows cells).log
  refused_12 w = body_12 n rows cells w _

  -- and so is 13
  pub refused_13 : WellFormed n rows cells → (p : ℕ) → (end n rows cells).stop ≡ some (13, p) → NewestIs refused13 p (end n rows cells).log
  refused_13 w = body_13 n rows cells w _

  -- without a refusal, and with 10 or 11, no equation was refused
  pub not_refused : WellFormed n rows cells → (end n rows cells).stop ≡ none → All Unrefused (end n rows cells).log
  not_refused w = body_unrefused n rows cells w _

  pub not_refused_by_10_and_11 : WellFormed n rows cells → (k p : ℕ) → (end n rows cells).stop ≡ some (k, p) → k ≤ 11 → All Unrefused (end n rows cells).log
  not_refused_by_10_and_11 w = body_own_refusal n rows cells w _

  -- the errors with CAUSE 1 are, in order, those of the equations that failed
  pub errors_of_equations : WellFormed n rows cells → Caused (end n rows cells).errs (end n rows cells).log
  errors_of_equations = body_caused n rows cells

  -- each equation ended in the state in which it was raised: its steps never ran out
  pub equations_ended : Pairwise EndedIn (end n rows cells).log (raised_in (type_body n rows cells) (first_state rows cells) [])
  equations_ended = body_ended n rows cells _

  -- answered 0 without an error, the sides plain or Diverges got: a way meets all the equations of the body exactly when it agrees with the bindings in which its walk ends,
  -- and at least one such way exists
  pub demand_3_without_error : (end n rows cells).errs ≡ [] → (end n rows cells).stop ≡ none → All (Sided (end n rows cells).rows) (end n rows cells).log
      → ((v : Way) → Kinded (end n rows cells).kinds v → All (Meets (end n rows cells).rows v) (end n rows cells).log ↔ Agrees (end n rows cells).rows (end n rows cells).mem.binds v)
      × ((v : Way) × Kinded (end n rows cells).kinds v × All (Meets (end n rows cells).rows v) (end n rows cells).log)
  demand_3_without_error = without_error n rows cells

  -- where a way meets them, one does that gives only types of the instances of the file
  pub own_instances : WellFormed n rows cells → let s = end n rows cells in
      (v : Way) → Kinded s.kinds v → All (Meets s.rows v) s.log → (u : Way) × WayOf n.insts u × Kinded s.kinds u × All (Meets s.rows u) s.log
  own_instances = body_way n rows cells

  -- whatever the answer: no way meets the equations up to and including the first that failed or was refused 12
  pub demand_3_first_failure : (later before : List Equation) (q : Equation) → (end n rows cells).log ≡ later ++ q ∷ before → Failed q.answer → All Went before → All (Sided (end n rows cells).rows) (q ∷ before)
      → (v : Way) → Kinded (end n rows cells).kinds v → All (Meets (end n rows cells).rows v) (q ∷ before) → ⊥
  demand_3_first_failure = first_failure n rows cells

-- ── 9. no default is met ──

module _ (n : Counts) (rows cells : List ℕ) (w : WellFormed n rows cells) where
  -- where the definitions answer something only to be total (levels that run out, a `let` or a `param` as an expression, a BLOCK that is none, a lambda's param without a
  -- type, an open Regular variable without an origin, bindings that do not end), any other answers D give the same: a body runs to the same answer and state
  pub defaults_never_met : (D : Defaults) → run (other_body D n rows cells) (first_state rows cells) ≡ run (type_body n rows cells) (first_state rows cells)
  defaults_never_met = never_met n rows cells w

  -- each Regular variable was drawn by a node of the file, and that of a literal by none: so P of InferFail is a node that drew the variable
  pub origins : OriginsOf n.nodes (last_state n rows cells)
  origins = body_origins n rows cells w
