-- What is claimed of `check`, one citation each: demands 1 and 3. Start here. Each assumption is an argument of the statement.
-- The contract of `check` (src/lib.rt) is one equation: its answer, with document 01's number and PLACE, and all lent tables as it leaves them are `check_of` of Check,
-- for every input bytes `s` and every lent tables `l`. That every call ends, and that nothing is read or written out of bounds, is part of the proof of each function.
-- `reading_of` of Check is what the reader makes of the file, `equations_of`, `raised_of`, `types_of`, `kinds_of` and `errors_of` of File what the file raises by itself, `types_held`,
-- `kinds_held`, `binds_held` and `errors_held` of Handed what is read of the tables that are handed back; `NewestIs`, `Caused`, `EndedIn` and `WayOf` of crate `bounds` say which
-- equation is refused, which errors are those of equations, that an equation ended, and which instances a way gives; `Way`, `Kinded`, `Sided`, `Meets` and `Agrees` are demand 3's words, in Ways of crate `theory`.
use Rattle.std.specs.Prelude.{◌≡◌, ◌↔◌, List, ◌∷◌, ◌++◌, true, false, ℕ, ◌<◌, ◌≤◌, length}
use Rattle.std.proofs.Common.{ap, sym, ◌∙◌}
use Rattle.theory.specs.Rules.{refused12, refused13}
use Rattle.theory.specs.Program.{Equation, run}
use Rattle.theory.specs.Basics.{All}
use Rattle.theory.specs.Ways.{Way, Kinded, Agrees, Sided, Meets, Went, Failed}
use Rattle.type_table.specs.declared.NodeId.{NodeId}
use Rattle.forms.specs.declared.Fault.{Fault}
use Rattle.refs.specs.declared.Counts.{Counts}
use Rattle.body.specs.declared.Answer.TheVariants as reading
use Rattle.body.specs.Body.{most_bytes}
use Rattle.resolve.specs.Resolve.{type_body}
use Rattle.resolve.specs.Body.{first_state}
use Rattle.bounds.specs.Confined.{is_made}
use Rattle.bounds.specs.Newest.{Unrefused, NewestIs}
use Rattle.bounds.specs.Causes.{Pairwise, Caused}
use Rattle.bounds.specs.Ended.{EndedIn}
use Rattle.bounds.specs.Instances.{WayOf}
use Rattle.bounds.specs.Defaults.{Defaults, other_body}
use Rattle.bounds.proofs.Claims as walk
use Rattle.errors.specs.Rows.{error_rows}
use Rattle.tables.specs.Read.{made_at}
use Rattle.answers.specs.declared.Totals.{Totals}
use Rattle.answers.specs.declared.Answer.{Answer}
use Rattle.answers.specs.declared.Answer.TheVariants as answer
use Rattle.answers.specs.Lent.{Lent, cleared, too_short, Held, held, totals}
use Rattle.checker.specs.Check.{reading_of, check_of}
use Rattle.checker.specs.File.{equations_of, raised_of, types_of, kinds_of, errors_of}
use Rattle.checker.specs.Handed.{types_held, kinds_held, binds_held, errors_held}
use Rattle.checker.specs.Answers.{On0, On10to13, read_well_formed}
use Rattle.checker.specs.Answers as answers
use Rattle.checker.specs.Limits.{Limited, Zero}
use Rattle.checker.specs.Demand as demand
use Rattle.checker.specs.Equations as equations

module _ (s : List ℕ) (l : Lent) where
  -- the answer to the file s, and what is then in the tables l lent for it
  abbrev pub result : Held
  result = check_of s l

  -- ── demand 1: answer, number, PLACE and tables on every input bytes ──

  -- the promise of `check` holds of one answer and tables, and of no other
  pub one_result : (a b : Answer) (u v : Lent) → held a u ≡ result → held b v ≡ result → (a ≡ b) × (u ≡ v)
  one_result a b u v p q = (ap (λ (h : Held). h.answer) (p ∙ sym q), ap (λ (h : Held). h.tables) (p ∙ sym q))

  -- 1 exactly over 65,536 bytes; it changes no table
  pub on_1 : result.answer ≡ answer.TooLong → (most_bytes < length s) × (result.tables ≡ l)
  on_1 = answers.on_1 s l

  pub when_1 : most_bytes < length s → result.answer ≡ answer.TooLong
  when_1 = answers.when_1 s l

  -- 2 exactly with a lent table below its length, in a file that is not too long; it changes no table
  pub on_2 : result.answer ≡ answer.ShortTable → (length s ≤ most_bytes) × (too_short l ≡ true) × (result.tables ≡ l)
  on_2 = answers.on_2 s l

  pub when_2 : length s ≤ most_bytes → too_short l ≡ true → result.answer ≡ answer.ShortTable
  when_2 = answers.when_2 s l

  -- 3 to 6 are the reader's, with the line; every lent table is zero throughout
  pub on_3_to_6 : (x : Fault) (k : ℕ) → result.answer ≡ answer.Refused x k → ((reading_of s).answer ≡ reading.Refused x k) × (result.tables ≡ cleared l)
  on_3_to_6 = answers.on_3_to_6 s l

  -- 10 to 13, and no other number, are the refusal in which the rules end, at a node of the body; every lent table is zero throughout
  pub on_10_to_13 : (k : ℕ) (p : NodeId) → result.answer ≡ answer.Declined k p → On10to13 s l k p.0 result.tables
  on_10_to_13 = answers.on_10_to_13 s l

  -- 12 is the refusal of the newest equation of the file, raised by the rule of the node PLACE; none before it was refused
  pub on_12 : (p : NodeId) → result.answer ≡ answer.Declined 12 p → NewestIs refused12 p.0 (equations_of s)
  on_12 = equations.on_12 s l

  -- and so is 13
  pub on_13 : (p : NodeId) → result.answer ≡ answer.Declined 13 p → NewestIs refused13 p.0 (equations_of s)
  on_13 = equations.on_13 s l

  -- 10 and 11 are refusals of a rule itself: no equation of the file was refused
  pub on_10_and_11 : (k : ℕ) (p : NodeId) → k ≤ 11 → result.answer ≡ answer.Declined k p → All Unrefused (equations_of s)
  on_10_and_11 = equations.on_10_and_11 s l

  -- on 0 the rules end without a refusal, the totals are the row counts of the state in which they end, and the tables are those of that state
  pub on_0 : (t : Totals) → result.answer ≡ answer.Checked t → On0 s l t result.tables
  on_0 = answers.on_0 s l

  -- and none with 0
  pub unrefused_on_0 : (t : Totals) → result.answer ≡ answer.Checked t → All Unrefused (equations_of s)
  unrefused_on_0 = equations.unrefused_on_0 s l

  -- the rows of errors are those of the errors of the file, the oldest first
  pub held_errors : (t : Totals) → result.answer ≡ answer.Checked t → errors_held t result.tables ≡ error_rows (errors_of s)
  held_errors = demand.held_errors s l

  -- what is lent decides no answer but 2: the file alone decides answer, number, PLACE and totals
  pub same_answer : (l' : Lent) → too_short l ≡ false → too_short l' ≡ false → result.answer ≡ (check_of s l').answer
  same_answer = answers.same_answer s l

  -- at most 1,024 variables, 4,096 made types, 4,096 errors and 2,048 equations
  pub limits : (t : Totals) → result.answer ≡ answer.Checked t → Limited t
  limits = demand.limits s l

  -- all of a table past its used rows is zero
  pub zero_behind : (t : Totals) → result.answer ≡ answer.Checked t → Zero t result.tables
  zero_behind = demand.zero s l

  -- each made type is of one of document 01's forms: `var,V`, `array,E`, `ref,E`, `fn,D`, `inst,K`, `lambda,NODE,OUT,IN..`
  pub made_forms : (t : Totals) → result.answer ≡ answer.Checked t → (i : ℕ) → i < t.types → is_made (made_at result.tables.types i) ≡ true
  made_forms = demand.made_forms s l

  -- ── demand 3: the equations of the file and the bindings in the tables ──

  -- answered 0 without an error, each equation with plain sides or Diverges as its got side: a way meets all the equations of the file exactly when it agrees with the
  -- bindings handed back, and at least one such way exists
  pub demand_3_without_error : (t : Totals) → result.answer ≡ answer.Checked t → t.errors ≡ 0 → let u = result.tables in
      All (Sided (types_held t u)) (equations_of s)
      → ((w : Way) → Kinded (kinds_held t u) w → All (Meets (types_held t u) w) (equations_of s) ↔ Agrees (types_held t u) (binds_held t u) w)
      × ((w : Way) × Kinded (kinds_held t u) w × All (Meets (types_held t u) w) (equations_of s))
  demand_3_without_error = demand.exactly s l

  -- and it may be one that gives only types of the instances of the file: each instance in them is the number of an `inst` line
  pub demand_3_own_instances : (t : Totals) → result.answer ≡ answer.Checked t → t.errors ≡ 0 → let u = result.tables in
      All (Sided (types_held t u)) (equations_of s) → (w : Way) × WayOf t.declared.insts w × Kinded (kinds_held t u) w × All (Meets (types_held t u) w) (equations_of s)
  demand_3_own_instances = demand.own_instances s l

  -- the types and kinds in the tables are those of the file
  pub held_types : (t : Totals) → result.answer ≡ answer.Checked t → (types_held t result.tables ≡ types_of s) × (kinds_held t result.tables ≡ kinds_of s)
  held_types = demand.held_types s l

-- each equation of a file that was read was raised by the rule of one of its nodes
pub equations_at_nodes : (s : List ℕ) (n : Counts) → (reading_of s).answer ≡ reading.Body n → All (λ (q : Equation). q.node < n.nodes) (equations_of s)
equations_at_nodes = demand.at_nodes

-- each equation of a file ended in the state in which it was raised: its steps never ran out, and any more of them give the same. Both lists have the newest first
pub equations_ended : (s : List ℕ) → Pairwise EndedIn (equations_of s) (raised_of s)
equations_ended = equations.ended

-- the errors with CAUSE 1 are, one to one and in order, those of the equations that failed, and each names the sides of its own
pub errors_of_equations : (s : List ℕ) → Caused (errors_of s) (equations_of s)
errors_of_equations = equations.caused

-- a file that was read meets no default of the rules: with any other answers D in their place (`Defaults` of crate `bounds`) its walk ends with the same answer in the same state
pub defaults_never_met : (s : List ℕ) (n : Counts) → (reading_of s).answer ≡ reading.Body n → (D : Defaults) → let h = reading_of s in
    run (other_body D n h.rows h.cells) (first_state h.rows h.cells) ≡ run (type_body n h.rows h.cells) (first_state h.rows h.cells)
defaults_never_met s n e = walk.defaults_never_met n (reading_of s).rows (reading_of s).cells (read_well_formed s n e)

-- whatever the answer and whatever is lent, the sides so up to and including the first equation q that fails or is refused 12: no way meets all the equations up to and
-- including that one. The newest equation stands first
pub demand_3_first_failure : (s : List ℕ) (after before : List Equation) (q : Equation) → equations_of s ≡ after ++ q ∷ before → Failed q.answer → All Went before
    → All (Sided (types_of s)) (q ∷ before) → (w : Way) → Kinded (kinds_of s) w → All (Meets (types_of s) w) (q ∷ before) → ⊥
demand_3_first_failure = demand.no_way
