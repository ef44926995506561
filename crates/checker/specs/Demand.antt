-- Demand 3 for `check`: about the equations that the file raises and the bindings in the tables that are handed back. Assumes nothing but what each statement says.
use Rattle.std.specs.Prelude.{◌≡◌, refl, ◌↔◌, true, ℕ, ◌<◌, length}
use Rattle.std.proofs.Common.{sym, subst, ◌∙◌, arith, length-append}
use Rattle.std.proofs.Math.Path.{ap}
use mathlib.Core.List.{List, [], ◌∷◌, ◌++◌}
use Rattle.std.proofs.Math.Option.{Option, some}
use Rattle.theory.specs.Program.{Equation}
use Rattle.theory.specs.Basics.{All}
use Rattle.theory.specs.Ways.{Way, Kinded, Agrees, Sided, Meets, Went, Failed}
use Rattle.refs.specs.declared.Counts.{Counts}
use Rattle.record.specs.Steps.{State}
use Rattle.body.specs.declared.Answer.{Answer as Reading}
use Rattle.body.specs.declared.Answer.TheVariants as reading
use Rattle.well_formed.specs.Good.{WellFormed}
use Rattle.well_formed.specs.Zeros.{ZeroBehind}
use Rattle.well_formed.proofs.Claims as reader
use Rattle.bounds.specs.Confined.{is_made}
use Rattle.bounds.specs.Instances.{WayOf}
use Rattle.bounds.proofs.Claims as walk
use Rattle.errors.specs.Rows.{error_rows}
use Rattle.tables.specs.Read.{made_at}
use Rattle.answers.specs.declared.Totals.{Totals}
use Rattle.answers.specs.declared.Answer.TheVariants as answer
use Rattle.answers.specs.Lent.{Lent, totals}
use Rattle.checker.specs.Check.{reading_of, check_of}
use Rattle.checker.specs.File.{state_by, state_of, equations_in, equations_of, types_in, types_of, kinds_in, kinds_of, errors_in, errors_of}
use Rattle.checker.specs.Handed.{types_held, kinds_held, binds_held, errors_held}
use Rattle.checker.specs.Answers.{last_of, tables_of, read_well_formed, On0, on_0}
use Rattle.checker.specs.Limits.{Limited, limited, Zero, zero_behind}
use Rattle.checker.specs.Back.{types_held_lem, forms_held, kinds_held_lem, binds_held_lem, errors_held_lem}

-- a list without elements
no_elements : {A : Type 0} (l : List A) → length l ≡ 0 → l ≡ []
no_elements [] e = refl
no_elements (x ∷ l) e = absurd (omega arith)

-- nothing is in an empty list
none_there : (after before : List Equation) (q : Equation) → [] ≡ after ++ q ∷ before → ⊥
none_there after before q e = omega (arith, length-append after (q ∷ before), ap length e)

module _ (s : List ℕ) where
  -- the tables of a body that was read are zero behind their used rows
  read_zero : (n : Counts) → (reading_of s).answer ≡ reading.Body n → ZeroBehind n (reading_of s).rows (reading_of s).cells
  unfolding reading_of
  read_zero = reader.zero_behind_on_0 s _ _

  -- the state of a body that was read
  pub state-is : (n : Counts) → (reading_of s).answer ≡ reading.Body n → state_of s ≡ some (last_of s n)
  unfolding state_of
  state-is n e = ap (λ (a : Reading). state_by a (reading_of s).rows (reading_of s).cells) e

  -- each equation was raised by the rule of a node of the file
  pub at_nodes : (n : Counts) → (reading_of s).answer ≡ reading.Body n → All (λ (q : Equation). q.node < n.nodes) (equations_of s)
  at_nodes n e = rw (state-is n e) (walk.equations_at_nodes n (reading_of s).rows (reading_of s).cells (read_well_formed s n e))

  -- no way meets the equations up to and including the first that failed
  pub no_way : (after before : List Equation) (q : Equation) → equations_of s ≡ after ++ q ∷ before → Failed q.answer → All Went before → All (Sided (types_of s)) (q ∷ before)
      → (w : Way) → Kinded (kinds_of s) w → All (Meets (types_of s) w) (q ∷ before) → ⊥
  unfolding state_of
  no_way = by (reading_of s).answer
    where
      by : (a : Reading) → let t = state_by a (reading_of s).rows (reading_of s).cells in
          (after before : List Equation) (q : Equation) → equations_in t ≡ after ++ q ∷ before → Failed q.answer → All Went before → All (Sided (types_in t)) (q ∷ before)
          → (w : Way) → Kinded (kinds_in t) w → All (Meets (types_in t) w) (q ∷ before) → ⊥
      by (reading.Body n) = walk.demand_3_first_failure n (reading_of s).rows (reading_of s).cells
      by reading.TooLong = λ after before q e. absurd (none_there after before q e)
      by reading.ShortTable = λ after before q e. absurd (none_there after before q e)
      by (reading.Refused x k) = λ after before q e. absurd (none_there after before q e)

module _ (s : List ℕ) (l : Lent) (t : Totals) (e : (check_of s l).answer ≡ answer.Checked t) where
  -- what is known on 0
  abbrev o : On0 s l t (check_of s l).tables
  o = on_0 s l t e

  -- the tables of declarations are well-formed
  good : WellFormed t.declared (reading_of s).rows (reading_of s).cells
  good = read_well_formed s t.declared o.read

  -- a fact of the totals and tables of the state in which the rules end is one of those that are handed back
  handed : (P : Totals → Lent → Type 0) → P (totals t.declared (last_of s t.declared)) (tables_of s l t.declared) → P t (check_of s l).tables
  handed P h = subst (λ (u : Lent). P t u) (sym o.tables) (subst (λ (v : Totals). P v (tables_of s l t.declared)) (sym o.counts) h)

  -- the totals are within the limits
  pub limits : Limited t
  limits = handed (λ v u. Limited v) (limited t.declared (reading_of s).rows (reading_of s).cells good)

  -- behind the used rows all is zero
  pub zero : Zero t (check_of s l).tables
  zero = handed Zero (zero_behind t.declared (reading_of s).rows (reading_of s).cells good (read_zero s t.declared o.read) l)

  -- the types that are handed back
  types : types_held t (check_of s l).tables ≡ (last_of s t.declared).rows
  types = handed (λ v u. types_held v u ≡ (last_of s t.declared).rows) (types_held_lem t.declared (reading_of s).rows (reading_of s).cells good l)

  -- each made type that is handed back is of one of the six forms
  pub made_forms : (i : ℕ) → i < t.types → is_made (made_at (check_of s l).tables.types i) ≡ true
  made_forms = handed (λ v u. (i : ℕ) → i < v.types → is_made (made_at u.types i) ≡ true) (forms_held t.declared (reading_of s).rows (reading_of s).cells good l)

  -- the kinds of the variables
  kinds : kinds_held t (check_of s l).tables ≡ (last_of s t.declared).kinds
  kinds = handed (λ v u. kinds_held v u ≡ (last_of s t.declared).kinds) (kinds_held_lem t.declared (reading_of s).rows (reading_of s).cells good l)

  -- their bindings
  binds : binds_held t (check_of s l).tables ≡ (last_of s t.declared).mem.binds
  binds = handed (λ v u. binds_held v u ≡ (last_of s t.declared).mem.binds) (binds_held_lem t.declared (reading_of s).rows (reading_of s).cells good l)

  -- types and kinds are those of the file
  pub held_types : (types_held t (check_of s l).tables ≡ types_of s) × (kinds_held t (check_of s l).tables ≡ kinds_of s)
  held_types = (types ∙ sym (ap types_in (state-is s t.declared o.read)), kinds ∙ sym (ap kinds_in (state-is s t.declared o.read)))

  -- the rows of errors in use are those of the errors of the file
  pub held_errors : errors_held t (check_of s l).tables ≡ error_rows (errors_of s)
  held_errors =
      handed (λ v u. errors_held v u ≡ error_rows (last_of s t.declared).errs) (errors_held_lem t.declared (reading_of s).rows (reading_of s).cells good l)
      ∙ sym (ap (λ (p : Option State). error_rows (errors_in p)) (state-is s t.declared o.read))

  -- answered 0 without an error, each equation with plain sides or Diverges as its got side: a way meets all equations of the file exactly when it agrees with the bindings
  -- that are handed back, and at least one such way exists
  pub exactly : t.errors ≡ 0 → let u = (check_of s l).tables in
      All (Sided (types_held t u)) (equations_of s)
      → ((w : Way) → Kinded (kinds_held t u) w → All (Meets (types_held t u) w) (equations_of s) ↔ Agrees (types_held t u) (binds_held t u) w)
      × ((w : Way) × Kinded (kinds_held t u) w × All (Meets (types_held t u) w) (equations_of s))
  exactly z =
      let n : Counts = t.declared in
      let k : (last_of s n).errs ≡ [] = no_elements (last_of s n).errs (ap (λ (v : Totals). v.errors) (sym o.counts) ∙ z) in
      let log : equations_of s ≡ (last_of s n).log = ap equations_in (state-is s n o.read) in
      let a = walk.demand_3_without_error n (reading_of s).rows (reading_of s).cells k (walk.answered_0 n (reading_of s).rows (reading_of s).cells o.ended) in
      rw (types, kinds, binds, log) a

  -- and one of them gives only types of the instances of the file
  pub own_instances : t.errors ≡ 0 → let u = (check_of s l).tables in
      All (Sided (types_held t u)) (equations_of s) → (w : Way) × WayOf t.declared.insts w × Kinded (kinds_held t u) w × All (Meets (types_held t u) w) (equations_of s)
  own_instances z h =
      let n : Counts = t.declared in
      let a = (exactly z h).1 in
      let log : equations_of s ≡ (last_of s n).log = ap equations_in (state-is s n o.read) in
      rw (types, kinds, log) (walk.own_instances n (reading_of s).rows (reading_of s).cells good a.0 (rw (← kinds) a.1) (rw (← types, ← log) a.2))
