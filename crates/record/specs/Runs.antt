-- How facts about running programs are put together: one part after another, and refusals that end a program. Assumes nothing.
use Rattle.std.specs.Prelude.{◌≡◌, Bool, true, false, ℕ, get_or, Err, None, Ok, Result, Some}
use Rattle.std.proofs.Math.Path.{refl, sym}
use Rattle.std.proofs.Common.{◌∙◌, ap, arith}
use mathlib.Core.List.{List}
use Rattle.std.proofs.Math.Option.{Option, none, some}
use Rattle.theory.specs.Rules.{Shape, row}
use Rattle.theory.specs.Program.{done, refuse, refused, run, ◌>>=◌, run_bind}
use Rattle.type_table.specs.Memory.{rows_of}
use Rattle.type_table.specs.Sound.{state_of}
use Rattle.type_table.specs.declared.TypeId.{TypeId}
use Rattle.type_table.specs.declared.NodeId.{NodeId}
use Rattle.record.specs.declared.Record.{Record}
use Rattle.record.specs.declared.Equated.{Equated}
use Rattle.record.specs.declared.Equated.TheVariants as equated
use Rattle.record.specs.Own.{Own, raws_of, own_of, node_type}
use Rattle.record.specs.Steps.{State, Walk, Step, node_type_lem, shape_of_lem, all_types, output}
use Rattle.record.specs.Encodes.{Encodes, Runs, Stops, TypesBy, Types, RulesBy, Rules, Equates}
use Rattle.record.specs.Grows.{first_fits}
use Rattle.record.specs.declared.Refusal.{Refusal}

-- the end of a walk is held where its state is
pub encodes_refused : {m : List ℕ} {c : Record} {s : State} (k n : ℕ) → Encodes m c s → Encodes m c (refused k n s)
unfolding refused state_of
encodes_refused k n e = record { size = e.size; sound = e.sound; tables = ap (refused k n) e.tables; inputs = e.inputs; own = e.own; errors = e.errors; equations = e.equations; logged = e.logged }

module _ {A : Type 0} {m : List ℕ} {c : Record} where
  -- an answer without a step
  pub runs_done : {a : A} → Runs m c m c (done a) a
  unfolding run
  runs_done = record { ran = λ s e f. (refl, e) }

  -- a refusal
  pub stops_refuse : {k n : ℕ} → Stops {A = A} m c m c (refuse k n) k n
  unfolding run refused
  stops_refuse {k} {n} = record { stopped = λ s e f. (refl, refl, encodes_refused k n e) }

-- the first part ended with an answer: the whole goes on with the second part from there
ended : {A B : Type 0} (p : Walk A) (g : A → Walk B) (a : A) (s : State) → (run p s).0 ≡ some a → run (◌>>=◌ p g) s ≡ run (g a) (run p s).1
ended p g a s e = run_bind p g s ∙ rw e refl

-- a refusal ended the first part: the whole is the same
ended_refused : {A B : Type 0} (p : Walk A) (g : A → Walk B) (s : State) → (run p s).0 ≡ none → run (◌>>=◌ p g) s ≡ (none, (run p s).1)
ended_refused p g s e = run_bind p g s ∙ rw e refl

module _ {A B : Type 0} {m m₁ : List ℕ} {c c₁ : Record} {p : Walk A} (g : A → Walk B) where
  -- one part and then another
  pub then : {m₂ : List ℕ} {c₂ : Record} {a : A} {b : B} → Runs m c m₁ c₁ p a → Runs m₁ c₁ m₂ c₂ (g a) b → Runs m c m₂ c₂ (◌>>=◌ p g) b
  then {m₂} {c₂} {a} {b} P Q = record {
    ran = λ s e f.
        let u = P.ran s e (first_fits p g s f) in
        let h = ended p g a s u.0 in
        rw h (Q.ran (run p s).1 u.1 (rw h at f));
  }

  -- one part, and the other refuses
  pub then_stops : {m₂ : List ℕ} {c₂ : Record} {a : A} {k n : ℕ} → Runs m c m₁ c₁ p a → Stops m₁ c₁ m₂ c₂ (g a) k n → Stops m c m₂ c₂ (◌>>=◌ p g) k n
  then_stops {m₂} {c₂} {a} {k} {n} P Q = record {
    stopped = λ s e f.
        let u = P.ran s e (first_fits p g s f) in
        let h = ended p g a s u.0 in
        rw h (Q.stopped (run p s).1 u.1 (rw h at f));
  }

  -- the first part refuses, and so does the whole
  pub stops : {k n : ℕ} → Stops m c m₁ c₁ p k n → Stops m c m₁ c₁ (◌>>=◌ p g) k n
  stops {k} {n} P = record {
    stopped = λ s e f.
        let u = P.stopped s e (first_fits p g s f) in
        rw (ended_refused p g s u.0) (refl, u.1, u.2);
  }

module _ {m : List ℕ} {c : Record} where
  -- the rows of an encoded state
  pub rows_are : {s : State} → Encodes m c s → s.rows ≡ rows_of m c.counts.types
  unfolding state_of
  rows_are e = sym (ap (λ (s : State). s.rows) e.tables)

  -- RAW of a node, as it stands in the memory
  pub runs_node_type : (n : ℕ) → Runs m c m c (node_type_lem n) (get_or (raws_of m) n none)
  unfolding run node_type_lem own_of
  runs_node_type n = record { ran = λ s e f. (ap (λ (o : Own). some (get_or o.raw n none)) e.own, e) }

  -- a type, taken apart, as it stands in the memory
  pub runs_shape_of : (x : ℕ) → Runs m c m c (shape_of_lem x) (row (rows_of m c.counts.types) x)
  unfolding run shape_of_lem
  runs_shape_of x = record { ran = λ s e f. (ap (λ (ts : List Shape). some (row ts x)) (rows_are e), e) }

  -- all types, as they stand in the memory
  pub runs_types : Runs m c m c all_types (rows_of m c.counts.types)
  unfolding run all_types
  runs_types = record { ran = λ s e f. (ap (λ (ts : List Shape). some ts) (rows_are e), e) }

  -- the type that `return` answers to
  pub runs_output : Runs m c m c output c.output.0
  unfolding run output own_of
  runs_output = record { ran = λ s e f. (ap (λ (o : Own). some o.output) e.own, e) }

-- ── an answer by its variant ──

module _ {m m' : List ℕ} {c : Record} where
  module _ {p : Walk ℕ} {r : Result (Record × TypeId) Refusal} where
    -- a type
    pub type_is : {d : Record} {t : TypeId} → r ≡ Ok (d, t) → Types m c m' r p → Runs m c m' d p t.0
    type_is e h = rw e at h.by

    -- a refusal
    pub type_refused : {q : Refusal} → r ≡ Err q → Types m c m' r p → Stops m c m' q.record p q.number q.node.0
    type_refused e h = rw e at h.by

  module _ {p : Step} {r : Result Record Refusal} where
    -- done
    pub rule_done : {d : Record} → r ≡ Ok d → Rules m c m' r p → Runs m c m' d p tt
    rule_done e h = rw e at h.by

    -- a refusal
    pub rule_refused : {q : Refusal} → r ≡ Err q → Rules m c m' r p → Stops m c m' q.record p q.number q.node.0
    rule_refused e h = rw e at h.by

  module _ {n : ℕ} {p : Walk Bool} {r : Equated} {d : Record} where
    -- met
    pub equation_met : r ≡ equated.Met d → Equates m c m' n r p → Runs m c m' d p true
    equation_met e h = rw e at h.by

    -- failed
    pub equation_failed : r ≡ equated.Failed d → Equates m c m' n r p → Runs m c m' d p false
    equation_failed e h = rw e at h.by

    -- refused
    pub equation_refused : {k : ℕ} → r ≡ equated.Refused k d → Equates m c m' n r p → Stops m c m' d p k n
    equation_refused e h = rw e at h.by

-- ── one part, and then what answers for itself ──

module _ {A : Type 0} {m m₁ : List ℕ} {c c₁ : Record} {p : Walk A} {a : A} where
  -- by the answer
  after_by : (m₂ : List ℕ) (g : A → Walk ℕ) (r : Result (Record × TypeId) Refusal) → Runs m c m₁ c₁ p a → TypesBy m₁ c₁ m₂ r (g a) → TypesBy m c m₂ r (◌>>=◌ p g)
  after_by m₂ g (Ok (d, t)) P Q = then g P Q
  after_by m₂ g (Err q) P Q = then_stops g P Q

  -- a part, and then a program that gives a type or refuses
  pub after : {m₂ : List ℕ} (g : A → Walk ℕ) {r : Result (Record × TypeId) Refusal} → Runs m c m₁ c₁ p a → Types m₁ c₁ m₂ r (g a) → Types m c m₂ r (◌>>=◌ p g)
  after {m₂} g {r} P Q = record { by = after_by m₂ g r P Q.by }

  -- by the answer
  after_rules_by : (m₂ : List ℕ) (g : A → Step) (r : Result Record Refusal) → Runs m c m₁ c₁ p a → RulesBy m₁ c₁ m₂ r (g a) → RulesBy m c m₂ r (◌>>=◌ p g)
  after_rules_by m₂ g (Ok d) P Q = then g P Q
  after_rules_by m₂ g (Err q) P Q = then_stops g P Q

  -- a part, and then a program that gives no type, or refuses
  pub after_rules : {m₂ : List ℕ} (g : A → Step) {r : Result Record Refusal} → Runs m c m₁ c₁ p a → Rules m₁ c₁ m₂ r (g a) → Rules m c m₂ r (◌>>=◌ p g)
  after_rules {m₂} g {r} P Q = record { by = after_rules_by m₂ g r P Q.by }

-- ── the answer of a function, from its program ──

module _ {m m' : List ℕ} {c : Record} where
  -- a type
  pub typed_type : {p : Walk ℕ} {d : Record} {t : TypeId} → Runs m c m' d p t.0 → Types m c m' (Ok (d, t)) p
  typed_type R = record { by = R }

  -- a refusal
  pub typed_refused : {p : Walk ℕ} {q : Refusal} → Stops m c m' q.record p q.number q.node.0 → Types m c m' (Err q) p
  typed_refused R = record { by = R }

  -- done
  pub ruled_done : {p : Step} {d : Record} → Runs m c m' d p tt → Rules m c m' (Ok d) p
  ruled_done R = record { by = R }

  -- a refusal
  pub ruled_refused : {p : Step} {q : Refusal} → Stops m c m' q.record p q.number q.node.0 → Rules m c m' (Err q) p
  ruled_refused R = record { by = R }

-- ── RAW as the code has it ──

-- a type that is there
pub typed_some : (o : Option ℕ) (t : TypeId) → node_type o ≡ Some t → o ≡ some t.0
typed_some none t e = let z : ◌≡◌ {A = ℕ} 0 1 = cc in absurd (omega arith)
typed_some (some x) t e = let z : record { 0 = x } ≡ t = cc in ap (λ (u : TypeId). some u.0) z

-- one that is not
pub untyped_none : (o : Option ℕ) → node_type o ≡ None → o ≡ none
untyped_none none e = refl
untyped_none (some x) e = let z : ◌≡◌ {A = ℕ} 0 1 = cc in absurd (omega arith)
