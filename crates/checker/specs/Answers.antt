-- When each answer of `check` is given, and what it leaves. Assumes nothing.
use Rattle.std.specs.Prelude.{◌≡◌, List, Bool, cond, ℕ, ◌<◌, ◌≤◌, replicate}
use Rattle.std.proofs.Math.Path.{refl}
use Rattle.std.proofs.Common.{sym, ap, subst, ◌∙◌, ltb-true, ltb-false}
use Rattle.std.proofs.Math.Logic.{⊎_elim}
use Rattle.std.proofs.Math.Option.{Option, none, some}
use Rattle.std.proofs.Math.Bool.{true, false}
use Rattle.std.proofs.lemmas.Bool.{false≢true}
use native.Mathlib.Omega.{arith}
use Rattle.std.proofs.Math.ListN.{length}
use Rattle.std.proofs.lemmas.List.{length-replicate}
use Rattle.std.proofs.Math.Dec.{ltb}
use Rattle.theory.specs.Program.{run}
use Rattle.type_table.specs.declared.NodeId.{NodeId}
use Rattle.forms.specs.declared.Fault.{Fault}
use Rattle.refs.specs.declared.Counts.{Counts}
use Rattle.body.specs.declared.Answer.{Answer as Reading}
use Rattle.body.specs.declared.Answer.TheVariants as reading
use Rattle.body.specs.Body.{most_bytes, rows_length, cells_length}
use Rattle.record.specs.Steps.{State}
use Rattle.resolve.specs.Resolve.{type_body}
use Rattle.resolve.specs.Body.{first_state, last_state}
use Rattle.well_formed.specs.Good.{WellFormed}
use Rattle.well_formed.proofs.Claims as reader
use Rattle.bounds.proofs.Claims.{refusal_number_and_place}
use Rattle.answers.specs.declared.Totals.{Totals}
use Rattle.answers.specs.declared.Answer.TheVariants as answer
use Rattle.answers.specs.Lent.{Lent, cleared, too_short, Held, held, totals, filled}
use Rattle.checker.specs.Check.{ended_by, typed, reading_of, read_by, check_of}

-- ── what the reader answers ──

-- zeros are as many as were asked for
not_fewer : (n : ℕ) → length (replicate {A = ℕ} n 0) < n → ⊥
not_fewer n h = omega (arith, length-replicate {A = ℕ} n 0)

module _ (s : List ℕ) (h : length s ≤ most_bytes) where
  -- to a file that is not too long the reader does not answer 1,
  not_long : (reading_of s).answer ≡ reading.TooLong → ⊥
  unfolding reading_of
  not_long e = let g : most_bytes < length s = (reader.when_1 s (replicate rows_length 0) (replicate cells_length 0)).0 e in omega arith

  -- nor 2
  not_lacking : (reading_of s).answer ≡ reading.ShortTable → ⊥
  unfolding reading_of
  not_lacking e = ⊎_elim (not_fewer rows_length) (not_fewer cells_length) ((reader.when_2 s (replicate rows_length 0) (replicate cells_length 0)).0 e).1

-- the tables of a body that was read are well-formed
pub read_well_formed : (s : List ℕ) (n : Counts) → (reading_of s).answer ≡ reading.Body n → WellFormed n (reading_of s).rows (reading_of s).cells
unfolding reading_of
read_well_formed s = reader.well_formed_on_0 s (replicate rows_length 0) (replicate cells_length 0)

-- ── the five cases ──

-- the state in which the rules end on the body of the file s, with these counts
abbrev pub last_of : List ℕ → Counts → State
last_of s n = last_state n (reading_of s).rows (reading_of s).cells

-- how they end
abbrev pub end_of : List ℕ → Counts → Option (Unit {0})
end_of s n = (run (type_body n (reading_of s).rows (reading_of s).cells) (first_state (reading_of s).rows (reading_of s).cells)).0

-- the tables on 0
abbrev pub tables_of : List ℕ → Lent → Counts → Lent
tables_of s l n = filled n (reading_of s).rows (reading_of s).cells (last_of s n) l

-- what holds of the result in each of the five cases
pub record Cases (s : List ℕ) (l : Lent) (P : Held → Type 0) : Type 0 where
  -- 1
  pub long : most_bytes < length s → P (held answer.TooLong l)
  -- 2
  pub short : length s ≤ most_bytes → too_short l ≡ true → P (held answer.ShortTable l)
  -- 3 to 6
  pub refused : length s ≤ most_bytes → too_short l ≡ false → (x : Fault) (k : ℕ) → (reading_of s).answer ≡ reading.Refused x k → P (held (answer.Refused x k) (cleared l))
  -- 10 to 13
  pub declined : length s ≤ most_bytes → too_short l ≡ false → (n : Counts) (k p : ℕ) → (reading_of s).answer ≡ reading.Body n → (last_of s n).stop ≡ some (k, p)
      → (10 ≤ k) × (k ≤ 13) × (p < n.nodes) → P (held (answer.Declined k (record { 0 = p })) (cleared l))
  -- 0
  pub checked : length s ≤ most_bytes → too_short l ≡ false → (n : Counts) → (reading_of s).answer ≡ reading.Body n → end_of s n ≡ some tt
      → P (held (answer.Checked (totals n (last_of s n))) (tables_of s l n))

module _ (s : List ℕ) (l : Lent) (P : Held → Type 0) (c : Cases s l P) where
  -- a body that was read
  by_end : length s ≤ most_bytes → too_short l ≡ false → (n : Counts) → (reading_of s).answer ≡ reading.Body n → (o : Option (Unit {0})) → end_of s n ≡ o
      → P (ended_by n (reading_of s).rows (reading_of s).cells o (last_of s n) l)
  by_end h q n e (some u) g = c.checked h q n e g
  by_end h q n e none g =
      let t = refusal_number_and_place n (reading_of s).rows (reading_of s).cells (read_well_formed s n e) g in
      rw t.2 (c.declined h q n t.0 t.1 e t.2 (t.3, t.4, t.5))

  -- a file that is not too long, in tables that are long enough
  by_reading : length s ≤ most_bytes → too_short l ≡ false → (a : Reading) → (reading_of s).answer ≡ a → P (read_by a (reading_of s).rows (reading_of s).cells l)
  unfolding typed
  by_reading h q (reading.Body n) e = by_end h q n e (end_of s n) refl
  by_reading h q reading.TooLong e = absurd (not_long s h e)
  by_reading h q reading.ShortTable e = absurd (not_lacking s h e)
  by_reading h q (reading.Refused x k) e = c.refused h q x k e

  -- the result of a check, by its cases
  pub check_cases : P (check_of s l)
  unfolding check_of
  check_cases = by (ltb most_bytes (length s)) refl (too_short l) refl
    where
      by : (a : Bool) → ltb most_bytes (length s) ≡ a → (b : Bool) → too_short l ≡ b
          → P (cond a (held answer.TooLong l) (cond b (held answer.ShortTable l) (read_by (reading_of s).answer (reading_of s).rows (reading_of s).cells l)))
      by true e b z = c.long (ltb-true most_bytes (length s) e)
      by false e true z = c.short (ltb-false most_bytes (length s) e) z
      by false e false z = by_reading (ltb-false most_bytes (length s) e) z (reading_of s).answer refl

-- ── what each answer says ──

-- two answers of different kinds are not equal
apart : {A : Type 0} → ◌≡◌ {A = ℕ} 0 1 → A
apart e = absurd (omega arith)

-- what is known on 0, with the totals t and the tables u
pub record On0 (s : List ℕ) (l : Lent) (t : Totals) (u : Lent) : Type 0 where
  -- the reader takes the file
  pub read : (reading_of s).answer ≡ reading.Body t.declared
  -- the rules end without a refusal
  pub ended : end_of s t.declared ≡ some tt
  -- the totals are the row counts of the state in which they end
  pub counts : t ≡ totals t.declared (last_of s t.declared)
  -- the tables are those of that state
  pub tables : u ≡ tables_of s l t.declared

-- what is known on 10 to 13, of the number k at the node p, with the tables u
pub record On10to13 (s : List ℕ) (l : Lent) (k p : ℕ) (u : Lent) : Type 0 where
  -- the counts of the body
  pub n : Counts
  -- the reader takes the file
  pub read : (reading_of s).answer ≡ reading.Body n
  -- the rules end in this refusal, of this number
  pub refusal : (last_of s n).stop ≡ some (k, p)
  pub number : (10 ≤ k) × (k ≤ 13)
  -- at a node of the body
  pub node : p < n.nodes
  -- every table is zero throughout
  pub tables : u ≡ cleared l

module _ (s : List ℕ) (l : Lent) where
  -- 0
  pub on_0 : (t : Totals) → (check_of s l).answer ≡ answer.Checked t → On0 s l t (check_of s l).tables
  on_0 = check_cases s l (λ h. (t : Totals) → h.answer ≡ answer.Checked t → On0 s l t h.tables) (record {
    long = λ h t e. apart (cc);
    short = λ h q t e. apart (cc);
    refused = λ h q x k r t e. apart (cc);
    declined = λ h q n k p r z y t e. apart (cc);
    checked = λ h q n r z t e.
        let g : totals n (last_of s n) ≡ t = cc in
        subst (λ (v : Totals). On0 s l v (tables_of s l n)) g (record { read = r; ended = z; counts = refl; tables = refl });
  })

  -- and no table is too short
  pub long_on_0 : (t : Totals) → (check_of s l).answer ≡ answer.Checked t → too_short l ≡ false
  long_on_0 = check_cases s l (λ h. (t : Totals) → h.answer ≡ answer.Checked t → too_short l ≡ false) (record {
    long = λ h t e. apart (cc);
    short = λ h q t e. apart (cc);
    refused = λ h q x k r t e. apart (cc);
    declined = λ h q n k p r z y t e. apart (cc);
    checked = λ h q n r z t e. q;
  })

  -- 10 to 13
  pub on_10_to_13 : (k : ℕ) (p : NodeId) → (check_of s l).answer ≡ answer.Declined k p → On10to13 s l k p.0 (check_of s l).tables
  on_10_to_13 = check_cases s l (λ h. (k : ℕ) (p : NodeId) → h.answer ≡ answer.Declined k p → On10to13 s l k p.0 h.tables) (record {
    long = λ h k p e. apart (cc);
    short = λ h q k p e. apart (cc);
    refused = λ h q x j r k p e. apart (cc);
    declined = λ h q n j v r z y k p e.
        let a : j ≡ k = cc in
        let b : ◌≡◌ {A = NodeId} (record { 0 = v }) p = cc in
        record {
          n = n;
          read = r;
          refusal = z ∙ ap (λ (i : ℕ). some (i, v)) a ∙ ap (λ (i : NodeId). some (k, i.0)) b;
          number = (rw a at y.0, rw a at y.1);
          node = subst (λ (i : NodeId). i.0 < n.nodes) b y.2;
          tables = refl;
        };
    checked = λ h q n r z k p e. apart (cc);
  })

  -- 3 to 6
  pub on_3_to_6 : (x : Fault) (k : ℕ) → (check_of s l).answer ≡ answer.Refused x k → ((reading_of s).answer ≡ reading.Refused x k) × ((check_of s l).tables ≡ cleared l)
  on_3_to_6 = check_cases s l (λ h. (x : Fault) (k : ℕ) → h.answer ≡ answer.Refused x k → ((reading_of s).answer ≡ reading.Refused x k) × (h.tables ≡ cleared l)) (record {
    long = λ h x k e. apart (cc);
    short = λ h q x k e. apart (cc);
    refused = λ h q y j r x k e.
        let a : y ≡ x = cc in
        let b : j ≡ k = cc in
        (r ∙ ap (λ (i : Fault). reading.Refused i j) a ∙ ap (λ (i : ℕ). reading.Refused x i) b, refl);
    declined = λ h q n j v r z y x k e. apart (cc);
    checked = λ h q n r z x k e. apart (cc);
  })

  -- 1 exactly over 65,536 bytes, which changes no table
  pub on_1 : (check_of s l).answer ≡ answer.TooLong → (most_bytes < length s) × ((check_of s l).tables ≡ l)
  on_1 = check_cases s l (λ h. h.answer ≡ answer.TooLong → (most_bytes < length s) × (h.tables ≡ l)) (record {
    long = λ h e. (h, refl);
    short = λ h q e. apart (cc);
    refused = λ h q x k r e. apart (cc);
    declined = λ h q n k p r z y e. apart (cc);
    checked = λ h q n r z e. apart (cc);
  })

  pub when_1 : most_bytes < length s → (check_of s l).answer ≡ answer.TooLong
  when_1 b = check_cases s l (λ h. h.answer ≡ answer.TooLong) (record {
    long = λ h. refl;
    short = λ h q. absurd (omega arith);
    refused = λ h q x k r. absurd (omega arith);
    declined = λ h q n k p r z y. absurd (omega arith);
    checked = λ h q n r z. absurd (omega arith);
  })

  -- 2 exactly with a table below its length, which changes no table
  pub on_2 : (check_of s l).answer ≡ answer.ShortTable → (length s ≤ most_bytes) × (too_short l ≡ true) × ((check_of s l).tables ≡ l)
  on_2 = check_cases s l (λ h. h.answer ≡ answer.ShortTable → (length s ≤ most_bytes) × (too_short l ≡ true) × (h.tables ≡ l)) (record {
    long = λ h e. apart (cc);
    short = λ h q e. (h, q, refl);
    refused = λ h q x k r e. apart (cc);
    declined = λ h q n k p r z y e. apart (cc);
    checked = λ h q n r z e. apart (cc);
  })

  pub when_2 : length s ≤ most_bytes → too_short l ≡ true → (check_of s l).answer ≡ answer.ShortTable
  when_2 b t = check_cases s l (λ h. h.answer ≡ answer.ShortTable) (record {
    long = λ h. absurd (omega arith);
    short = λ h q. refl;
    refused = λ h q x k r. absurd (false≢true (sym q ∙ t));
    declined = λ h q n k p r z y. absurd (false≢true (sym q ∙ t));
    checked = λ h q n r z. absurd (false≢true (sym q ∙ t));
  })

-- ── what is lent decides no answer but 2 ──

-- how a walk ended
same_ended : (n : Counts) (rows cells : List ℕ) (o : Option (Unit {0})) (t : State) (l l' : Lent) → (ended_by n rows cells o t l).answer ≡ (ended_by n rows cells o t l').answer
same_ended n rows cells (some u) t l l' = refl
same_ended n rows cells none t l l' = refl

-- what the reader answers
same_by : (a : Reading) (rows cells : List ℕ) (l l' : Lent) → (read_by a rows cells l).answer ≡ (read_by a rows cells l').answer
unfolding typed
same_by (reading.Body n) rows cells l l' = let r = run (type_body n rows cells) (first_state rows cells) in same_ended n rows cells r.0 r.1 l l'
same_by reading.TooLong rows cells l l' = refl
same_by reading.ShortTable rows cells l l' = refl
same_by (reading.Refused x k) rows cells l l' = refl

-- two checks of a file
pub same_answer : (s : List ℕ) (l l' : Lent) → too_short l ≡ false → too_short l' ≡ false → (check_of s l).answer ≡ (check_of s l').answer
unfolding check_of
same_answer s l l' p q = rw (p, q) (by (ltb most_bytes (length s)))
  where
    by : (a : Bool) → (cond a (held answer.TooLong l) (read_by (reading_of s).answer (reading_of s).rows (reading_of s).cells l)).answer
        ≡ (cond a (held answer.TooLong l') (read_by (reading_of s).answer (reading_of s).rows (reading_of s).cells l')).answer
    by true = refl
    by false = same_by (reading_of s).answer (reading_of s).rows (reading_of s).cells l l'
