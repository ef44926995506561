-- An equation that is unified and logged is the step of a program. Over plain variables.
use mathlib.Core.Path.{◌≡◌, refl, sym, ap, ◌∙◌}
use mathlib.Core.List.{List}
use mathlib.Core.Option.{none, some}
use mathlib.Core.Bool.{true, false}
use Prim.Native.Nat.{ℕ, ◌+◌, ◌*◌, ◌≤◌}
use native.Mathlib.Omega.{arith}
use lib.ListN.{length, set, length-set}
use lib.Seq.{get_or-set_same}
use Rattle.theory.specs.Rules.{Out, success, mismatch, refused12, refused13, dry, Res}
use Rattle.theory.specs.Program.{clip, emitted, refused, raised, solved, react, run}
use Rattle.theory.specs.Keep.{Ended}
use Rattle.type_table.specs.declared.TypeId.{TypeId}
use Rattle.type_table.specs.Memory.{cell, cells}
use Rattle.type_table.specs.Frames.{SameIn, set_above}
use Rattle.type_table.specs.Sound.{Sound, state_of}
use Rattle.unify.specs.declared.Answer.{Answer}
use Rattle.unify.specs.declared.Answer.TheVariants.{Success, Mismatch, Refused12, Refused13}
use Rattle.unify.specs.Promise.{Frame, Solved, SolvedBy, answer_is, solve_in}
use Rattle.unify.specs.Keeps.{held_sound, never_dry, unify_sound, unify_step}
use Rattle.record.specs.declared.Record.{Record}
use Rattle.record.specs.declared.TypingError.{TypingError}
use Rattle.record.specs.declared.Equated.TheVariants as equated
use Rattle.record.specs.Own.{log_at, most_errors}
use Rattle.record.specs.Steps.{State, caused, error, equation}
use Rattle.record.specs.Encodes.{answer_number, answer_word, Logged, Encodes, Fits, Runs, Raises}
use Rattle.record.specs.Runs.{encodes_refused}
use Rattle.record.specs.Answers.{one_equation, log_written, Logs}
use Rattle.record.specs.Behind.{Behind, behind_sound, behind_state}
use Rattle.record.specs.Regions.{own_kept, errors_kept, logged_kept, length_errors}
use Rattle.record.specs.InTables.{InTables, tables_frame}
use Rattle.record.proofs.TableLaws.{rows_counted}

-- ── the log is written ──

-- the three cells of the log
pub log_written_lem : (m m₁ m₂ m₃ : List ℕ) (c : Record) (x y a b k : ℕ) → a ≡ clip c.counts.types x → b ≡ clip c.counts.types y
    → m₁ ≡ set m (log_at + c.equations * 3) a → m₂ ≡ set m₁ (log_at + c.equations * 3 + 1) b → m₃ ≡ set m₂ (log_at + c.equations * 3 + 2) k → Logs m c x y k m₃ (one_equation c)
unfolding log_written
log_written_lem m m₁ m₂ m₃ c x y a b k p q e f g h = (g ∙ rw (f, e, p, q), refl)

-- nothing is logged that cannot be counted
pub log_full : (m : List ℕ) (c : Record) (x y k : ℕ) → 65535 ≤ c.equations → Logs m c x y k m c
log_full m c x y k l h = absurd (omega arith)

module _ (m : List ℕ) (c : Record) (x y k : ℕ) where
  -- where the equation stands
  abbrev place : ℕ
  place = log_at + c.equations * 3

  -- the memory with the first cell
  abbrev one : List ℕ
  one = set m place (clip c.counts.types x)

  -- and with the second
  abbrev two : List ℕ
  two = set one (place + 1) (clip c.counts.types y)

  -- the memory has its length
  log_length : length (log_written m c x y k) ≡ length m
  unfolding log_written
  log_length = simp length-set

  -- the cells below the equation stay
  log_below : SameIn m (log_written m c x y k) 0 place
  unfolding log_written
  log_below j l r = set_above two (place + 2) j k (omega arith) ∙ set_above one (place + 1) j (clip c.counts.types y) (omega arith) ∙ set_above m place j (clip c.counts.types x) r

  module _ (room : place + 3 ≤ length m) where
    -- the expected row
    log_expected : cell (log_written m c x y k) place ≡ clip c.counts.types x
    unfolding log_written
    log_expected = set_above two (place + 2) place k (omega arith) ∙ set_above one (place + 1) place (clip c.counts.types y) (omega arith) ∙ get_or-set_same m place (clip c.counts.types x) 0 (omega arith)

    -- the got row
    log_got : cell (log_written m c x y k) (place + 1) ≡ clip c.counts.types y
    unfolding log_written
    log_got = set_above two (place + 2) (place + 1) k (omega arith) ∙ get_or-set_same one (place + 1) (clip c.counts.types y) 0 (simp length-set (omega arith))

    -- the answer
    log_answer : cell (log_written m c x y k) (place + 2) ≡ k
    unfolding log_written
    log_answer = get_or-set_same two (place + 2) k 0 (simp length-set (omega arith))

-- ── an equation is raised ──

-- the answer of the rules that an answer stands for
abbrev out_of : Answer → Out
out_of Success = success
out_of Mismatch = mismatch
out_of Refused12 = refused12
out_of Refused13 = refused13

-- an answer stands for that of the rules
out_of_lem : (o : Out) → Ended o → out_of (answer_is o) ≡ o
out_of_lem success h = refl
out_of_lem mismatch h = refl
out_of_lem refused12 h = refl
out_of_lem refused13 h = refl
out_of_lem dry h = absurd h

-- where one error more fits, the state without it fits
fits-before : (e : TypingError) (s : State) → Fits (emitted e s) → Fits s
unfolding emitted
fits-before e s f = record { rows = f.rows; vars = f.vars; inputs = f.inputs; errors = omega (arith, f.errors); equations = f.equations }

-- one error more, from where the state is held
emitted_held : (s : State) (e : TypingError) {m m' : List ℕ} {c c' : Record} → (Fits s → Encodes m c s) → Runs m c m' c' (error e) tt → Fits (emitted e s) → Encodes m' c' (emitted e s)
unfolding error run
emitted_held s e holds emits f = (emits.ran s (holds (fits-before e s f)) f).1

-- where the end of a walk fits, its state fits
fits_refused : (k n : ℕ) (s : State) → Fits (refused k n s) → Fits s
unfolding refused
fits_refused k n s f = record { rows = f.rows; vars = f.vars; inputs = f.inputs; errors = f.errors; equations = f.equations }

-- the number and the node of a refusal
stops_with : (k n : ℕ) (s : State) → (refused k n s).stop ≡ some (k, n)
unfolding refused
stops_with k n s = refl

-- in the rule of the node n, x, expected, and y, got, are unified in m, which becomes w with the answer r
module _ (m w : List ℕ) (c : Record) (n : ℕ) (x y : TypeId) (r : Answer) (p : Solved m c.counts x y w r) where
  -- what the rules make of the equation over the tables of a state
  abbrev result : State → Res
  result s = solved (clip (length s.rows) x.0) (clip (length s.rows) y.0) s

  -- the state with the equation
  abbrev after : State → State
  after s = raised n (clip (length s.rows) x.0) (clip (length s.rows) y.0) (result s) s

  module _ {s : State} (e : Encodes m c s) where
    -- the tables, as `unify` leaves them
    unified : (state_of w c.counts (after s) ≡ after s) × (r ≡ answer_is (result s).0)
    unified = rw (rows_counted e) (rw e.tables at (unify_step m c.counts e.sound x y w r p n s))

    -- the steps do not run out
    ended : Ended (result s).0
    unfolding solve_in state_of
    ended = rw (rows_counted e) (ap_ended e.tables (never_dry m c.counts e.sound x y))
      where
        ap_ended : {t : State} → t ≡ s → Ended (solved (clip c.counts.types x.0) (clip c.counts.types y.0) t).0 → Ended (solved (clip c.counts.types x.0) (clip c.counts.types y.0) s).0
        ap_ended q h = rw q at h

    -- the answer of the rules
    answer : out_of r ≡ (result s).0
    answer = ap out_of unified.1 ∙ out_of_lem (result s).0 ended

    -- what is behind the tables stays
    in_tables : InTables m w
    in_tables = tables_frame m c.counts e.sound.laid.vars w (kept (rw (held_sound m c.counts e.sound) at p))
      where
        kept : SolvedBy m c.counts x y w r → Frame m c.counts w
        kept q = q.frame

    -- the log with the equation
    log_more : (k : ℕ) → k ≡ answer_word (answer_number (result s).0) n → Logged (log_written w c x.0 y.0 k) (after s).log
    unfolding raised Logged
    log_more k q =
        let u = log_written w c x.0 y.0 k in
        let size : length u ≡ length w = log_length w c x.0 y.0 k in
        let low : SameIn w u log_at (log_at + length s.log * 3) = λ j a b. log_below w c x.0 y.0 k j (omega arith) (omega (arith, e.equations)) in
        let old : Logged w s.log = logged_kept m w s.log in_tables.size (λ j a b. in_tables.same j (omega arith)) e.logged in (
          λ room. let h : log_at + c.equations * 3 + 3 ≤ length w = omega (arith, e.equations, size, room) in
              let t : c.counts.types ≡ length s.rows = sym (rows_counted e) in
              rw (← e.equations) (log_expected w c x.0 y.0 k h ∙ ap (λ (z : ℕ). clip z x.0) t, log_got w c x.0 y.0 k h ∙ ap (λ (z : ℕ). clip z y.0) t, log_answer w c x.0 y.0 k h ∙ q),
          logged_kept w u s.log size low old,
        )

    -- the memory with the equation in the log holds the state with it
    pub noted : Fits (after s) → (u : List ℕ) (d : Record) (k : ℕ) → Logs w c x.0 y.0 k u d → k ≡ answer_word (answer_number (result s).0) n → Encodes u d (after s)
    unfolding raised
    noted f u d k logs q = by (logs (omega (arith, e.equations, f.equations)))
      where
        v : List ℕ
        v = log_written w c x.0 y.0 k

        size : length v ≡ length w
        size = log_length w c x.0 y.0 k

        low : SameIn w v 0 log_at
        low j a b = log_below w c x.0 y.0 k j a (omega arith)

        behind : Behind w v
        behind = record { size = size; tables = λ j a. low j (omega arith) (omega arith) }

        sound : Sound w c.counts
        sound = unify_sound m c.counts e.sound x y w r p

        few : c.errors ≤ most_errors
        few = omega (arith, length_errors m c.errors, ap length e.errors, f.errors)

        by : (u ≡ log_written w c x.0 y.0 k) × (d ≡ one_equation c) → Encodes u d (after s)
        by h =
            rw (h.0, h.1)
            record {
              size = omega (arith, size, in_tables.size, e.size);
              sound = behind_sound w v c.counts behind sound;
              tables = behind_state w v c.counts behind sound (after s) ∙ unified.0;
              inputs = e.inputs;
              own = e.own ∙ sym (own_kept m w c.output.0 (λ j a b. in_tables.same j (omega arith))) ∙ sym (own_kept w v c.output.0 (λ j a b. low j (omega arith) (omega arith)));
              errors = e.errors ∙ sym (errors_kept m w c.errors (λ j a b. in_tables.same j (omega arith))) ∙ sym (errors_kept w v c.errors (λ j a b. low j (omega arith) (omega (arith, few))));
              equations = omega (arith, e.equations);
              logged = log_more k q;
            }

  -- the equation runs by its answer
  reacts : {s : State} (e : Encodes m c s) (err : TypingError) → run (equation n x.0 y.0 err) s ≡ react n (out_of r) (caused err) (λ b t. (some b, t)) (after s)
  unfolding equation run
  reacts {s} e err = ap (λ (o : Out). react n o (caused err) (λ b t. (some b, t)) (after s)) (sym (answer e))

  -- the third cell, by the answer
  numbered : (s : State) (e : Encodes m c s) {o : Answer} → r ≡ o → answer_word (answer_number (out_of o)) n ≡ answer_word (answer_number (result s).0) n
  numbered s e q = ap (λ (a : Out). answer_word (answer_number a) n) (sym (ap out_of q) ∙ answer e)

  -- the equation is met
  pub equation_met : r ≡ Success → (m' : List ℕ) (d : Record) → Logs w c x.0 y.0 (answer_word 0 n) m' d → Raises m c m' n x.0 y.0 (equated.Met d)
  equation_met q m' d logs = record {
    by = λ err. record {
      ran = λ s e f. let h : run (equation n x.0 y.0 err) s ≡ (some true, after s) = rw q at (reacts e err) in
          rw h (refl, noted e (rw h at f) m' d (answer_word 0 n) logs (numbered s e q));
    };
  }

  -- the equation failed
  pub equation_mismatch : r ≡ Mismatch → (m' : List ℕ) (d : Record) → Logs w c x.0 y.0 (answer_word 1 n) m' d → Raises m c m' n x.0 y.0 (equated.Failed d)
  equation_mismatch q m' d logs = record {
    by = λ err m₂ d₂ emits. record {
      ran = λ s e f. let h : run (equation n x.0 y.0 err) s ≡ (some false, emitted (caused err mismatch) (after s)) = rw q at (reacts e err) in
          rw h (refl, emitted_held (after s) (caused err mismatch) (λ g. noted e g m' d (answer_word 1 n) logs (numbered s e q)) emits (rw h at f));
    };
  }

  module _ (k : ℕ) (is : (s : State) → Encodes m c s → answer_word k n ≡ answer_word (answer_number (result s).0) n) where
    -- the equation is refused with k
    refused_by : ((err : TypingError) (s : State) → Encodes m c s → run (equation n x.0 y.0 err) s ≡ (none, refused k n (after s))) → (m' : List ℕ) (d : Record) → Logs w c x.0 y.0 (answer_word k n) m' d → Raises m c m' n x.0 y.0 (equated.Refused k d)
    refused_by g m' d logs = record { by = λ err. record { stopped = λ s e f. rw (g err s e) (refl, stops_with k n (after s), encodes_refused k n (noted e (fits_refused k n (after s) (rw (g err s e) at f)) m' d (answer_word k n) logs (is s e))) } }

  -- the equation is refused with 12
  pub equation_12 : r ≡ Refused12 → (m' : List ℕ) (d : Record) → Logs w c x.0 y.0 (answer_word 12 n) m' d → Raises m c m' n x.0 y.0 (equated.Refused 12 d)
  equation_12 q = refused_by 12 (λ s e. numbered s e q) (λ err s e. rw q at (reacts e err))

  -- the equation is refused with 13
  pub equation_13 : r ≡ Refused13 → (m' : List ℕ) (d : Record) → Logs w c x.0 y.0 (answer_word 13 n) m' d → Raises m c m' n x.0 y.0 (equated.Refused 13 d)
  equation_13 q = refused_by 13 (λ s e. numbered s e q) (λ err s e. rw q at (reacts e err))
