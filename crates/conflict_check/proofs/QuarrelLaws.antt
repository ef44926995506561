-- What the functions of this crate show when they return, over plain variables. Assumes nothing.
use mathlib.Core.Path.{◌≡◌, refl, sym, ap, ◌∙◌, fun_ext}
use mathlib.Core.Logic.{inl, inr}
use mathlib.Core.List.{List, []}
use mathlib.Core.Option.{Option, none, some}
use mathlib.Core.Bool.{Bool, true, false, cond}
use Prim.Native.Nat.{ℕ, ◌+◌, ◌*◌, ◌≤◌, ◌<◌}
use native.Mathlib.Omega.{arith}
use lib.ListN.{length, replicate, length-replicate}
use lib.Dec.{ltb}
use Rattle.theory.specs.Program.{Equation}
use Rattle.theory.specs.Basics.{All, all_map, clash, eqb-true}
use Rattle.theory.specs.Demand.{Claim}
use Rattle.type_table.specs.declared.Counts.{Counts as TypeCounts}
use Rattle.refs.specs.declared.Counts.{Counts}
use Rattle.nodes.specs.Nodes.{fn_line}
use Rattle.body.specs.declared.Answer.TheVariants as reading
use Rattle.body.specs.Body.{most_bytes}
use Rattle.record.specs.declared.Record.{Record}
use Rattle.record.specs.Own.{log_at, errors_at, error_cell, error_at}
use Rattle.record.specs.Steps.{State}
use Rattle.record.specs.Encodes.{Encodes}
use Rattle.errors.specs.declared.ErrorRow.{ErrorRow}
use Rattle.errors.specs.Rows.{row_in, zero_row}
use Rattle.bounds.proofs.Claims.{equations_bound, equations_at_nodes, answered_0}
use Rattle.answers.specs.declared.Answer.{Answer}
use Rattle.answers.specs.declared.Answer.TheVariants as answer
use Rattle.answers.specs.Lent.{Lent, lent, too_short, Held, held, lent_with, handed_with, errors_handed, memory_ended, memory_length}
use Rattle.answers.specs.Lengths.{not_short}
use Rattle.answers.specs.Parts.{HandsErrors}
use Rattle.checker.specs.Check.{reading_of, check_of}
use Rattle.checker.specs.File.{equations_in, types_in, kinds_in}
use Rattle.checker.specs.Answers.{read_well_formed}
use Rattle.checker.specs.Parts.{TablesChecked, EndedAs, WalkChecked}
use Rattle.checker.specs.declared.Ended.{Ended}
use Rattle.conflict_theory.specs.Worked.{None13}
use Rattle.conflict_theory.specs.Thirteen.{ZeroOr12}
use Rattle.conflict_set.specs.declared.Sought.{Sought}
use Rattle.conflict_set.specs.declared.Outcome.{Outcome}
use Rattle.conflict_set.specs.declared.Outcome.TheVariants as outcome
use Rattle.conflict_set.specs.In.{Whole, Kept}
use Rattle.conflict_set.specs.Text.{Told as OutcomeTold, told as outcomeTold, told_of, conflict_text, text_of, ConflictBy}
use Rattle.conflict_set.specs.Claims as claims
use Rattle.conflict_check.specs.declared.Quarreled.{Quarreled}
use Rattle.conflict_check.specs.declared.Quarreled.TheVariants.{Refused, Written, Nothing, NoRoom}
use Rattle.conflict_check.specs.Quarrel.{checked_answer, is_open, quarreled_by, Said, said, said_by, told, quarrel_text, quarrel_of}
use Rattle.conflict_check.specs.Answered.{last_of, state_claim, state_calm, state-is}
use Rattle.conflict_check.specs.Parts.{Refuses, Finds, ConflictIf, ConflictAs, TablesQuarreled}

-- ── by the answer ──

pub refuses : (a : Answer) (x : List ℕ) (o : Outcome) (y : List ℕ) → outcomeTold o y ≡ told_of none x → Refuses a x (Refused a) y
unfolding told_of
refuses a x o y e = record { by = ap (λ (w : OutcomeTold). said (Refused a) w.bytes) e }

pub finds : (a : Answer) (c : Record) (sought : Sought) (m x w : List ℕ) (o : Outcome) (r : Quarreled) (y : List ℕ) → ConflictBy m c.counts c.equations sought x w o y → r ≡ quarreled_by a o → Finds a c sought m x w r y
finds a c sought m x w o r y f e = record { by = λ h k. let g = f.by h k in (g.0, rw e (ap (λ (t : OutcomeTold). said (quarreled_by a t.answer) t.bytes) g.1)) }

pub as_open : (a b : Answer) (c : Record) (sought : Sought) (m x w : List ℕ) (r : Quarreled) (y : List ℕ) → a ≡ b → is_open b ≡ true → Finds b c sought m x w r y → ConflictAs a c sought m x w r y
as_open a b c sought m x w r y e o q = record { by = rw (e, o) q }

pub as_shut : (a b : Answer) (c : Record) (sought : Sought) (m x : List ℕ) (r : Quarreled) (y : List ℕ) → a ≡ b → is_open b ≡ false → Refuses b x r y → ConflictAs a c sought m x m r y
as_shut a b c sought m x r y e o q = record { by = rw (e, o) (q, refl) }

-- ── the errors of the walk stay ──

error_kept : (m w : List ℕ) (i : ℕ) → ((k : ℕ) → k < 9 → error_cell w i k ≡ error_cell m i k) → error_at w i ≡ error_at m i
unfolding error_at
error_kept m w i f = rw (f 0 (omega arith), f 1 (omega arith), f 2 (omega arith), f 3 (omega arith), f 4 (omega arith), f 5 (omega arith), f 6 (omega arith), f 7 (omega arith), f 8 (omega arith)) refl

rows-kept : (m : List ℕ) (c : TypeCounts) (w : List ℕ) → Whole m c → Kept m c w → (n : ℕ) → row_in w n ≡ row_in m n
unfolding row_in
rows-kept m c w h k n = fun_ext (λ i. rw (error_kept m w i (λ j l. k.same (errors_at + i * 9 + j) (λ v d a b e q. omega (arith, h.vars)))) refl)

-- what is handed back with the errors does not depend on bindings and marks
handed_kept : (m w : List ℕ) (c : TypeCounts) → Whole m c → Kept m c w → (a : Answer) → is_open a ≡ true → (e : List ErrorRow) → (errors_handed a e w ≡ errors_handed a e m) × (memory_ended a w ≡ memory_ended a m)
handed_kept m w c h k (answer.Checked t) o e = (rw (rows-kept m c w h k t.errors) refl, rw k.size refl)
handed_kept m w c h k answer.TooLong o e = clash (cc)
handed_kept m w c h k answer.ShortTable o e = clash (cc)
handed_kept m w c h k (answer.Refused x l) o e = clash (cc)
handed_kept m w c h k (answer.Declined j p) o e = (rw (rows-kept m c w h k 0) refl, rw k.size refl)

-- the tables u with another memory
abbrev pub with_memory : Lent → List ℕ → Lent
with_memory u w = lent u.rows u.cells u.nodes u.vars u.types [] u.log w

-- ── an answer that f) goes on behind ──

-- its walk ended in 0 or 12, and the memory holds the state in which it did
abbrev Open : List ℕ → Record → List ℕ → Type 0
Open s c m = (n : Counts) × ((reading_of s).answer ≡ reading.Body n) × Encodes m c (last_of s n) × ZeroOr12 (last_of s n).stop

open_ended : (s : List ℕ) (a : Answer) (c : Record) (m : List ℕ) → is_open a ≡ true → EndedAs s a c m → Open s c m
open_ended s (answer.Checked t) c m o e = (e.0, e.1, e.2.1, inl (answered_0 e.0 (reading_of s).rows (reading_of s).cells e.2.0))
open_ended s answer.TooLong c m o e = clash (cc)
open_ended s answer.ShortTable c m o e = clash (cc)
open_ended s (answer.Refused x l) c m o e = clash (cc)
open_ended s (answer.Declined k p) c m o e = (e.0, e.1, e.2.2, inr (p.0, e.2.1 ∙ ap (λ (i : ℕ). some (i, p.0)) (eqb-true k 12 o)))

-- its tables have their lengths
open_long : (s : List ℕ) (n : ℕ) (l : Lent) (a : Answer) (u : Lent) → is_open a ≡ true → TablesChecked s n l a u → memory_length ≤ length l.memory
unfolding check_of
open_long s n l a u o t = by (too_short full) refl
  where
    full : Lent
    full = lent_with (replicate n zero_row) l

    is : a ≡ (check_of s full).answer
    is = ap (λ (h : Held). h.answer) (t.with_errors_lem (replicate n zero_row) (length-replicate {A = ErrorRow} n zero_row))

    shut : (b : Bool) → a ≡ (cond b (held answer.TooLong full) (held answer.ShortTable full)).answer → ⊥
    shut true e = let z = rw e at o in clash (cc)
    shut false e = let z = rw e at o in clash (cc)

    by : (b : Bool) → too_short full ≡ b → memory_length ≤ length l.memory
    by false e = (not_short full e).memory
    by true e = absurd (shut (ltb most_bytes (length s)) (rw e at is))

-- ── the file ──

-- Check's answer behind `said_by`
said_answer : (b : Bool) (a : Answer) (t : Option (List ℕ)) (x : List ℕ) → checked_answer (said_by b a t x).answer ≡ a
said_answer false a t x = refl
said_answer true a t x = by (told_of t x).answer
  where
    by : (o : Outcome) → checked_answer (quarreled_by a o) ≡ a
    by (outcome.Written n) = refl
    by outcome.Nothing = refl
    by outcome.NoRoom = refl

-- what was said, and the tables of the check
quarrel_as : (s : List ℕ) (sought : Sought) (l m : Lent) (x : List ℕ) (a : Answer) (r : Quarreled) (y : List ℕ) → held a m ≡ check_of s l → said r y ≡ said_by (is_open a) a (quarrel_text sought s) x → told r m y ≡ quarrel_of s sought l x
unfolding quarrel_of
quarrel_as s sought l m x a r y p q = rw (← p) (ap (λ (w : Said). told w.answer m w.output) q)

module _ (s : List ℕ) (n : ℕ) (sought : Sought) (l : Lent) (x : List ℕ) (e : Ended) (u : Lent) (checked : WalkChecked s n l e u) (size : length u.memory ≡ length l.memory) (w : List ℕ) (r : Quarreled) (y : List ℕ) where
  -- on 0 and 12
  module _ (o : is_open e.answer ≡ true) (f : Finds e.answer e.record sought u.memory x w r y) where
    ended : Open s e.record u.memory
    ended = open_ended s e.answer e.record u.memory o checked.ended

    -- the state in which it ended
    abbrev last : State
    last = last_of s ended.0

    claim : Claim last.rows last.kinds last.mem.binds last.log
    claim = state_claim ended.0 (reading_of s).rows (reading_of s).cells

    calm : None13 last.log
    calm = state_calm ended.0 (reading_of s).rows (reading_of s).cells ended.3

    few : length last.log ≤ 2048
    few =
        let g = read_well_formed s ended.0 ended.1 in
        omega (arith, equations_bound ended.0 (reading_of s).rows (reading_of s).cells g (fn_line (reading_of s).rows (reading_of s).cells).output.0, g.limited.nodes)

    placed : All (λ (q : Equation). q.node < 4096) last.log
    placed =
        let g = read_well_formed s ended.0 ended.1 in
        all_map (λ (q : Equation). q.node < ended.0.nodes) (λ (q : Equation). q.node < 4096) last.log (λ q h. omega (arith, h, g.limited.nodes)) (equations_at_nodes ended.0 (reading_of s).rows (reading_of s).cells g)

    room : log_at + length last.log * 3 ≤ length u.memory
    room = omega (arith, few, open_long s n l e.answer u o checked.tables, size)

    whole : Whole u.memory e.record.counts
    whole = claims.whole u.memory e.record last ended.2 room claim calm placed

    found : Kept u.memory e.record.counts w × (said r y ≡ said_by true e.answer (conflict_text u.memory e.record.counts e.record.equations sought) x)
    found = f.by whole (omega (arith, few, ended.2.equations))

    text : conflict_text u.memory e.record.counts e.record.equations sought ≡ quarrel_text sought s
    text = claims.text_is u.memory e.record last ended.2 room claim calm placed sought ∙ sym (ap (λ (z : Option State). text_of sought (types_in z) (kinds_in z) (equations_in z)) (state-is s ended.0 ended.1))

    said_open : said r y ≡ said_by (is_open e.answer) e.answer (quarrel_text sought s) x
    said_open = rw o (found.1 ∙ ap (λ t. said_by true e.answer t x) text)

    tables_open : (d : List ErrorRow) → length d ≡ n → held e.answer (handed_with e.answer d (with_memory u w)) ≡ check_of s (lent_with d l)
    tables_open d z = let h = handed_kept u.memory w e.record.counts whole found.0 e.answer o d in rw (h.0, h.1) (checked.tables.with_errors_lem d z)

  -- with any table of errors
  joined : (v : Lent) → said r y ≡ said_by (is_open e.answer) e.answer (quarrel_text sought s) x → ((d : List ErrorRow) → length d ≡ n → held e.answer (handed_with e.answer d v) ≡ check_of s (lent_with d l))
      → TablesQuarreled s n sought l x r v y
  joined v q t = record {
    with_errors_lem = λ d z.
        let c : checked_answer r ≡ e.answer = ap (λ (w' : Said). checked_answer w'.answer) q ∙ said_answer (is_open e.answer) e.answer (quarrel_text sought s) x in
        rw c (quarrel_as s sought (lent_with d l) (handed_with e.answer d v) x e.answer r y (t d z) q);
  }

  -- by the answer
  pub tables_law : ConflictAs e.answer e.record sought u.memory x w r y → TablesQuarreled s n sought l x r (with_memory u w) y
  tables_law a = by (is_open e.answer) refl a.by
    where
      by : (b : Bool) → is_open e.answer ≡ b → ConflictIf b e.answer e.record sought u.memory x w r y → TablesQuarreled s n sought l x r (with_memory u w) y
      by true o h = joined (with_memory u w) (said_open o h) (tables_open o h)
      by false o h = joined (with_memory u w) (rw o h.0.by) (λ d z. rw h.1 (checked.tables.with_errors_lem d z))

-- with the errors and the memory that are handed back
pub quarrel_law : (s : List ℕ) (e : List ErrorRow) (sought : Sought) (l : Lent) (o : List ℕ) (r : Quarreled) (u : Lent) (x : List ℕ) (d : Answer) (f : List ErrorRow) (v : List ℕ) → TablesQuarreled s (length e) sought l o r u x
    → d ≡ checked_answer r → HandsErrors d e u.memory f v → told r (lent u.rows u.cells u.nodes u.vars u.types f u.log v) x ≡ quarrel_of s sought (lent_with e l) o
quarrel_law s e sought l o r u x d f v p k h = rw (h.0, h.1, k) (p.with_errors_lem e refl)
