-- Of Causes: the theorems that rest on a declaration which an edit of a definition in specs/ refuses. The definitions and the other theorems stand in
-- specs/Causes.antt. Assumes nothing.
use Rattle.std.specs.Prelude.{refl, List, ℕ, eqb, length}
use Rattle.std.proofs.Common.{sym, ap, subst, ◌∙◌}
use Rattle.std.proofs.Math.Option.{Option}
use Rattle.theory.specs.Rules.{mismatch}
use Rattle.theory.specs.Program.{done, refuse, draw, intern, equate, emit, mark, read, write, clip, drawn, emitted, written, refused, marking, interned, solved, run}
use Rattle.theory.specs.Start.{start}
use Rattle.refs.specs.declared.Counts.{Counts}
use Rattle.record.specs.Steps.{State, Walk}
use Rattle.resolve.specs.Resolve.{body_with}
use Rattle.resolve.specs.Body.{last_state}
use Rattle.well_formed.specs.Good.{WellFormed}
use Rattle.nodes.specs.Nodes.{fn_line}
use Rattle.record.specs.Own.{blank}
use Rattle.bounds.specs.Declared.{behind_types, body_behind}
use Rattle.bounds.specs.Confined.{Names, IsConfined, Any, any_numbers, any_state, any_known}
use Rattle.bounds.proofs.ConfinedWalk.{behind_types_confined}
use Rattle.bounds.specs.Raised.{interned_log}
use Rattle.bounds.specs.InRows.{InRows, declared_state}
use Rattle.bounds.proofs.InRows.{body_in_rows}
use Rattle.bounds.specs.Causes.{Caused, clip_row, interned_errs, own_more, react_caused}

-- ── a run ──

-- a program whose equations are of rows and whose errors are such as Confined says
run_caused : {A : Type 0} (N : Counts) (p : Walk A) → IsConfined N any_numbers Any p → (s : State) → InRows p s → Caused s.errs s.log → Caused (run p s).1.errs (run p s).1.log
unfolding run IsConfined InRows drawn emitted written refused marking
run_caused N (done a) c s i h = h
run_caused N (refuse k n) c s i h = h
run_caused N (draw k o f) c s i h = run_caused N (f (length s.rows)) (c.1 (length s.rows) tt) (drawn k o s) i h
run_caused N (intern t f) c s i h = run_caused N (f (interned t s).0) (c.3 (interned t s).0 tt) (interned t s).1 i.1 (rw (interned_errs t s, interned_log t s) h)
run_caused N (equate n x y e f) c s i h =
    let a = clip (length s.rows) x in
    let b = clip (length s.rows) y in
    let p : Names a b (e mismatch) = record { cause = c.5.cause; expected = c.5.expected ∙ sym (clip_row (length s.rows) x i.0); got = c.5.got ∙ sym (clip_row (length s.rows) y i.1) } in
    react_caused n a b (solved a b s) (solved a b s).0 refl e (λ d t. run (f d) t) (λ d t. InRows (f d) t) s p h i.2 (λ d t. run_caused N (f d) (c.4 d) t)
run_caused N (emit e p) c s i h = run_caused N p c.0 (emitted e s) i (own_more s.errs s.log h e (ap (λ (k : ℕ). eqb k 1) c.1))
run_caused N (mark v p) c s i h = run_caused N p c (marking v s) i h
run_caused N (read f) c s i h = run_caused N (f s) (c s (any_state s)) s i.1 h
run_caused N (write o p) c s i h = run_caused N p c.1 (written o s) i h

-- so a body
pub body_caused : (n : Counts) (rows cells : List ℕ) → WellFormed n rows cells → let t = last_state n rows cells in Caused t.errs t.log
unfolding start
body_caused n rows cells w =
    subst (λ (r : Option (Unit {0}) × State). Caused r.1.errs r.1.log) (sym (body_behind n rows cells w (blank (fn_line rows cells).output.0)))
    (run_caused n (behind_types n rows cells) (behind_types_confined n rows cells w (any_known n (body_with n rows cells))).by (declared_state n rows cells) (body_in_rows n rows cells w) tt)
