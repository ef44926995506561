-- What each return of the functions that hand back shows.
use mathlib.Core.Path.{◌≡◌, refl, ap}
use mathlib.Core.List.{List, []}
use Prim.Native.Nat.{ℕ, ◌-◌, ◌≤◌}
use lib.ListN.{length, drop}
use Rattle.type_table.specs.declared.NodeId.{NodeId}
use Rattle.refs.specs.declared.Counts.{Counts}
use Rattle.body.specs.Body.{first}
use Rattle.forms.specs.declared.Fault.{Fault}
use Rattle.record.specs.declared.Record.{Record}
use Rattle.errors.specs.declared.ErrorRow.{ErrorRow}
use Rattle.errors.specs.Rows.{row_in, filled_to}
use Rattle.tables.specs.Rows.{zeros, Fills}
use Rattle.tables.specs.Types.{type_table, type_room}
use Rattle.answers.specs.declared.Totals.{Totals}
use Rattle.answers.specs.declared.Answer.{Answer}
use Rattle.answers.specs.declared.Answer.TheVariants as answer
use Rattle.answers.specs.declared.Walked.{Walked}
use Rattle.answers.specs.declared.Walked.TheVariants as walked
use Rattle.answers.specs.Lent.{Lent, lent, emptied, first_made, made_types, errors_used, errors_end, memory_ended}
use Rattle.answers.specs.Parts.{counted, Filled, HandedBack, HandsErrors}

-- the table of made types, from the first of them on
pub made_filled : (m : List ℕ) (c : Record) (n : Counts) (f k : ℕ) (u : List ℕ) → (n.types ≤ 512 → f ≡ first_made n) → Fills m c (type_room f k) (λ s. type_table k (drop f s.rows)) u
    → n.types ≤ 512 → Fills m c (type_room (first_made n) k) (λ s. type_table k (made_types n s)) u
made_filled m c n f k u e g h = rw (e h) at g

-- a body that ends without a refusal
pub handed_typed : (w : Walked) (n : Counts) (c : Record) (l : Lent) (t : Totals) (nodes vars types log : List ℕ) → w ≡ walked.Typed n c → t ≡ counted n c
    → Filled l.memory c n l.nodes l.vars l.types l.log nodes vars types log
    → HandedBack w l (answer.Checked t) (lent l.rows l.cells nodes vars types l.errors log l.memory)
handed_typed w n c l t nodes vars types log e k f = rw e (record { by = (ap answer.Checked k, refl, refl, f) })

-- the tables u are those of l emptied, whatever the memory
abbrev Emptied : Lent → Lent → Type 0
Emptied l u = (lent u.rows u.cells u.nodes u.vars u.types [] u.log [] ≡ emptied (lent l.rows l.cells l.nodes l.vars l.types [] l.log [])) × (u.errors ≡ l.errors) × (u.memory ≡ l.memory)

-- with their errors and memory
emptied_with : (l u : Lent) → Emptied l u → u ≡ emptied l
unfolding emptied
emptied_with l u z =
    let e = z.0 in
    rw (← z.1, ← z.2, ← ap (λ (x : Lent). x.rows) e, ← ap (λ (x : Lent). x.cells) e, ← ap (λ (x : Lent). x.nodes) e, ← ap (λ (x : Lent). x.vars) e, ← ap (λ (x : Lent). x.types) e, ← ap (λ (x : Lent). x.log) e) refl

-- 10 to 13
pub handed_declined : (w : Walked) (k : ℕ) (c : Record) (p : NodeId) (l u : Lent) → w ≡ walked.Declined k c p → Emptied l u → HandedBack w l (answer.Declined k p) u
handed_declined w k c p l u e z = rw e (record { by = (refl, emptied_with l u z) })

-- 3 to 6
pub handed_refused : (w : Walked) (x : Fault) (k : ℕ) (l u : Lent) → w ≡ walked.Refused x k → Emptied l u → HandedBack w l (answer.Refused x k) u
handed_refused w x k l u e z = rw e (record { by = (refl, emptied_with l u z) })

-- 2
pub handed_unread : (w : Walked) (l : Lent) → w ≡ walked.Unread → HandedBack w l answer.ShortTable l
handed_unread w l e = rw e (record { by = (refl, refl) })

-- all tables but the errors and the memory zero
pub all_emptied : (l u : Lent) → u.rows ≡ zeros l.rows → u.cells ≡ zeros l.cells → u.nodes ≡ zeros l.nodes → u.vars ≡ zeros l.vars → u.types ≡ zeros l.types
    → u.log ≡ zeros l.log → u.errors ≡ l.errors → u.memory ≡ l.memory → u ≡ emptied l
unfolding emptied
all_emptied l u a b c d e f g h = rw (← a, ← b, ← c, ← d, ← e, ← f, ← g, ← h)

-- the errors are filled by what is in use and what is written, and the memory is ended
pub hand_law : (d : Answer) (ts : List ErrorRow) (ms : List ℕ) (n e : ℕ) (us : List ErrorRow) (vs : List ℕ) → n ≡ errors_used d → e ≡ errors_end d (length ts) → us ≡ filled_to ts (row_in ms n) e → vs ≡ memory_ended d ms
    → HandsErrors d ts ms us vs
hand_law d ts ms n e us vs p q f g = (rw (← p, ← q) f, g)
