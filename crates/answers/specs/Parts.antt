-- What the functions that hand back promise. Definitions alone.
use Rattle.std.specs.Prelude.{◌≡◌, List, ℕ, ◌-◌, ◌≤◌, length}
use Rattle.refs.specs.declared.Counts.{Counts}
use Rattle.record.specs.declared.Record.{Record}
use Rattle.tables.specs.Rows.{padded, Fills}
use Rattle.tables.specs.Nodes.{node_table, node_room}
use Rattle.tables.specs.Vars.{var_table, var_room}
use Rattle.tables.specs.Types.{type_table, type_room}
use Rattle.tables.specs.Log.{log_table, log_room}
use Rattle.errors.specs.declared.ErrorRow.{ErrorRow}
use Rattle.answers.specs.declared.Totals.{Totals}
use Rattle.answers.specs.declared.Answer.{Answer}
use Rattle.answers.specs.declared.Answer.TheVariants as answer
use Rattle.answers.specs.declared.Walked.{Walked}
use Rattle.answers.specs.declared.Walked.TheVariants as walked
use Rattle.answers.specs.Lent.{Lent, emptied, first_made, made_types, errors_handed, memory_ended}

-- the rows in use, by the running record
abbrev pub counted : Counts → Record → Totals
counted n c = record { declared = n; types = c.counts.types - first_made n; vars = c.counts.vars; errors = c.errors; equations = c.equations }

-- the tables behind, of the state that the memory m and the record c hold, where those before have room
pub record Filled (m : List ℕ) (c : Record) (n : Counts) (nodes vars types log nodes' vars' types' log' : List ℕ) : Type 0 where
  pub nodes_filled : Fills m c (node_room n.nodes (length nodes)) (λ s. padded (length nodes) (node_table s.own n.nodes)) nodes'
  pub vars_filled : Fills m c (var_room (length vars)) (λ s. padded (length vars) (var_table s)) vars'
  pub types_filled : n.types ≤ 512 → Fills m c (type_room (first_made n) (length types)) (λ s. type_table (length types) (made_types n s)) types'
  pub log_filled : Fills m c (log_room (length m)) (λ s. padded (length log) (log_table (length log) s.log)) log'

-- by what reading and typing gave: the answer r and the tables u, from the tables l; where nothing was read, 2 and the tables as they were
abbrev pub HandedAs : Walked → Lent → Answer → Lent → Type 0
HandedAs (walked.Typed n c) l r u =
    (r ≡ answer.Checked (counted n c)) × (u.rows ≡ l.rows) × (u.cells ≡ l.cells)
    × Filled l.memory c n l.nodes l.vars l.types l.log u.nodes u.vars u.types u.log
HandedAs (walked.Declined k c p) l r u = (r ≡ answer.Declined k p) × (u ≡ emptied l)
HandedAs (walked.Refused x k) l r u = (r ≡ answer.Refused x k) × (u ≡ emptied l)
HandedAs walked.Unread l r u = (r ≡ answer.ShortTable) × (u ≡ l)

-- the tables but the errors and the memory are handed back
pub record HandedBack (w : Walked) (l : Lent) (r : Answer) (u : Lent) : Type 0 where
  pub by : HandedAs w l r u

-- the errors e and the memory m are handed back as f and v
abbrev pub HandsErrors : Answer → List ErrorRow → List ℕ → List ErrorRow → List ℕ → Type 0
HandsErrors a e m f v = (f ≡ errors_handed a e m) × (v ≡ memory_ended a m)
