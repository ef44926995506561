-- What the answers of the rules' functions say of their programs. Definitions alone.
use Rattle.std.specs.Prelude.{List, ℕ, Err, Ok, Result}
use Rattle.std.proofs.Math.Option.{Option, none, some}
use Rattle.nodes.specs.declared.Callee.{Callee}
use Rattle.nodes.specs.declared.Body.{Body as LentBody}
use Rattle.nodes.specs.Nodes.{Body}
use Rattle.record.specs.declared.Record.{Record}
use Rattle.record.specs.Steps.{Walk}
use Rattle.record.specs.Encodes.{Runs}
use Rattle.type_table.specs.declared.DefId.{DefId}
use Rattle.type_table.specs.declared.TypeId.{TypeId}

-- a body with these tables and so many binds
abbrev pub tables : List ℕ → List ℕ → ℕ → Body
tables rows cells binds = record { rows = rows; cells = cells; binds = binds }

-- the body that is lent
abbrev pub lent : LentBody → Body
lent b = tables b.rows.now b.cells.now b.binds

-- by the answer
abbrev IndexesBy : List ℕ → Record → List ℕ → Result TypeId Record → Walk (Option ℕ) → Type 0
IndexesBy m c m' (Ok e) p = Runs m c m' c p (some e.0)
IndexesBy m c m' (Err d) p = Runs m c m' d p none

-- an element, or an error
pub record Indexes (m : List ℕ) (c : Record) (m' : List ℕ) (r : Result TypeId Record) (p : Walk (Option ℕ)) : Type 0 where
  pub by : IndexesBy m c m' r p

-- by the answer
abbrev CallsBy : List ℕ → Record → List ℕ → Result (Callee × TypeId) Record → Walk (Option (Callee × ℕ)) → Type 0
CallsBy m c m' (Ok (f, o)) p = Runs m c m' c p (some (f, o.0))
CallsBy m c m' (Err d) p = Runs m c m' d p none

-- a callee with its output, or none
pub record Calls (m : List ℕ) (c : Record) (m' : List ℕ) (r : Result (Callee × TypeId) Record) (p : Walk (Option (Callee × ℕ))) : Type 0 where
  pub by : CallsBy m c m' r p

-- by the answer
abbrev FindsBy : List ℕ → Record → List ℕ → Result DefId Record → Walk (Option ℕ) → Type 0
FindsBy m c m' (Ok d) p = Runs m c m' c p (some d.0)
FindsBy m c m' (Err d) p = Runs m c m' d p none

-- a method, or none
pub record Finds (m : List ℕ) (c : Record) (m' : List ℕ) (r : Result DefId Record) (p : Walk (Option ℕ)) : Type 0 where
  pub by : FindsBy m c m' r p
