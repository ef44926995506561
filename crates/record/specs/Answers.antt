-- What the private functions leave and answer. Definitions alone.
use Rattle.std.specs.Prelude.{◌≡◌, List, [], ◌∷◌, ℕ, ◌+◌, ◌*◌, ◌<◌, get_or, set}
use Rattle.std.proofs.Math.Option.{none}
use Rattle.theory.specs.Program.{clip}
use Rattle.type_table.specs.declared.Counts.{Counts}
use Rattle.type_table.specs.Made.{Counting, pushed, push_in}
use Rattle.record.specs.declared.Record.{Record}
use Rattle.record.specs.Own.{log_at, raws_of}
use Rattle.record.specs.Steps.{or_nil}

-- ── types ──

-- the type of a node, Nil for what has none
unfoldable pub type_in : List ℕ → ℕ → ℕ
type_in m n = or_nil (get_or (raws_of m) n none)

-- inputs are pushed, one after another
unfoldable pub push_all : List ℕ → Counts → List ℕ → Counting
push_all m c [] = pushed c m
push_all m c (x ∷ xs) = push_all (push_in m c x).memory (push_in m c x).counts xs

-- ── equations ──

-- the record with one equation more
abbrev pub one_equation : Record → Record
one_equation c = record { counts = c.counts; errors = c.errors; equations = c.equations + 1; output = c.output }

-- the next equation of the log with its three cells
unfoldable pub log_written : List ℕ → Record → ℕ → ℕ → ℕ → List ℕ
log_written m c x y a =
    let i = log_at + c.equations * 3 in
    set (set (set m i (clip c.counts.types x)) (i + 1) (clip c.counts.types y)) (i + 2) a

-- an equation is logged with this third cell, where it can be counted
abbrev pub Logs : List ℕ → Record → ℕ → ℕ → ℕ → List ℕ → Record → Type 0
Logs m c x y a m' d = c.equations < 65535 → (m' ≡ log_written m c x y a) × (d ≡ one_equation c)
