-- What the claims in proofs/Claims.antt are stated with, beside the definitions that are named there. Definitions alone.
use Rattle.std.specs.Prelude.{List, ℕ}
use Rattle.theory.specs.Program.{run}
use Rattle.theory.specs.Start.{start}
use Rattle.type_table.specs.Sound.{fixed_types}
use Rattle.refs.specs.declared.Counts.{Counts}
use Rattle.record.specs.Own.{blank}
use Rattle.record.specs.Steps.{State}
use Rattle.resolve.specs.Resolve.{type_body}

-- the state before the walk over a body whose result has the type o
abbrev pub before : ℕ → State
before o = start fixed_types (blank o)

-- the state behind it
abbrev pub after : Counts → List ℕ → List ℕ → ℕ → State
after n rows cells o = (run (type_body n rows cells) (before o)).1
