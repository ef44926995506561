-- What a caller reads of the tables that `check` hands back on 0: all types, the kinds of the variables, their bindings and the errors. Definitions alone.
use Rattle.std.specs.Prelude.{List, ◌++◌, ℕ, take}
use Rattle.std.proofs.Math.Option.{Option}
use Rattle.theory.specs.Rules.{Shape, Kind}
use Rattle.type_table.specs.Memory.{tab}
use Rattle.type_table.specs.Sound.{fixed_types}
use Rattle.bounds.specs.Declared.{line_shape}
use Rattle.tables.specs.Read.{kinds_in, binds_in, made_at}
use Rattle.errors.specs.declared.ErrorRow.{ErrorRow}
use Rattle.answers.specs.declared.Totals.{Totals}
use Rattle.answers.specs.Lent.{Lent}

-- the fixed types, those of the `type` lines, and the made ones
abbrev pub types_held : Totals → Lent → List Shape
types_held t u = fixed_types ++ (tab (line_shape u.rows u.cells) t.declared.types ++ tab (made_at u.types) t.types)

-- KIND of each variable
abbrev pub kinds_held : Totals → Lent → List Kind
kinds_held t u = kinds_in u.vars t.vars

-- BOUND of each variable
abbrev pub binds_held : Totals → Lent → List (Option ℕ)
binds_held t u = binds_in u.vars t.vars

-- the rows of errors in use, the oldest first
abbrev pub errors_held : Totals → Lent → List ErrorRow
errors_held t u = take t.errors u.errors
