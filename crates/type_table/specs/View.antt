-- What the reading operations answer, in the enums of the code.
use Rattle.std.specs.Prelude.{List, ℕ, suc, zero, ◌+◌, eqb, None, Option as Option·R, Some}
use Rattle.std.proofs.Math.Option.{Option, none, some}
use Rattle.theory.specs.Rules.{iter}
use Rattle.type_table.specs.declared.Counts.{Counts}
use Rattle.type_table.specs.declared.TypeId.{TypeId}
use Rattle.type_table.specs.declared.VarId.{VarId}
use Rattle.type_table.specs.declared.NodeId.{NodeId}
use Rattle.type_table.specs.declared.InputRange.{InputRange}
use Rattle.type_table.specs.declared.Width.{Width}
use Rattle.type_table.specs.declared.Width.TheVariants.{W8, W16, W32, W64}
use Rattle.type_table.specs.declared.Row.{Row}
use Rattle.type_table.specs.declared.Row.TheVariants.{Bool, Uint, Int, Float, Double, Instance, Param, FnDef, Array, Nil, Error, Diverges, InferTy, Lambda, Ref}
use Rattle.type_table.specs.declared.Kind.{Kind}
use Rattle.type_table.specs.declared.Kind.TheVariants.{Regular, Integer, Float as Float-as-K}
use Rattle.type_table.specs.Memory.{pick, var_cell, head_at, number_at, output_at, first_at, count_at, binding_at}

-- the type of a number
abbrev pub type : ℕ → TypeId
type x = record { 0 = x }

-- the variable of a number
abbrev pub variable : ℕ → VarId
variable v = record { 0 = v }

-- the node of a number
abbrev pub node : ℕ → NodeId
node n = record { 0 = n }

-- k inputs from f on
abbrev pub range : ℕ → ℕ → InputRange
range f k = record { first = f; count = k }

-- the kind that a number stands for
unfoldable pub kind_code : ℕ → Kind
kind_code k = pick (eqb k 1) Integer (pick (eqb k 2) Float-as-K Regular)

-- the kind of a variable
unfoldable pub kind_in : List ℕ → Counts → VarId → Kind
kind_in m c v = kind_code (var_cell m c.vars v.0 0)

-- the origin that a number stands for: 0 is a literal, else the node plus one
abbrev pub origin_code : ℕ → Option·R NodeId
origin_code zero = None
origin_code (suc n) = Some (node n)

-- the origin of a variable
unfoldable pub origin_in : List ℕ → Counts → VarId → Option·R NodeId
origin_in m c v = origin_code (var_cell m c.vars v.0 1)

-- a binding as the code has it
abbrev pub bound_code : Option ℕ → Option·R TypeId
bound_code none = None
bound_code (some x) = Some (type x)

-- the binding of a variable
unfoldable pub bound_in : List ℕ → Counts → VarId → Option·R TypeId
bound_in m c v = bound_code (binding_at m c.vars v.0)

-- the width that a number stands for
unfoldable pub width_code : ℕ → Width
width_code a = pick (eqb a 0) W8 (pick (eqb a 1) W16 (pick (eqb a 2) W32 W64))

-- a row by its head, number, output and inputs
unfoldable pub view_of : ℕ → ℕ → TypeId → InputRange → Row
view_of h a o i =
    pick (eqb h 0) Bool
    (pick (eqb h 1) (Uint (width_code a))
    (pick (eqb h 2) (Int (width_code a))
    (pick (eqb h 3) Float
    (pick (eqb h 4) Double
    (pick (eqb h 5) (Instance (record { 0 = a }))
    (pick (eqb h 6) (Param a o i)
    (pick (eqb h 7) (FnDef (record { 0 = a }))
    (pick (eqb h 8) (Array (type a))
    (pick (eqb h 10) Error
    (pick (eqb h 11) Diverges
    (pick (eqb h 12) (InferTy (variable a))
    (pick (eqb h 13) (Lambda (node a) o i)
    (pick (eqb h 14) (Ref (type a))
    Nil)))))))))))))

-- the row x, taken apart
unfoldable pub view_in : List ℕ → Counts → TypeId → Row
view_in m c x = view_of (head_at m c.types x.0) (number_at m c.types x.0) (type (output_at m c.types x.0)) (range (first_at m c.types x.0) (count_at m c.types x.0))

-- what a row is bound to, if it is a variable
unfoldable pub onward_in : List ℕ → Counts → TypeId → Option·R TypeId
onward_in m c x = pick (eqb (head_at m c.types x.0) 12) (bound_in m c (variable (number_at m c.types x.0))) None

-- the row itself where it is not bound, else what f answers of the row that it is bound to
abbrev pub end_by : (ℕ → ℕ) → ℕ → Option·R TypeId → ℕ
end_by f x (Some y) = f y.0
end_by f x None = x

-- the end of a row's bindings, followed variable by variable, at most n of them; row d where they are more
abbrev pub end_or : List ℕ → Counts → ℕ → ℕ → ℕ → ℕ
end_or m c d n x = iter (λ (f : ℕ → ℕ) (y : ℕ). end_by f y (onward_in m c (type y))) d n x

-- row 12 (err) where they are more
abbrev pub end_from : List ℕ → Counts → ℕ → ℕ → ℕ
end_from m c n x = end_or m c 12 n x

-- the same, of as many steps as there are rows, and one more
unfoldable pub end_in : List ℕ → Counts → ℕ → ℕ
end_in m c x = end_from m c (c.types + 1) x
