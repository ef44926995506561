-- What the leaves answer: the kind test, the mark's test, the choice of the step, step 1's comparison.
use Rattle.std.specs.Prelude.{◌≡◌, List, Bool, cond, ℕ, ◌+◌, eqb, ltb}
use Rattle.theory.specs.Rules.{Step, same, compare, left, right, down, swap, differ, Out, success, mismatch, refused12, refused13, dry, as_var, fits, kind_fits, signed, is_same, alike, regular, integer, floating}
use Rattle.theory.specs.Rules.{Kind as KindT}
use Rattle.type_table.specs.declared.Counts.{Counts}
use Rattle.type_table.specs.declared.TypeId.{TypeId}
use Rattle.type_table.specs.declared.VarId.{VarId}
use Rattle.type_table.specs.declared.Kind.{Kind}
use Rattle.type_table.specs.declared.Kind.TheVariants.{Regular, Integer, Float}
use Rattle.type_table.specs.Memory.{pick}
use Rattle.unify.specs.declared.Decision.{Decision}
use Rattle.unify.specs.declared.Decision.TheVariants.{Same, Compare, Left, Right, Down, Swap, Differ}
use Rattle.unify.specs.declared.Reply.{Reply}
use Rattle.unify.specs.declared.Reply.TheVariants.{Success, Mismatch, Refused12, Refused13, Dry}
use Rattle.unify.specs.Promise.{kinds_in, row_in}

-- a kind as the rules name it
abbrev pub kind_k : Kind → KindT
kind_k Regular = regular
kind_k Integer = integer
kind_k Float = floating

-- an inner answer as the rules name it
abbrev pub out_k : Reply → Out
out_k Success = success
out_k Mismatch = mismatch
out_k Refused12 = refused12
out_k Refused13 = refused13
out_k Dry = dry

-- a step as the rules name it
abbrev pub step_k : Decision → Step
step_k Same = same
step_k Compare = compare
step_k Left = left
step_k Right = right
step_k Down = down
step_k Swap = swap
step_k Differ = differ

-- a row's class decides every kind test against it
abbrev pub Classed : List ℕ → Counts → TypeId → Kind → Type 0
Classed m c z r = (k : KindT) → fits (kinds_in m c) k (row_in m c z) ≡ kind_fits k (kind_k r)

-- a marked variable may meet the row
abbrev pub Signed : List ℕ → Counts → TypeId → Bool → Type 0
Signed m c z r = r ≡ signed (row_in m c z)

-- the row is that of v
abbrev pub SameVar : List ℕ → Counts → VarId → TypeId → Bool → Type 0
SameVar m c v z r = r ≡ is_same v.0 (as_var (row_in m c z))

-- the answer of step 1
abbrev pub Compared : List ℕ → Counts → TypeId → TypeId → Reply → Type 0
Compared m c x y r = out_k r ≡ cond (alike (row_in m c x) (row_in m c y)) success mismatch

-- a width, 3 for 64 bits
abbrev pub cap : ℕ → ℕ
cap a = pick (ltb a 3) a 3

-- a number for each type that step 1 compares, and 0 for every other head
unfoldable pub code : ℕ → ℕ → ℕ
code h a =
    pick (eqb h 0) 1
    (pick (eqb h 1) (cap a + 2)
    (pick (eqb h 2) (cap a + 6)
    (pick (eqb h 3) 10
    (pick (eqb h 4) 11
    (pick (eqb h 5) (a + 13)
    (pick (eqb h 9) 12
    0))))))
