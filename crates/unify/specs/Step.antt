-- One step of unification in the memory: what is left to do, and what stays as it was.
use Rattle.std.specs.Prelude.{◌≡◌, List, ◌∷◌, Bool, true, false, not, ◌&&◌, ℕ, eqb, None, Option, Some}
use Rattle.std.proofs.Math.Option.{some}
use Rattle.theory.specs.Rules.{Shape, Mem, Res, row, as_var, kids, bound, is_same, signed, mismatch, fits, kind, left, exchanged, roles, split, act, perform, move, other, heed, chase, settle}
use Rattle.theory.specs.Rules.{Kind as KindT}
use Rattle.type_table.specs.declared.Counts.{Counts}
use Rattle.type_table.specs.declared.TypeId.{TypeId}
use Rattle.type_table.specs.declared.VarId.{VarId}
use Rattle.type_table.specs.Memory.{pick, head_at, number_at, output_at, first_at, count_at, inputs_from, mark_at, Held}
use Rattle.type_table.specs.Made.{marking}
use Rattle.type_table.specs.View.{type}
use Rattle.unify.specs.declared.Reply.{Reply}
use Rattle.unify.specs.declared.Next.{Next}
use Rattle.unify.specs.declared.Next.TheVariants.{Done, On, Into}
use Rattle.unify.specs.Leaf.{out_k}
use Rattle.search.specs.Search.{seek_in}
use Rattle.unify.specs.Promise.{Frame, kinds_in, mem_in, row_in, rows_in}

-- how two rows are unified further on
abbrev pub Rec : Type 0
Rec = Mem → ℕ → ℕ → Res

-- what is left to do, done by rec
abbrev pub resume : List Shape → List KindT → Rec → Mem → Next → Res
resume rows kinds rec m (Done a) = (out_k a, m)
resume rows kinds rec m (On x y) = rec m x.0 y.0
resume rows kinds rec m (Into x y) = perform rows kinds rec m (split (kids (row rows x.0)) (kids (row rows y.0)))

-- the row is made of an output and inputs
abbrev pub Parted : List ℕ → Counts → TypeId → Type 0
Parted m c x = kids (row_in m c x) ≡ output_at m c.types x.0 ∷ inputs_from m (first_at m c.types x.0) (count_at m c.types x.0)

-- what is to be entered is made of an output and inputs
abbrev pub Enterable : List ℕ → Counts → Next → Type 0
Enterable m c (Done a) = Unit {0}
Enterable m c (On x y) = Unit {0}
Enterable m c (Into x y) = Parted m c x × Parted m c y

-- from the memory m to w: what the rules do is what r leaves to do
pub record Went (m : List ℕ) (c : Counts) (w : List ℕ) (r : Next) (F : Rec → Res) : Type 0 where
  pub frame : Frame m c w
  pub left_over : (rec : Rec) → F rec ≡ resume (rows_in m c) (kinds_in m c) rec (mem_in w c) r
  pub enterable : Enterable w c r

-- what `settle` does: an open variable against a row
abbrev pub Settled : List ℕ → Counts → VarId → TypeId → List ℕ → Reply → Type 0
Settled m c v z w a = Held m c → Frame m c w × (settle (mem_in m c) v.0 z.0 (seek_in m c v.0 z.0) ≡ (out_k a, mem_in w c))

-- what `chase` does: a variable against a row, by its binding
abbrev pub Chased : List ℕ → Counts → VarId → TypeId → List ℕ → Next → Type 0
Chased m c v z w r = Held m c → Went m c w r (λ rec. chase (rows_in m c) (kinds_in m c) rec (mem_in m c) v.0 z.0 (bound (mem_in m c).binds v.0))

-- a marked variable against a row: what the rules do, the tests before passed
abbrev pub Heeded : List ℕ → Counts → VarId → TypeId → List ℕ → Next → Type 0
Heeded m c v z w r = Held m c → mark_at m c.vars v.0 ≡ true → Went m c w r (λ rec. heed (rows_in m c) (kinds_in m c) rec (mem_in m c) v.0 z.0 (not (signed (row_in m c z))))

-- a marked variable may not meet the row
unfoldable pub unsigned_in : List ℕ → Counts → VarId → TypeId → Bool
unsigned_in m c v z = mark_at m c.vars v.0 && not (signed (row_in m c z))

-- the memory once a marked variable has passed its mark on, if the row is that of a variable
unfoldable pub passed_in : List ℕ → Counts → VarId → TypeId → List ℕ
passed_in m c v z = pick (mark_at m c.vars v.0) (pick (eqb (head_at m c.types z.0) 12) (marking m c.vars (number_at m c.types z.0)) m) m

-- what `meet` does: a variable against a row of its kind
abbrev pub Met : List ℕ → Counts → VarId → TypeId → List ℕ → Next → Type 0
Met m c v z w r = Held m c → Went m c w r (λ rec. other (rows_in m c) (kinds_in m c) rec (mem_in m c) v.0 z.0 (is_same v.0 (as_var (row_in m c z))))

-- step 3 of the rows x, expected, and z, got: the variable of the step is that of x, or that of z where the roles are exchanged
abbrev pub third_step : List ℕ → Counts → TypeId → TypeId → Rec → Res
third_step m c x z rec = perform (rows_in m c) (kinds_in m c) rec (mem_in m c) (act x.0 z.0 (row_in m c x) (row_in m c z) (roles (exchanged (kinds_in m c) (as_var (row_in m c x)) (as_var (row_in m c z))) left))

-- what `roles` answers: the variable v of step 3 and the row y that it meets, the kind test passed; or the mismatch of a test that failed
abbrev pub HasRoles : List ℕ → Counts → TypeId → TypeId → Option (VarId × TypeId) → Type 0
HasRoles m c x z (Some (v, y)) = (rec : Rec) → third_step m c x z rec ≡ other (rows_in m c) (kinds_in m c) rec (mem_in m c) v.0 y.0 (is_same v.0 (as_var (row_in m c y)))
HasRoles m c x z None = (rec : Rec) → third_step m c x z rec ≡ (mismatch, mem_in m c)

-- what `exchange` answers: the same, where the row x is that of a variable whose kind test against the row z fails
abbrev pub Exchanges : List ℕ → Counts → TypeId → TypeId → Option (VarId × TypeId) → Type 0
Exchanges m c x z r = (v : ℕ) → as_var (row_in m c x) ≡ some v → fits (kinds_in m c) (kind (kinds_in m c) v) (row_in m c z) ≡ false → HasRoles m c x z r

-- what `variable` does: step 3
abbrev pub Varied : List ℕ → Counts → TypeId → TypeId → List ℕ → Next → Type 0
Varied m c x z w r = Held m c → Went m c w r (third_step m c x z)

-- two arrays go on with their elements, a function and a lambda with their parts
unfoldable pub down_to : List ℕ → Counts → TypeId → TypeId → Next
down_to m c x y = pick (eqb (head_at m c.types x.0) 8 && eqb (head_at m c.types y.0) 8) (On (type (number_at m c.types x.0)) (type (number_at m c.types y.0))) (Into x y)

-- what `step` does: one step of the rules
abbrev pub Stepped : List ℕ → Counts → TypeId → TypeId → List ℕ → Next → Type 0
Stepped m c x y w r = Held m c → Went m c w r (λ rec. perform (rows_in m c) (kinds_in m c) rec (mem_in m c) (move (rows_in m c) (kinds_in m c) x.0 y.0))
