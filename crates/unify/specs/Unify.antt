-- What the inner functions of unification do: as the rules, of every memory that holds its counts.
use Rattle.std.specs.Prelude.{◌≡◌, List, ℕ}
use Rattle.theory.specs.Rules.{success, Res, row, kids, split, perform, each, zip, unify}
use Rattle.type_table.specs.declared.Counts.{Counts}
use Rattle.type_table.specs.declared.TypeId.{TypeId}
use Rattle.type_table.specs.Memory.{inputs_from, Held}
use Rattle.unify.specs.declared.Answer.{Answer}
use Rattle.unify.specs.declared.Answer.TheVariants.{Success as Success-as-A, Mismatch as Mismatch-as-A, Refused12 as Refused12-as-A, Refused13 as Refused13-as-A}
use Rattle.unify.specs.declared.Reply.{Reply}
use Rattle.unify.specs.declared.Reply.TheVariants.{Success, Mismatch, Refused12, Refused13, Dry}
use Rattle.unify.specs.Leaf.{out_k}
use Rattle.unify.specs.Step.{Rec, Parted}
use Rattle.unify.specs.Promise.{Frame, kinds_in, mem_in, rows_in}

-- from the memory m to w with the answer a: that is F
abbrev pub Ran : List ℕ → Counts → List ℕ → Reply → Res → Type 0
Ran m c w a F = Frame m c w × (F ≡ (out_k a, mem_in w c))

-- how the memory's rows are unified in n steps
abbrev pub by : List ℕ → Counts → ℕ → Rec
by m c n = unify (rows_in m c) (kinds_in m c) n

-- what `uni` does: x expected, y got, in n steps
abbrev pub Unified : List ℕ → Counts → TypeId → TypeId → ℕ → List ℕ → Reply → Type 0
Unified m c x y n w a = Held m c → Ran m c w a (by m c n (mem_in m c) x.0 y.0)

-- what `into` does: the parts of x against those of y
abbrev pub Entered : List ℕ → Counts → TypeId → TypeId → ℕ → List ℕ → Reply → Type 0
Entered m c x y n w a = Held m c → Parted m c x × Parted m c y → Ran m c w a (perform (rows_in m c) (kinds_in m c) (by m c n) (mem_in m c) (split (kids (row (rows_in m c) x.0)) (kids (row (rows_in m c) y.0))))

-- what `each` does: k inputs from f on against those from g on
abbrev pub Eached : List ℕ → Counts → ℕ → ℕ → ℕ → ℕ → List ℕ → Reply → Type 0
Eached m c f g k n w a = Held m c → Ran m c w a (each (rows_in m c) (kinds_in m c) (by m c n) (zip (inputs_from m f k) (inputs_from m g k)) success (mem_in m c))

-- the answer that a result has; out of steps is never met in sound tables
abbrev pub answer_of : Reply → Answer
answer_of Success = Success-as-A
answer_of Mismatch = Mismatch-as-A
answer_of Refused12 = Refused12-as-A
answer_of Refused13 = Refused13-as-A
answer_of Dry = Refused12-as-A
