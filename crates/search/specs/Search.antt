-- The search for a variable inside a row: the queue of rows that were seen, and what the search answers.
use Rattle.std.specs.Prelude.{◌≡◌, ◌≢◌, List, [], ◌∷◌, Bool, true, false, ◌||◌, ℕ, suc, ◌+◌, get_or, set, length, eqb, leb}
use Rattle.std.proofs.Math.Option.{Option, none, some}
use Rattle.theory.specs.Rules.{Shape, row, as_var, next, bound, leads, far, seek}
use Rattle.theory.specs.Rules.{Found as FoundT, free, ring, inside, lost}
use Rattle.type_table.specs.declared.Counts.{Counts}
use Rattle.type_table.specs.declared.TypeId.{TypeId}
use Rattle.type_table.specs.declared.VarId.{VarId}
use Rattle.type_table.specs.Memory.{pick, most_types, head_at, number_at, output_at, first_at, count_at, inputs_from, rows_of, binds_of, Held}
use Rattle.search.specs.declared.Found.{Found}
use Rattle.search.specs.declared.Found.TheVariants.{Free, Ring, Inside, Lost}
use Rattle.search.specs.declared.Queue.{Queue}
use Rattle.search.specs.declared.Lead.{Lead}
use Rattle.search.specs.declared.Lead.TheVariants.{At, End, Parts, To}

-- the type rows in a memory
abbrev pub rows_in : List ℕ → Counts → List Shape
rows_in m c = rows_of m c.types

-- the row x
abbrev pub row_in : List ℕ → Counts → TypeId → Shape
row_in m c x = row (rows_in m c) x.0

-- a queue by its parts
abbrev pub queue : List ℕ → ℕ → Queue
queue q t = record { cells = q; tail = t }

-- a row, of n, is queued, unless it was
unfoldable pub push_f : ℕ → Queue → ℕ → Queue
push_f n s y =
    pick (leb n y) s
    (pick (leb most_types y) s
    (pick (eqb (get_or s.cells y 0) 0)
    (pick (leb most_types s.tail) s (queue (set (set s.cells y 1) (most_types + s.tail) y) (s.tail + 1)))
    s))

-- rows one after another
unfoldable pub push_all : ℕ → Queue → List ℕ → Queue
push_all n s [] = s
push_all n s (y ∷ ys) = push_all n (push_f n s y) ys

-- what a row is made of, by its head
unfoldable pub parts : List ℕ → Counts → TypeId → List ℕ
parts m c x =
    let h = head_at m c.types x.0 in
    pick (eqb h 6 || eqb h 13) (output_at m c.types x.0 ∷ inputs_from m (first_at m c.types x.0) (count_at m c.types x.0))
    (pick (eqb h 8 || eqb h 14) (number_at m c.types x.0 ∷ []) [])

-- the bindings in a memory
abbrev pub binds_in : List ℕ → Counts → List (Option ℕ)
binds_in m c = binds_of m c.vars

-- where the row x leads
abbrev pub next_in : List ℕ → Counts → ℕ → List ℕ
next_in m c x = next (rows_in m c) (binds_in m c) x

-- whether the row x leads to v in fewer than n steps
abbrev pub leads_in : List ℕ → Counts → ℕ → ℕ → ℕ → Bool
leads_in m c v n x = leads (rows_in m c) (binds_in m c) v n x

-- what `visit` does: the row is the variable's, or where it leads is queued
abbrev pub Visited : List ℕ → Counts → VarId → TypeId → Queue → Queue → Bool → Type 0
Visited m c v x s w true = as_var (row_in m c x) ≡ some v.0
Visited m c v x s w false = (as_var (row_in m c x) ≢ some v.0) × (w ≡ push_all c.types s (next_in m c x.0))

-- by the answer
abbrev pub ReachedK : List ℕ → Counts → VarId → TypeId → Bool → Type 0
ReachedK m c v z true = leads_in m c v.0 (suc c.types) z.0 ≡ true
ReachedK m c v z false = (n : ℕ) → leads_in m c v.0 n z.0 ≡ false

-- v is led to in as many steps as there are rows, or not at all
abbrev pub Reached : List ℕ → Counts → VarId → TypeId → Bool → Type 0
Reached m c v z r = Held m c → ReachedK m c v z r

-- what `leads_var` answers, of the variable u
abbrev pub LedVar : List ℕ → Counts → VarId → VarId → Lead → Type 0
LedVar m c v u At = u.0 ≡ v.0
LedVar m c v u End = (u.0 ≢ v.0) × (bound (binds_in m c) u.0 ≡ none)
LedVar m c v u Parts = ⊥
LedVar m c v u (To y) = (u.0 ≢ v.0) × (bound (binds_in m c) u.0 ≡ some y.0)

-- what `leads` answers, of the row x
abbrev pub Led : List ℕ → Counts → VarId → TypeId → Lead → Type 0
Led m c v x At = (n : ℕ) → leads_in m c v.0 (suc n) x.0 ≡ true
Led m c v x End = (n : ℕ) → leads_in m c v.0 n x.0 ≡ false
Led m c v x Parts = Unit {0}
Led m c v x (To y) = (n : ℕ) → leads_in m c v.0 (suc n) x.0 ≡ leads_in m c v.0 n y.0

-- what `stands_in` answers
abbrev pub Stands : List ℕ → Counts → VarId → TypeId → Bool → Type 0
Stands m c v z r = Held m c → r ≡ leads_in m c v.0 (far (rows_in m c) (binds_in m c) v.0) z.0

-- as the rules name it
abbrev pub found_k : Found → FoundT
found_k Free = free
found_k Ring = ring
found_k Inside = inside
found_k Lost = lost

-- where the rules find v in what x leads to
unfoldable pub seek_in : List ℕ → Counts → ℕ → ℕ → FoundT
seek_in m c v x = seek (rows_in m c) (binds_in m c) v (suc (length (rows_in m c))) x

-- what `seek` answers
abbrev pub Sought : List ℕ → Counts → VarId → TypeId → Found → Type 0
Sought m c v z r = Held m c → found_k r ≡ seek_in m c v.0 z.0
