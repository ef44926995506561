-- Running a program as the rest of another, for loops over the numbers of `for_each`. Assumes nothing.
use Rattle.std.specs.Prelude.{◌≡◌, List, ℕ, suc, ◌+◌, ◌-◌, ◌≤◌, ◌<◌}
use Rattle.std.proofs.Common.{arith, add-one}
use Rattle.theory.specs.Program.{◌>>=◌}
use Rattle.record.specs.declared.Record.{Record}
use Rattle.record.specs.Steps.{Step, for_each}
use Rattle.record.specs.Encodes.{Runs, Stops}
use Rattle.record.specs.Runs.{runs_done, then, then_stops, stops}

-- to run q from m and c is to run p from m₀ and c₀
pub record Onto (m₀ : List ℕ) (c₀ : Record) (m : List ℕ) (c : Record) (p q : Step) : Type 0 where
  -- to the end
  pub ran : (m' : List ℕ) (c' : Record) → Runs m c m' c' q tt → Runs m₀ c₀ m' c' p tt
  -- or to a refusal
  pub stopped : (m' : List ℕ) (c' : Record) (k n : ℕ) → Stops m c m' c' q k n → Stops m₀ c₀ m' c' p k n

-- nothing has run
pub onto_same : {m : List ℕ} {c : Record} {p : Step} → Onto m c m c p p
onto_same = record { ran = λ m' c' R. R; stopped = λ m' c' k n R. R }

-- before the first turn
pub onto_start : {m : List ℕ} {c : Record} (f : ℕ → Step) (k : ℕ) → Onto m c m c (for_each 0 k f) (for_each 0 (k - 0) f)
onto_start f k = let z : k - 0 ≡ k = omega arith in rw z onto_same

-- the numbers from i on are i, and those from the next on
each_more : (f : ℕ → Step) (i k : ℕ) → i < k → for_each i (k - i) f ≡ ◌>>=◌ (f i) (λ u. for_each (suc i) (k - suc i) f)
unfolding for_each
each_more f i k l = let e : k - i ≡ suc (k - suc i) = omega arith in rw e

module _ {m₀ m : List ℕ} {c₀ c : Record} {p : Step} (f : ℕ → Step) (i k : ℕ) where
  -- one more turn
  pub onto_next : {m₁ : List ℕ} {c₁ : Record} → i < k → Onto m₀ c₀ m c p (for_each i (k - i) f) → Runs m c m₁ c₁ (f i) tt → Onto m₀ c₀ m₁ c₁ p (for_each (i + 1) (k - (i + 1)) f)
  onto_next l O R = rw (add-one i) (record {
    ran = λ m' c' Q. O.ran m' c' (rw (each_more f i k l) (then _ R Q));
    stopped = λ m' c' a n Q. O.stopped m' c' a n (rw (each_more f i k l) (then_stops _ R Q));
  })

  -- a turn that refuses
  pub onto_stops : {m₁ : List ℕ} {c₁ : Record} {a n : ℕ} → i < k → Onto m₀ c₀ m c p (for_each i (k - i) f) → Stops m c m₁ c₁ (f i) a n → Stops m₀ c₀ m₁ c₁ p a n
  onto_stops {m₁} {c₁} {a} {n} l O R = O.stopped m₁ c₁ a n (rw (each_more f i k l) (stops _ R))

-- after the last turn
pub onto_end : {m₀ m : List ℕ} {c₀ c : Record} {p : Step} (f : ℕ → Step) (i k : ℕ) → k ≤ i → Onto m₀ c₀ m c p (for_each i (k - i) f) → Runs m₀ c₀ m c p tt
unfolding for_each
onto_end {m = m} {c = c} f i k h O = let z : k - i ≡ 0 = omega arith in O.ran m c (rw z runs_done)
