-- The equations in the memory of a walk, and what the functions of this crate promise of it. Definitions alone. Only bindings and marks change: `Kept`.
use Rattle.std.specs.Prelude.{◌≡◌, ◌≢◌, List, [], ◌∷◌, map, Bool, true, false, ◌&&◌, ◌||◌, ℕ, suc, zero, ◌+◌, ◌-◌, ◌*◌, ◌/◌, ◌%◌, ◌≤◌, ◌<◌, length, set, eqb, None, Option as Option·R, Some}
use Rattle.std.proofs.Math.Option.{Option, none, some}
use Rattle.theory.specs.Rules.{Shape, Pair, Res, row}
use Rattle.theory.specs.Program.{clip}
use Rattle.theory.specs.Solve.{solves}
use Rattle.type_table.specs.declared.Counts.{Counts}
use Rattle.type_table.specs.Memory.{pick, cells, most_types, most_vars, cell}
use Rattle.record.specs.Own.{log_at}
use Rattle.unify.specs.Promise.{rows_in, kinds_in, mem_in}
use Rattle.unify.specs.declared.Answer.{Answer}
use Rattle.unify.specs.declared.Answer.TheVariants.{Success, Mismatch, Refused12, Refused13}
use Rattle.conflict_theory.specs.Test.{is_success, unified}
use Rattle.conflict_theory.specs.Code.{added, falls, scan_in}
use Rattle.conflict_theory.specs.Plains.{is_plain, is_diverges, are_plain}

-- ── the memory ──

-- it has its length, and the counts are within their limits
pub record Whole (m : List ℕ) (c : Counts) : Type 0 where
  pub size : cells ≤ length m
  pub types : c.types ≤ most_types
  pub vars : c.vars ≤ most_vars

-- from m to w nothing has changed but bindings and marks
pub record Kept (m : List ℕ) (c : Counts) (w : List ℕ) : Type 0 where
  pub size : length w ≡ length m
  pub same : (i : ℕ) → ((v k : ℕ) → v < c.vars → 1 < k → k < 5 → i ≢ v * 5 + k) → cell w i ≡ cell m i

-- the sides of the equation i
unfoldable pub pair_in : List ℕ → Counts → ℕ → Pair
pair_in m c i = (clip c.types (cell m (log_at + i * 3)), clip c.types (cell m (log_at + i * 3 + 1)))

-- the node whose rule raised the equation i
unfoldable pub node_in : List ℕ → ℕ → ℕ
node_in m i = cell m (log_at + i * 3 + 2) / 16

-- n cells from i on
unfoldable pub cells_from : List ℕ → ℕ → ℕ → List ℕ
cells_from s i zero = []
cells_from s i (suc n) = cell s i ∷ cells_from s (suc i) n

-- the first k numbers of a set
abbrev pub list_in : List ℕ → ℕ → List ℕ
list_in s k = cells_from s 0 k

-- ── what f) works on ──

-- the third cell in the log of an equation that failed with cause 1 or was refused 12
unfoldable pub is_failed : ℕ → Bool
is_failed a = eqb (a % 16) 1 || eqb (a % 16) 12

-- one more than the first of n numbers from i on of which a test holds; 0 if it holds of none
unfoldable pub first_behind : (ℕ → Bool) → ℕ → ℕ → ℕ
first_behind f i zero = 0
first_behind f i (suc n) = let r = first_behind f (suc i) n in pick (f i) (suc i) r

-- how many equations f) works on, of q
unfoldable pub worked_in : List ℕ → ℕ → ℕ
worked_in m q = first_behind (λ i. is_failed (cell m (log_at + i * 3 + 2))) 0 q

-- a head that is no array's is that of a plain type
unfoldable pub plain_head : ℕ → Bool
plain_head h = pick (eqb h 6) false (pick (eqb h 7) false (pick (eqb h 10) false (pick (eqb h 11) false (pick (eqb h 13) false (pick (eqb h 14) false true)))))

-- a got side is plain or Diverges
unfoldable pub got_plain : List Shape → ℕ → Bool
got_plain rows y = is_diverges (row rows y) || is_plain rows y

-- a test holds of n numbers from i on
unfoldable pub all_from : (ℕ → Bool) → ℕ → ℕ → Bool
all_from f i zero = true
all_from f i (suc n) = let r = all_from f (suc i) n in f i && r

-- the sides of the first n equations are plain, Diverges as got side excepted
unfoldable pub plain_to : List ℕ → Counts → ℕ → Bool
plain_to m c n = all_from (λ i. are_plain (rows_in m c) (pair_in m c i)) 0 n

-- ── unification ──

-- the equation i on top of the bindings that stand
abbrev pub added_in : List ℕ → Counts → ℕ → Res
added_in m c i = added (rows_in m c) (kinds_in m c) (pair_in m c) (mem_in m c) i

-- the equations of these numbers from nothing bound
abbrev pub unified_in : List ℕ → Counts → List ℕ → Res
unified_in m c l = unified (rows_in m c) (kinds_in m c) (pair_in m c) l

-- an answer is success
abbrev pub went : Answer → Bool
went Success = true
went Mismatch = false
went Refused12 = false
went Refused13 = false

-- the first n variables are open and unmarked
unfoldable pub reopened : List ℕ → ℕ → List ℕ
reopened m zero = m
reopened m (suc v) = set (set (reopened m v) (v * 5 + 2) 0) (v * 5 + 4) 0

-- ── promises ──

-- a result over the memory, told by a test
pub record Told (m : List ℕ) (c : Counts) (w : List ℕ) (r : Bool) (u : Res) : Type 0 where
  pub kept : Kept m c w
  pub answer : r ≡ is_success u.0
  pub memory : mem_in w c ≡ u.1

-- the equation i was added
pub record AddedBy (m : List ℕ) (c : Counts) (i : ℕ) (w : List ℕ) (r : Bool) : Type 0 where
  pub by : Whole m c → Told m c w r (added_in m c i)

-- the equations of these numbers on top of the bindings that stand
abbrev pub solves_in : List ℕ → Counts → List ℕ → Res
solves_in m c l = solves (rows_in m c) (kinds_in m c) (map (pair_in m c) l) (mem_in m c)

-- they were added
pub record AllAddedBy (m : List ℕ) (c : Counts) (l : List ℕ) (w : List ℕ) (r : Bool) : Type 0 where
  pub by : Whole m c → Told m c w r (solves_in m c l)

-- the equations of these numbers were solved from nothing bound
pub record SolvedBy (m : List ℕ) (c : Counts) (l : List ℕ) (w : List ℕ) (r : Bool) : Type 0 where
  pub by : Whole m c → Told m c w r (unified_in m c l)

-- where adding stopped
abbrev pub stop_is : Option ℕ → Option·R ℕ
stop_is none = None
stop_is (some i) = Some i

-- it is below n
abbrev pub stop_below : ℕ → Option·R ℕ → Type 0
stop_below n (Some i) = i < n
stop_below n None = Unit {0}

-- those from n - 1 down to lo were added
pub record FellBy (m : List ℕ) (c : Counts) (lo n : ℕ) (w : List ℕ) (r : Option·R ℕ) : Type 0 where
  pub within : stop_below n r
  pub by : Whole m c → Kept m c w × (r ≡ stop_is (falls (rows_in m c) (kinds_in m c) (pair_in m c) (mem_in m c) lo (n - lo)))

-- f)'s set of the first n equations
abbrev pub conflict_in : List ℕ → Counts → ℕ → List ℕ
conflict_in m c n = scan_in (rows_in m c) (kinds_in m c) (pair_in m c) n n [] 0

-- it is in the first k cells of a set that has room
pub record ScannedBy (m : List ℕ) (c : Counts) (n : ℕ) (s w t : List ℕ) (k : ℕ) : Type 0 where
  pub size : length t ≡ length s
  pub most : k ≤ n
  pub by : Whole m c → n ≤ length s → Kept m c w × (list_in t k ≡ conflict_in m c n)

-- ── on the way ──

-- the equations of the list l are being added, and these are left
pub record Going (m₀ : List ℕ) (c : Counts) (l rest m : List ℕ) : Type 0 where
  pub kept : Kept m₀ c m
  pub same : solves (rows_in m₀ c) (kinds_in m₀ c) (map (pair_in m₀ c) rest) (mem_in m c) ≡ solves_in m₀ c l

-- those from n - 1 down to lo are being added, and those below i are left
pub record Falling (m₀ : List ℕ) (c : Counts) (lo n i : ℕ) (m : List ℕ) : Type 0 where
  pub kept : Kept m₀ c m
  pub same : falls (rows_in m₀ c) (kinds_in m₀ c) (pair_in m₀ c) (mem_in m c) lo (i - lo) ≡ falls (rows_in m₀ c) (kinds_in m₀ c) (pair_in m₀ c) (mem_in m₀ c) lo (n - lo)

-- the first k numbers of a set are kept, and those from lo on are left
pub record Scanning (m₀ : List ℕ) (c : Counts) (n k lo : ℕ) (m s : List ℕ) : Type 0 where
  pub kept : Kept m₀ c m
  pub same : scan_in (rows_in m₀ c) (kinds_in m₀ c) (pair_in m₀ c) n (n - k) (list_in s k) lo ≡ conflict_in m₀ c n
