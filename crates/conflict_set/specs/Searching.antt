-- The search over the memory of a walk, and what its functions promise. Definitions alone.
use Rattle.std.specs.Prelude.{◌≡◌, List, ◌++◌, Bool, true, false, ℕ, suc, ◌+◌, ◌-◌, ◌*◌, ◌≤◌, ◌<◌, length, set, eqb, ltb, None, Option as Option·R, Some}
use Rattle.std.proofs.Math.Option.{Option, none, some}
use Rattle.theory.specs.Rules.{Kind, kind, is_regular}
use Rattle.theory.specs.Program.{fuel}
use Rattle.type_table.specs.declared.Counts.{Counts}
use Rattle.type_table.specs.Memory.{pick, cell, head_at, number_at, binding_at}
use Rattle.type_table.specs.View.{type, variable}
use Rattle.unify.specs.Promise.{rows_in, kinds_in, mem_in}
use Rattle.conflict_theory.specs.Test.{ok}
use Rattle.conflict_theory.specs.Worked.{PlainPair, from}
use Rattle.conflict_theory.specs.Subsets.{next}
use Rattle.conflict_theory.specs.Search.{Outcome, found, out, through}
use Rattle.conflict_theory.specs.Code.{tries_in, search_in}
use Rattle.conflict_theory.specs.OneBound.{open_end, opened, bound_by}
use Rattle.conflict_theory.specs.Free.{can_meet}
use Rattle.conflict_set.specs.declared.Lead.{Lead}
use Rattle.conflict_set.specs.declared.Lead.TheVariants as lead
use Rattle.conflict_set.specs.declared.Tried.{Tried}
use Rattle.conflict_set.specs.declared.Tried.TheVariants as tried
use Rattle.conflict_set.specs.declared.Searched.{Searched}
use Rattle.conflict_set.specs.In.{Whole, Kept, pair_in, list_in, added_in, unified_in, Told, conflict_in}

-- ── ends ──

-- where a variable leads, by its binding
abbrev pub lead_var : ℕ → Option ℕ → Lead
lead_var v none = lead.Open (variable v)
lead_var v (some r) = lead.On (type r)

-- where the row y leads
unfoldable pub lead_in : List ℕ → Counts → ℕ → Lead
lead_in m c y = let h = head_at m c.types y in let a = number_at m c.types y in pick (eqb h 8) (lead.On (type a)) (pick (eqb h 12) (lead_var a (binding_at m c.vars a)) lead.Nowhere)

-- the number of a variable, that of no variable for none
abbrev pub var_number : Option ℕ → ℕ
var_number none = 65535
var_number (some v) = v

-- the open variable to which the row x leads
unfoldable pub open_end_in : List ℕ → Counts → ℕ → ℕ
open_end_in m c x = var_number (open_end (rows_in m c) (mem_in m c).binds (fuel (rows_in m c) (mem_in m c)) x)

-- by a binding, the first of two
abbrev pub if_bound : Option ℕ → ℕ → ℕ → ℕ
if_bound none a b = b
if_bound (some r) a b = a

-- of two ends, the first if it is bound now, else the second
unfoldable pub bound_end : List ℕ → Counts → ℕ → ℕ → ℕ
bound_end m c a b = if_bound (binding_at m c.vars a) a b

-- the variable v is opened again, of n variables
unfoldable pub opened_in : List ℕ → ℕ → ℕ → List ℕ
opened_in m n v = pick (ltb v n) (set m (v * 5 + 2) 0) m

-- ── one more, and taken back ──

-- the test of a set of equations of a memory
abbrev pub ok_in : List ℕ → Counts → List ℕ → Bool
ok_in m c = ok (rows_in m c) (kinds_in m c) (pair_in m c)

-- what an equation more comes to
abbrev pub PushedIs : List ℕ → Counts → ℕ → List ℕ → Option·R ℕ → Type 0
PushedIs m c i w (Some v) = Told m c w true (added_in m c i) × (v ≡ var_number (bound_by (rows_in m c) (kinds_in m c) (pair_in m c) (mem_in m c) i))
PushedIs m c i w None = Told m c w false (added_in m c i)

-- the equation i on top of those solved
pub record PushedBy (m : List ℕ) (c : Counts) (i : ℕ) (w : List ℕ) (r : Option·R ℕ) : Type 0 where
  pub by : Whole m c → PushedIs m c i w r

-- the equations in the first j places of the set s are solved, over the tables of m₀, and t has at the place of each one what takes it back
pub record Stacked (m₀ : List ℕ) (c : Counts) (s t : List ℕ) (j : ℕ) (m : List ℕ) : Type 0 where
  pub kept : Kept m₀ c m
  pub memory : mem_in m c ≡ (unified_in m₀ c (list_in s j)).1
  pub solved : (i : ℕ) → i ≤ j → ok_in m₀ c (list_in s i) ≡ true
  pub back : (i : ℕ) → i < j → opened (some (cell t i)) (unified_in m₀ c (list_in s (suc i))).1 ≡ (unified_in m₀ c (list_in s i)).1

-- the equations in the first k places have plain sides, Diverges as got side excepted
abbrev pub PlainPlaces : List ℕ → Counts → List ℕ → ℕ → Type 0
PlainPlaces m c s k = (i : ℕ) → i < k → PlainPair (rows_in m c) (pair_in m c (cell s i))

-- all of the first k places are solved, or they have no common solution
abbrev pub PushedTo : Bool → List ℕ → Counts → List ℕ → List ℕ → ℕ → List ℕ → Type 0
PushedTo true m₀ c s u k w = Stacked m₀ c s u k w
PushedTo false m₀ c s u k w = Kept m₀ c w × (ok_in m₀ c (list_in s k) ≡ false)

-- those of the places from j to k on top of those before them
pub record PushedFrom (m : List ℕ) (c : Counts) (s t : List ℕ) (j k : ℕ) (w u : List ℕ) (r : Bool) : Type 0 where
  pub size : length u ≡ length t
  pub by : (m₀ : List ℕ) → Whole m₀ c → PlainPlaces m₀ c s k → k ≤ length t → j ≤ k → Stacked m₀ c s t j m → PushedTo r m₀ c s u k w

-- those of the places from p to k are taken back
pub record PoppedBy (m : List ℕ) (c : Counts) (t : List ℕ) (p k : ℕ) (w : List ℕ) : Type 0 where
  pub by : (m₀ s : List ℕ) → Whole m₀ c → p ≤ k → Stacked m₀ c s t k m → Stacked m₀ c s t p w

-- ── the last equation of a subset ──

-- by where two rows lead: two open variables that can be one, or an open Regular one and a type without parts
abbrev pub free_leads : List Kind → Lead → Lead → Bool
free_leads kinds (lead.On z) l = false
free_leads kinds (lead.Open a) (lead.On z) = false
free_leads kinds (lead.Open a) (lead.Open b) = can_meet kinds a.0 b.0
free_leads kinds (lead.Open a) lead.Nowhere = is_regular (kind kinds a.0)
free_leads kinds lead.Nowhere (lead.On z) = false
free_leads kinds lead.Nowhere (lead.Open b) = is_regular (kind kinds b.0)
free_leads kinds lead.Nowhere lead.Nowhere = false

-- the rows x and y are so free that their equation is met for certain
unfoldable pub free_in : List ℕ → Counts → ℕ → ℕ → Bool
free_in m c x y = free_leads (kinds_in m c) (lead_in m c x) (lead_in m c y)

-- with the equation in the place j there still is a solution, or not; those before it are solved as they were
abbrev pub LastTo : Bool → List ℕ → Counts → List ℕ → List ℕ → ℕ → List ℕ → Type 0
LastTo true m₀ c s t j w = Stacked m₀ c s t j w × (ok_in m₀ c (list_in s (suc j)) ≡ true)
LastTo false m₀ c s t j w = Kept m₀ c w × (ok_in m₀ c (list_in s (suc j)) ≡ false)

-- the equation i was tested on top of those solved
pub record LastTested (m : List ℕ) (c : Counts) (i : ℕ) (w : List ℕ) (r : Bool) : Type 0 where
  pub by : (m₀ s t : List ℕ) (j : ℕ) → Whole m₀ c → PlainPlaces m₀ c s (suc j) → i ≡ cell s j → Stacked m₀ c s t j m → LastTo r m₀ c s t j w

-- the first k have a common solution, and all but the last are solved; or they have none
abbrev pub SetTo : Bool → List ℕ → Counts → List ℕ → List ℕ → ℕ → List ℕ → Type 0
SetTo true m₀ c s u k w = Stacked m₀ c s u (k - 1) w × (ok_in m₀ c (list_in s k) ≡ true)
SetTo false m₀ c s u k w = Kept m₀ c w × (ok_in m₀ c (list_in s k) ≡ false)

-- the first k of a set were tested, those before j being solved
pub record SetTested (m : List ℕ) (c : Counts) (s t : List ℕ) (j k : ℕ) (w u : List ℕ) (r : Bool) : Type 0 where
  pub size : length u ≡ length t
  pub by : (m₀ : List ℕ) → Whole m₀ c → PlainPlaces m₀ c s k → k ≤ length t → j ≤ k - 1 → Stacked m₀ c s t j m → SetTo r m₀ c s u k w

-- ── subset by subset ──

-- the numbers from f on stand in the places from p to k, and those before are as they were
pub record FollowedBy (s : List ℕ) (p k f : ℕ) (t : List ℕ) : Type 0 where
  pub size : length t ≡ length s
  pub before : (i : ℕ) → i < p → cell t i ≡ cell s i
  pub by : k ≤ length s → list_in t k ≡ list_in s p ++ from f (k - p)

-- a place is below k
abbrev pub place_below : ℕ → Option·R ℕ → Type 0
place_below k (Some p) = p < k
place_below k None = Unit {0}

-- the next set stands there, with the places before p as they were; or there is none
abbrev pub AdvancedTo : Option·R ℕ → List ℕ → ℕ → ℕ → List ℕ → Type 0
AdvancedTo (Some p) s k n t = ((i : ℕ) → i < p → cell t i ≡ cell s i) × (next n (list_in s k) ≡ some (list_in t k))
AdvancedTo None s k n t = (t ≡ s) × (next n (list_in s k) ≡ none)

-- the next k numbers below n
pub record AdvancedBy (s : List ℕ) (k n : ℕ) (t : List ℕ) (r : Option·R ℕ) : Type 0 where
  pub size : length t ≡ length s
  pub within : place_below k r
  pub by : k ≤ length s → AdvancedTo r s k n t

-- the outcome that the code's answer means, with the set that stands
abbrev pub outcome_of : Tried → List ℕ → Outcome
outcome_of tried.Found l = found l
outcome_of tried.Out l = out
outcome_of (tried.Through d) l = through d

-- the first n equations have plain sides, Diverges as got side excepted
abbrev pub PlainTo : List ℕ → Counts → ℕ → Type 0
PlainTo m c n = (i : ℕ) → i < n → PlainPair (rows_in m c) (pair_in m c i)

-- the numbers in the first k places are below n
abbrev pub NumbersBelow : List ℕ → ℕ → ℕ → Type 0
NumbersBelow s k n = (i : ℕ) → i < k → cell s i < n

-- sets were tested, from the one that stood, with nothing solved before it
pub record TriedBy (m : List ℕ) (c : Counts) (s t : List ℕ) (k n b : ℕ) (w u v : List ℕ) (r : Tried) : Type 0 where
  pub size : length u ≡ length s
  pub room : length v ≡ length t
  pub by : (m₀ : List ℕ) → Whole m₀ c → PlainTo m₀ c n → k ≤ length s → k ≤ length t → NumbersBelow s k n → Stacked m₀ c s t 0 m → Kept m₀ c w × (outcome_of r (list_in u k) ≡ tries_in (ok_in m₀ c) n b (list_in s k))

-- from the first one
pub record FirstTriedBy (m : List ℕ) (c : Counts) (s t : List ℕ) (k n b : ℕ) (w u v : List ℕ) (r : Tried) : Type 0 where
  pub size : length u ≡ length s
  pub room : length v ≡ length t
  pub by : Whole m c → PlainTo m c n → k ≤ length s → k ≤ length t → k ≤ n → Kept m c w × (outcome_of r (list_in u k) ≡ tries_in (ok_in m c) n b (from 0 k))

-- the set found in t, else f, and `below=`
abbrev pub searched_of : Searched → List ℕ → List ℕ → List ℕ × ℕ
searched_of r t f = (pick r.found (list_in t r.below) f, r.below)

-- the sets smaller than `most` were gone through
pub record SearchedBy (m : List ℕ) (c : Counts) (s t : List ℕ) (most n b : ℕ) (w u v : List ℕ) (r : Searched) : Type 0 where
  pub by : Whole m c → PlainTo m c n → most ≤ length s → most ≤ length t → most ≤ n → Kept m c w × ((f : List ℕ) → searched_of r u f ≡ search_in (ok_in m c) n 1 (most - 1) b f)

-- n)'s answer and `below=`, of the first n equations
abbrev pub shortest_in : List ℕ → Counts → ℕ → ℕ → List ℕ × ℕ
shortest_in m c n b = search_in (ok_in m c) n 1 (length (conflict_in m c n) - 1) b (conflict_in m c n)
