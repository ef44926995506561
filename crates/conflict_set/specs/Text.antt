-- The texts of f) and n), and what their functions leave of a lent output. Definitions alone.
use Rattle.std.specs.Prelude.{◌≡◌, List, [], ◌∷◌, ◌++◌, Bool, true, cond, ℕ, ◌≤◌, eqb, get_or, None, Option as Option·R, Some}
use Rattle.std.proofs.Math.Option.{Option, none, some}
use Rattle.theory.specs.Rules.{Shape, Kind, Pair}
use Rattle.theory.specs.Program.{Equation}
use Rattle.conflict_theory.specs.Worked.{until_failed, in_order, nodes_in_order, sides_at, conflict_of}
use Rattle.conflict_theory.specs.Plains.{all_plain}
use Rattle.conflict_theory.specs.Shortest.{shortest_of}
use Rattle.type_table.specs.declared.Counts.{Counts}
use Rattle.type_table.specs.Memory.{pick}
use Rattle.lex.specs.Text.{text}
use Rattle.output.specs.Output.{number_text, newline, zeros, ended, Written}
use Rattle.conflict_set.specs.declared.Outcome.{Outcome}
use Rattle.conflict_set.specs.declared.Outcome.TheVariants as outcome
use Rattle.conflict_set.specs.declared.Lines.{Lines}
use Rattle.conflict_set.specs.declared.Lines.TheVariants as lines
use Rattle.conflict_set.specs.declared.Sought.{Sought}
use Rattle.conflict_set.specs.declared.Sought.TheVariants as sought
use Rattle.conflict_set.specs.declared.Searched.{Searched}
use Rattle.conflict_set.specs.In.{Whole, Kept, pair_in, node_in, list_in, worked_in, plain_to, conflict_in}
use Rattle.conflict_set.specs.Searching.{searched_of, shortest_in}

-- the line of the equation i, by the node whose rule raised it and by its sides
abbrev pub line_text : Lines → ℕ → Pair → ℕ → List ℕ
line_text lines.Numbers n p i = (text "equation=" ++ number_text i) ++ newline
line_text lines.Places n p i = (text "equation=" ++ number_text i) ++ ((text "," ++ number_text n) ++ ((text "," ++ number_text p.0) ++ ((text "," ++ number_text p.1) ++ newline)))

-- f): "an `equation=` line for each one left"
unfoldable pub set_text : (ℕ → List ℕ) → List ℕ → List ℕ
set_text f [] = []
set_text f (i ∷ l) = f i ++ set_text f l

-- the line of the equation i of the log in the memory m
abbrev pub line_in : List ℕ → Counts → Lines → ℕ → List ℕ
line_in m c l i = line_text l (node_in m i) (pair_in m c i) i

-- of the equations k, the newest first: the line of the equation i
abbrev pub line_of : Lines → List Equation → ℕ → List ℕ
line_of l k i = line_text l (get_or (nodes_in_order k) i 0) (sides_at (in_order k) i) i

-- n): "A line `below=` ends it"
abbrev pub shortest_text : (ℕ → List ℕ) → List ℕ × ℕ → List ℕ
shortest_text f a = set_text f a.0 ++ ((text "below=" ++ number_text a.1) ++ newline)

-- what is sought among the equations k, the newest first
abbrev pub sought_text : Sought → List Shape → List Kind → List Equation → List ℕ
sought_text (sought.Minimal l) rows kinds k = set_text (line_of l k) (conflict_of rows kinds (in_order k))
sought_text (sought.Shortest l b) rows kinds k = shortest_text (line_of l k) (shortest_of rows kinds (in_order k) b)

-- of the equations up to and including the first that failed: none, if there are none or if a side is not plain, Diverges as got side excepted
abbrev pub text_by : Sought → List Shape → List Kind → Option (List Equation) → Option (List ℕ)
text_by q rows kinds none = none
text_by q rows kinds (some k) = cond (all_plain rows (in_order k)) (some (sought_text q rows kinds k)) none

-- the text of what is sought, of the types, the variables and the equations of a walk; none is refusal 14
unfoldable pub text_of : Sought → List Shape → List Kind → List Equation → Option (List ℕ)
text_of q rows kinds log = text_by q rows kinds (until_failed log)

-- ── answers ──

-- an answer, and the output
pub record Told : Type 0 where
  pub answer : Outcome
  pub bytes : List ℕ

abbrev pub told : Outcome → List ℕ → Told
told a x = record { answer = a; bytes = x }

-- by where a text ends
abbrev pub by_ending : Option·R ℕ → Outcome
by_ending (Some n) = outcome.Written n
by_ending None = outcome.NoRoom

-- of a text, or none: 14 without one; 9 without room; zeros throughout on both
unfoldable pub told_of : Option (List ℕ) → List ℕ → Told
told_of none o = told outcome.Nothing (zeros o)
told_of (some t) o = told (by_ending (ended t o).ending) (ended t o).bytes

-- whatever text was written, it is told
pub record WrittenBy (c : ℕ) (x : List ℕ) (r : Outcome) (y : List ℕ) : Type 0 where
  pub by : (t o : List ℕ) → Written t o c x → told r y ≡ told_of (some t) o

-- ── f ──

-- f)'s set of the first n equations is told
pub record ConflictPut (m : List ℕ) (c : Counts) (n : ℕ) (l : Lines) (x w : List ℕ) (r : Outcome) (y : List ℕ) : Type 0 where
  pub by : Whole m c → n ≤ 2048 → Kept m c w × (told r y ≡ told_of (some (set_text (line_in m c l) (conflict_in m c n))) x)

-- ── n ──

-- a set and `below=` are told
pub record BelowPut (m : List ℕ) (c : Counts) (l : Lines) (s : List ℕ) (b : ℕ) (x : List ℕ) (r : Outcome) (y : List ℕ) : Type 0 where
  pub by : told r y ≡ told_of (some (shortest_text (line_in m c l) (s, b))) x

-- the text of a search: the subset found, else the first k numbers of s
pub record SearchedPut (m : List ℕ) (c : Counts) (l : Lines) (s : List ℕ) (k : ℕ) (t : List ℕ) (a : Searched) (x : List ℕ) (r : Outcome) (y : List ℕ) : Type 0 where
  pub by : told r y ≡ told_of (some (shortest_text (line_in m c l) (searched_of a t (list_in s k)))) x

-- n)'s answer of the first n equations is told, if their sides are plain
pub record ShortestPut (m : List ℕ) (c : Counts) (n : ℕ) (l : Lines) (b : ℕ) (x w : List ℕ) (r : Outcome) (y : List ℕ) : Type 0 where
  pub by : Whole m c → n ≤ 2048 → plain_to m c n ≡ true → Kept m c w × (told r y ≡ told_of (some (shortest_text (line_in m c l) (shortest_in m c n b))) x)

-- ── both ──

-- what is sought among the first n equations in the memory
abbrev pub sought_in : List ℕ → Counts → ℕ → Sought → List ℕ
sought_in m c n (sought.Minimal l) = set_text (line_in m c l) (conflict_in m c n)
sought_in m c n (sought.Shortest l b) = shortest_text (line_in m c l) (shortest_in m c n b)

-- it is told, if their sides are plain
pub record SoughtPut (m : List ℕ) (c : Counts) (n : ℕ) (q : Sought) (x w : List ℕ) (r : Outcome) (y : List ℕ) : Type 0 where
  pub by : Whole m c → n ≤ 2048 → plain_to m c n ≡ true → Kept m c w × (told r y ≡ told_of (some (sought_in m c n q)) x)

-- n equations are worked on, and their sides are plain: then this text
abbrev pub unless14 : ℕ → Bool → List ℕ → Option (List ℕ)
unless14 n plain t = pick (eqb n 0) none (pick plain (some t) none)

-- the text of what is sought, of a walk with e equations; none is refusal 14
unfoldable pub conflict_text : List ℕ → Counts → ℕ → Sought → Option (List ℕ)
conflict_text m c e q = let n = worked_in m e in unless14 n (plain_to m c n) (sought_in m c n q)

-- the answer and the output
pub record ConflictBy (m : List ℕ) (c : Counts) (e : ℕ) (q : Sought) (x w : List ℕ) (r : Outcome) (y : List ℕ) : Type 0 where
  pub by : Whole m c → e ≤ 2048 → Kept m c w × (told r y ≡ told_of (conflict_text m c e q) x)
