-- What the reader claims, one citation each: first of `read_body`, then of well-formed tables. Each assumption is an argument of the statement.
-- The contract of `read_body` in crate `body` cites the definition body_of there. The claims are stated with `WellFormed` of Good, `ZeroBehind` of Zeros,
-- `ChildAt` of UsedOnce, `weight` and `sum_to` of Weight, `TypeIn`, `Contains`, `Parent`, `Chain` and `funs` of Levels, `behind_file` and `Leaves`
-- of Behind, `first_lines` and `Forward` of FirstLines, `TooDeep` of TooDeep, and `numbers` of FormNumbers.
use Rattle.std.specs.Prelude.{ℕ, ◌+◌, ◌<◌, ◌≤◌, ◌≡◌, ◌⊎◌, ◌↔◌, List, ◌∷◌, true, length, get_or, take}
use Rattle.lex.specs.Text.{before}
use Rattle.forms.specs.declared.Fault.{Fault}
use Rattle.forms.specs.declared.Fault.TheVariants as fault
use Rattle.forms.specs.Form.{forms, no_form, form_of, fits}
use Rattle.forms.specs.Words as words
use Rattle.refs.specs.declared.Counts.{Counts}
use Rattle.refs.specs.Refs.{nodes_at, fn_at, form_in, first_in, count_in, levels_in, value_in}
use Rattle.body.specs.declared.Answer.{Answer}
use Rattle.body.specs.declared.Answer.TheVariants as answer
use Rattle.body.specs.Body.{most_bytes, rows_length, cells_length, fault_number, answer_number, answer_place, Held, held, zeros, body_of}
use Rattle.well_formed.specs.Good.{WellFormed}
use Rattle.well_formed.specs.Zeros.{ZeroBehind}
use Rattle.well_formed.proofs.WellFormed as body
use Rattle.well_formed.specs.Answers as answers
use Rattle.well_formed.specs.UsedOnce.{ChildAt}
use Rattle.well_formed.specs.UsedOnce as once
use Rattle.well_formed.specs.Weight.{sum_to, weight, body_in, params_in, param_in}
use Rattle.well_formed.specs.Weight as trees
use Rattle.well_formed.specs.Levels.{TypeIn, Contains, Parent, Chain, funs}
use Rattle.well_formed.specs.Levels as levels
use Rattle.well_formed.proofs.Levels as proved_levels
use Rattle.well_formed.proofs.Distinct as distinct
use Rattle.well_formed.specs.Behind.{behind_file, Leaves}
use Rattle.well_formed.specs.Behind as tables
use Rattle.well_formed.specs.TooDeep.{TooDeep}
use Rattle.well_formed.proofs.TooDeep as deep
use Rattle.well_formed.specs.FirstLines.{first_lines, Forward}
use Rattle.well_formed.specs.FirstLines as lines
use Rattle.well_formed.specs.FormNumbers.{numbers, all_right}
use Rattle.well_formed.specs.FormNumbers as named
use Rattle.well_formed.specs.Claims as held

module _ (s rows cells : List ℕ) where
  -- the answer to the file s, and what is then in the two tables lent for it
  abbrev result : Held
  result = held.result s rows cells

  -- ── 1. the promise of `read_body`: its answer and the tables that it leaves are `result` ──

  -- what the promise holds of one answer and tables it holds of no other
  pub one_result : (a b : Answer) (rows' cells' rows'' cells'' : List ℕ) → held a rows' cells' ≡ result → held b rows'' cells'' ≡ result
      → (a ≡ b) × (rows' ≡ rows'') × (cells' ≡ cells'')
  one_result = answers.determined s rows cells

  -- the result has document 01's number of its answer, 0 to 6, and its PLACE: the line for 3 to 6, else `-`
  pub number_and_place : (result.number ≡ answer_number result.answer) × (result.place ≡ answer_place result.answer)
  number_and_place = answers.numbered s rows cells

  -- ── 2. the answers 1 and 2 ──

  -- 1 exactly if the file has over 65,536 bytes
  pub when_1 : (result.answer ≡ answer.TooLong) ↔ (most_bytes < length s)
  when_1 = answers.too_long s rows cells

  -- 2 exactly if it has not, and a lent table is below its length: 9,605 numbers of rows, 94,716 of fields
  pub when_2 : (result.answer ≡ answer.ShortTable) ↔ ((length s ≤ most_bytes) × ((length rows < rows_length) ⊎ (length cells < cells_length)))
  when_2 = answers.short_table s rows cells

  -- 1 changes no table
  pub unchanged_on_1 : result.answer ≡ answer.TooLong → (result.rows ≡ rows) × (result.cells ≡ cells)
  unchanged_on_1 = answers.unchanged_long s rows cells

  -- 2 changes no table
  pub unchanged_on_2 : result.answer ≡ answer.ShortTable → (result.rows ≡ rows) × (result.cells ≡ cells)
  unchanged_on_2 = answers.unchanged_short s rows cells

  -- ── 3. the answers 3 to 6 ──

  -- on 3 to 6 every lent table is zero throughout
  pub zero_on_3_to_6 : (x : Fault) (l : ℕ) → result.answer ≡ answer.Refused x l → (result.rows ≡ zeros rows) × (result.cells ≡ zeros cells)
  zero_on_3_to_6 = answers.refused_zero s rows cells

  -- 3, 4 or 5 at the line l, but for that of a forward reference, depends on the first l lines alone: every file with the same first l lines, each with its
  -- line feed, is refused alike. Of a file with fewer line feeds, as where the last one or `fn` is missing, they are the whole file
  pub first_lines_decide : (t : List ℕ) (x : Fault) (l : ℕ) → result.answer ≡ answer.Refused x l → fault_number x ≤ 5 → (Forward x l (behind_file s rows cells) → ⊥)
      → length t ≤ most_bytes → first_lines l t ≡ first_lines l s → (body_of t rows cells).answer ≡ answer.Refused x l
  first_lines_decide t = lines.first_lines_lem s t rows cells

  -- 6 only if no line is faulty and, in the tables behind the last line, before they are cleared, there are 65 nodes, each a child of the one before, or
  -- types, each in the one before, of which 5 are a fun
  pub only_when_6 : (l : ℕ) → result.answer ≡ answer.Refused fault.Levels l → TooDeep (behind_file s rows cells)
  only_when_6 = deep.only_deep s rows cells

  -- ── 4. the answer 0, with the counts n ──

  -- the tables are well-formed: counts within the limits, each row of a form of its key, each number that refers to a row to one that is there and may
  -- stand there, no two type rows equal, levels within the limits
  pub well_formed_on_0 : (n : Counts) → result.answer ≡ answer.Body n → WellFormed n result.rows result.cells
  well_formed_on_0 = body.read_well_formed s rows cells

  -- all of a table past its used rows is zero
  pub zero_behind_on_0 : (n : Counts) → result.answer ≡ answer.Body n → ZeroBehind n result.rows result.cells
  zero_behind_on_0 = body.read_zero_behind s rows cells

  -- the tables are those behind the last line
  pub tables_on_0 : (n : Counts) → result.answer ≡ answer.Body n → Leaves n result.rows result.cells (behind_file s rows cells)
  tables_on_0 = tables.read_left s rows cells

-- ── 5. the forms of lines ──

-- a line's form is one of its key and its word
pub form_fits : (k : ℕ) (v : List ℕ) → form_of k v < 30 → fits k (take (before 44 v) v) (get_or forms (form_of k v) no_form) ≡ true
form_fits = words.form_fits

-- no two forms fit one key and one word
pub one_form : (k : ℕ) (w : List ℕ) (i j : ℕ) → i < 30 → j < 30 → fits k w (get_or forms i no_form) ≡ true → fits k w (get_or forms j no_form) ≡ true → i ≡ j
one_form = words.words_apart

-- the numbers of the forms, by which rows and rules name them, stand for the keys and words that `numbers` writes beside them, and each form has one there
pub form_numbers : (all_right numbers ≡ true) × (length numbers ≡ length forms)
form_numbers = named.numbers_right

module _ (n : Counts) (rows cells : List ℕ) (w : WellFormed n rows cells) where
  -- ── 6. nodes, in well-formed tables ──

  -- a child has a lower number
  pub child_lower : (a i x : ℕ) → a < n.nodes → ChildAt rows cells (nodes_at + a) i x → x < a
  child_lower = levels.child_lower n rows cells w

  -- a child of `fn` is one of the nodes
  pub fn_child_lower : (i x : ℕ) → ChildAt rows cells fn_at i x → x < n.nodes
  fn_child_lower = levels.fn_child n rows cells w

  -- a child has one parent: two fields of nodes with one child are one field,
  pub node_child_once : (a b i j x : ℕ) → a < n.nodes → b < n.nodes → ChildAt rows cells (nodes_at + a) i x → ChildAt rows cells (nodes_at + b) j x
      → (a ≡ b) × (i ≡ j)
  node_child_once = once.node_child_once n rows cells w

  -- so are two fields of `fn`,
  pub fn_child_once : (i j x : ℕ) → ChildAt rows cells fn_at i x → ChildAt rows cells fn_at j x → i ≡ j
  fn_child_once = once.fn_child_once n rows cells w

  -- and no child of a node is a child of `fn`
  pub node_child_not_fn : (a i j x : ℕ) → a < n.nodes → ChildAt rows cells (nodes_at + a) i x → ChildAt rows cells fn_at j x → ⊥
  node_child_not_fn = once.node_child_not_fn n rows cells w

  -- the trees of BODY and of each P of `fn`, to any depth l, have together at most as many nodes as the file
  pub tree_bound : (l : ℕ) → weight rows cells l (body_in rows cells) + sum_to (params_in rows) (λ i. weight rows cells l (param_in rows cells i)) ≤ n.nodes
  tree_bound = trees.tree_bound n rows cells w

  -- levels fall from a node to its child,
  pub child_levels : (a i x : ℕ) → a < n.nodes → ChildAt rows cells (nodes_at + a) i x → levels_in rows (nodes_at + x) < levels_in rows (nodes_at + a)
  child_levels = proved_levels.child_fewer n rows cells w

  -- and are at most 64,
  pub node_levels : (a : ℕ) → a < n.nodes → levels_in rows (nodes_at + a) ≤ 64
  node_levels = w.depth

  -- so at most 64 nodes stand in one another: a list of nodes, each a child of the one before, has at most 64
  pub nodes_nested : (a : ℕ) (xs : List ℕ) → a < n.nodes → Chain (Parent rows cells) (a ∷ xs) → length (a ∷ xs) ≤ 64
  nodes_nested = proved_levels.nodes_nested n rows cells w

  -- ── 7. types, in well-formed tables; the form 0 is an array, 1 a fun, 2 an inst, 3 a fn ──

  -- a type in a type has a lower row
  pub type_lower : (i j x : ℕ) → i < n.types → TypeIn rows cells i j x → x < i
  type_lower = levels.type_lower n rows cells w

  -- levels fall from a fun to a type in it,
  pub fun_levels : (i j x : ℕ) → i < n.types → form_in rows i ≡ 1 → TypeIn rows cells i j x → levels_in rows x < levels_in rows i
  fun_levels = levels.fun_levels n rows cells w

  -- do not rise from an array to its element,
  pub array_levels : (i j x : ℕ) → i < n.types → form_in rows i ≡ 0 → TypeIn rows cells i j x → levels_in rows x ≤ levels_in rows i
  array_levels i j x h f = levels.part_levels n rows cells w i j x h

  -- and are at most 4,
  pub type_levels : (i : ℕ) → i < n.types → levels_in rows i ≤ 4
  type_levels = w.nesting

  -- so at most 4 of fun stand in fun, arrays between them not counted: of a list of types, each in the one before, at most 4 are a fun
  pub funs_nested : (i : ℕ) (is : List ℕ) → i < n.types → Chain (Contains rows cells) (i ∷ is) → funs rows (i ∷ is) ≤ 4
  funs_nested = levels.funs_nested n rows cells w

  -- no two type rows are equal: rows of one form, one number of fields and equal values are one row,
  pub type_once : (i j : ℕ) → i < n.types → j < n.types → form_in rows i ≡ form_in rows j → count_in rows i ≡ count_in rows j
      → ((c : ℕ) → c < count_in rows i → value_in cells (first_in rows i + c) ≡ value_in cells (first_in rows j + c)) → i ≡ j
  type_once = distinct.type_once n rows cells w

  -- so two arrays of one element are one row,
  pub array_once : (i j : ℕ) → i < n.types → j < n.types → form_in rows i ≡ 0 → form_in rows j ≡ 0
      → value_in cells (first_in rows i) ≡ value_in cells (first_in rows j) → i ≡ j
  array_once = distinct.array_once n rows cells w

  -- two of inst with one K,
  pub inst_once : (i j : ℕ) → i < n.types → j < n.types → form_in rows i ≡ 2 → form_in rows j ≡ 2
      → value_in cells (first_in rows i) ≡ value_in cells (first_in rows j) → i ≡ j
  inst_once = distinct.inst_once n rows cells w

  -- and two of fn with one D
  pub fn_once : (i j : ℕ) → i < n.types → j < n.types → form_in rows i ≡ 3 → form_in rows j ≡ 3
      → value_in cells (first_in rows i) ≡ value_in cells (first_in rows j) → i ≡ j
  fn_once = distinct.fn_once n rows cells w
