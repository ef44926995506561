-- The laws of tables as rows of cells: equal rows, how many cells there are, rows behind rows.
use Rattle.std.specs.Prelude.{◌≡◌, refl, List, [], ◌∷◌, ◌++◌, ℕ, suc, zero, ◌+◌, ◌-◌, ◌*◌, ◌≤◌, length, replicate}
use Rattle.std.proofs.Common.{sym, ap, ◌∙◌, append-nil, append_assoc, arith, suc-mul, zero-mul, length-append}
use Rattle.std.proofs.lemmas.List.{length-replicate}
pub use Rattle.table_cells.specs.Rows.{cells_ext}
use Rattle.type_table.specs.Memory.{tab}
use Rattle.type_table.specs.Tables.{tab_snoc}
use Rattle.theory.specs.Rules.{Shape}
use Rattle.tables.specs.Rows.{padded, cells_to, cells_of}
use Rattle.tables.specs.Types.{shape_inputs, type_row, type_rows, inputs_of}

-- rows of k cells each
pub length_cells : (f : ℕ → List ℕ) (k : ℕ) → ((i : ℕ) → length (f i) ≡ k) → (n : ℕ) → length (cells_to f n) ≡ n * k
unfolding cells_to
length_cells f k e zero = sym (zero-mul k)
length_cells f k e (suc n) = length-append (cells_to f n) (f n) ∙ rw (length_cells f k e n, e n) (sym (suc-mul n k))

-- the cells of two lists of rows
pub cells_append : {A : Type 0} (g : A → List ℕ) (l r : List A) → cells_of g (l ++ r) ≡ cells_of g l ++ cells_of g r
unfolding cells_of
cells_append g [] r = refl
cells_append g (x ∷ l) r = rw (cells_append g l r) (sym (append_assoc (g x) (cells_of g l) (cells_of g r)))

-- the rows of a list are its first, its second, and so on
pub cells_tab : {A : Type 0} (g : A → List ℕ) (f : ℕ → A) (n : ℕ) → cells_of g (tab f n) ≡ cells_to (λ j. g (f j)) n
unfolding cells_of cells_to
cells_tab g f zero = refl
cells_tab g f (suc n) = ap (cells_of g) (tab_snoc f n) ∙ cells_append g (tab f n) (f n ∷ []) ∙ rw (append-nil (g (f n)), cells_tab g f n)

-- what is padded is as long as was asked for
pub length-padded : (n : ℕ) (xs : List ℕ) → length xs ≤ n → length (padded n xs) ≡ n
length-padded n xs h = omega (arith, h, length-append xs (replicate (n - length xs) 0), length-replicate {A = ℕ} (n - length xs) 0)

-- the rows of two lists of types
pub types_append : (k : ℕ) (l r : List Shape) → type_rows k (l ++ r) ≡ type_rows k l ++ type_rows (k + length (inputs_of l)) r
unfolding type_rows cells_of
types_append k [] r = let z : k + 0 ≡ k = omega arith in rw z
types_append k (x ∷ l) r =
    let a = length (shape_inputs x) in
    let z : k + length (shape_inputs x ++ inputs_of l) ≡ k + a + length (inputs_of l) = omega (arith, length-append (shape_inputs x) (inputs_of l)) in
    rw z (ap (λ (v : List ℕ). type_row k x ++ v) (types_append (k + a) l r))
