-- What each return and turn of the function over the table of equations shows, over plain variables.
use mathlib.Core.Path.{◌≡◌, refl, sym, ap, ◌∙◌}
use mathlib.Core.List.{List, [], ◌∷◌, append-nil}
use Prim.Native.Nat.{ℕ, suc, zero, ◌+◌, ◌-◌, ◌*◌, ◌%◌, ◌≤◌, ◌<◌}
use native.Mathlib.Omega.{arith}
use native.Mathlib.Decide.{ℕ_discrete}
use native.Mathlib.Numerals.{towards_suc}
use lib.ListN.{length, set, replicate}
use lib.Seq.{sets}
use borrow.Author.Tests.{le-leb, lt-leb}
use Rattle.theory.specs.Rules.{Out, success, mismatch, refused12, refused13, dry}
use Rattle.theory.specs.Program.{Equation}
use Rattle.type_table.specs.Memory.{cell}
use Rattle.record.specs.declared.Record.{Record}
use Rattle.record.specs.Own.{log_at}
use Rattle.record.specs.Encodes.{answer_number, answer_word, LoggedAt, Logged}
use Rattle.tables.specs.Rows.{padded, cells_to, Fills}
use Rattle.tables.specs.Log.{equation_row, log_table, log_room, equation_at, equation_in}
use Rattle.tables.proofs.CellLaws.{rows_more, rows_filled}

-- the cells of a row are stored
pub row_stored : (m t t₁ w : List ℕ) (f j a b d : ℕ) → a ≡ cell m f → b ≡ cell m (f + 1) → d ≡ cell m (f + 2) → t₁ ≡ sets t j (a ∷ b ∷ []) → w ≡ set t₁ (j + 2) (d % 16) → w ≡ sets t j (equation_at m f)
unfolding equation_at
row_stored m t t₁ w f j a b d p q r e g = rw (← p, ← q, ← r, g, e) (simp towards_suc)

-- the answer's number, out of the third cell of an equation
word_answer : (o : Out) (n : ℕ) → answer_word (answer_number o) n % 16 ≡ answer_number o
word_answer success n = omega arith
word_answer mismatch n = omega arith
word_answer refused12 n = omega arith
word_answer refused13 n = omega arith
word_answer dry n = omega arith

-- a logged equation is in the memory
logged_cells : (m : List ℕ) (i : ℕ) (q : Equation) → LoggedAt m i q → equation_row q ≡ equation_in m i
unfolding equation_in equation_at
logged_cells m i q h = rw (h.0, h.1, h.2, word_answer q.answer q.node)

-- an equation has three cells
length_equation : (m : List ℕ) (i : ℕ) → length (equation_in m i) ≡ 3
unfolding equation_in equation_at
length_equation m i = refl

-- the newest equation fits
newest_fits : (m : List ℕ) (n : ℕ) (q : Equation) (l : List Equation) → length l * 3 + 3 ≤ n → equation_row q ≡ equation_in m (length l) → log_table n l ≡ cells_to (equation_in m) (length l) → log_table n (q ∷ l) ≡ cells_to (equation_in m) (suc (length l))
unfolding log_table cells_to
newest_fits m n q l h e p = rw (le-leb (length l * 3 + 3) n h, p, e)

-- the newest equation does not fit
newest_out : (n : ℕ) (q : Equation) (l : List Equation) → n < length l * 3 + 3 → log_table n (q ∷ l) ≡ log_table n l
unfolding log_table
newest_out n q l h = rw (lt-leb (length l * 3 + 3) n h) (append-nil (log_table n l))

-- the first i equations of the memory, where no more fit
table_in : (m : List ℕ) (n : ℕ) (l : List Equation) (i : ℕ) → Logged m l → log_at + length l * 3 ≤ length m → i ≤ length l → i * 3 ≤ n → (i < length l → n < i * 3 + 3) → log_table n l ≡ cells_to (equation_in m) i
unfolding log_table cells_to Logged
table_in m n [] zero g r h f o = refl
table_in m n [] (suc i) g r h f o = absurd (omega arith)
table_in m n (q ∷ l) i g r h f o = by (ℕ_discrete i (suc (length l))) (λ j h' f' o'. table_in m n l j g.1 (omega arith) h' f' o')
  where
    by : Dec (i ≡ suc (length l)) → ((j : ℕ) → j ≤ length l → j * 3 ≤ n → (j < length l → n < j * 3 + 3) → log_table n l ≡ cells_to (equation_in m) j) → log_table n (q ∷ l) ≡ cells_to (equation_in m) i
    by (yes e) rec = rw e (newest_fits m n q l (omega arith) (logged_cells m (length l) q (g.0 (omega arith))) (rec (length l) (omega arith) (omega arith) (λ a. absurd (omega arith))))
    by (no e) rec = let b : n < i * 3 + 3 = o (omega arith) in newest_out n q l (omega arith) ∙ rec i (omega arith) f (λ a. b)

-- a turn stores one equation more
pub log_more : (m t₀ t w : List ℕ) (i : ℕ) → t ≡ sets t₀ 0 (cells_to (equation_in m) i) → w ≡ sets t (i * 3) (equation_at m (log_at + i * 3)) → w ≡ sets t₀ 0 (cells_to (equation_in m) (i + 1))
unfolding equation_in
log_more m t₀ t w i p q = rows_more (equation_in m) 3 (length_equation m) t₀ t w i p q

-- the first i equations, where no more fit, and zeros behind them
log_filled : (m : List ℕ) (c : Record) (i : ℕ) (t₀ t w : List ℕ) → i ≤ c.equations → i * 3 ≤ length t₀ → (i < c.equations → length t₀ < i * 3 + 3) → t ≡ sets t₀ 0 (cells_to (equation_in m) i) → w ≡ sets t (i * 3) (replicate (length t - i * 3) 0) → Fills m c (log_room (length m)) (λ s. padded (length t₀) (log_table (length t₀) s.log)) w
log_filled m c i t₀ t w h f o p q = record {
  fills = λ s e room.
      let n : c.equations ≡ length s.log = e.equations in
      rows_filled (equation_in m) 3 (length_equation m) t₀ t w i f p q ∙ ap (padded (length t₀)) (sym (table_in m (length t₀) s.log i e.logged room (rw n at h) f (rw n at o)));
}

-- no more fit
pub log_full : (m : List ℕ) (c : Record) (i : ℕ) (t₀ t w : List ℕ) → i < c.equations → i * 3 ≤ length t₀ → length t < i * 3 + 3 → length t ≡ length t₀ → t ≡ sets t₀ 0 (cells_to (equation_in m) i) → w ≡ sets t (i * 3) (replicate (length t - i * 3) 0) → Fills m c (log_room (length m)) (λ s. padded (length t₀) (log_table (length t₀) s.log)) w
log_full m c i t₀ t w h f o l p q = log_filled m c i t₀ t w (omega arith) f (λ a. omega arith) p q

-- there are no more
pub log_whole : (m : List ℕ) (c : Record) (i : ℕ) (t₀ t w : List ℕ) → i ≤ c.equations → c.equations ≤ i → i * 3 ≤ length t₀ → t ≡ sets t₀ 0 (cells_to (equation_in m) i) → w ≡ sets t (c.equations * 3) (replicate (length t - c.equations * 3) 0) → Fills m c (log_room (length m)) (λ s. padded (length t₀) (log_table (length t₀) s.log)) w
log_whole m c i t₀ t w h h' f p q = let z : c.equations ≡ i = omega arith in log_filled m c i t₀ t w h f (λ a. absurd (omega arith)) p (rw z at q)
