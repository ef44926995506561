-- Of TooDeep: the theorems that rest on a declaration which an edit of a definition in specs/ refuses. The definitions and the other theorems stand in
-- specs/TooDeep.antt. Assumes nothing.
use Rattle.std.specs.Prelude.{ℕ, ◌+◌, ◌-◌, ◌<◌, ◌≤◌, ◌≡◌, ◌⊎◌, List, [], ◌∷◌, Bool, false, cond, eqb, length}
use Rattle.std.proofs.Math.Nat.{zero-add}
use Rattle.std.proofs.Common.{arith, sym, ap, ◌∙◌, inl, ltb-true, ltb-false, eqb-true}
use Rattle.std.proofs.Math.Path.{refl}
use Rattle.std.proofs.Math.Logic.{inr}
use Rattle.std.proofs.Math.Bool.{true}
use Rattle.std.proofs.lemmas.Bool.{false≢true}
use Rattle.std.proofs.Math.Dec.{ltb}
use Rattle.lex.specs.Text.{parts_from}
use Rattle.forms.specs.declared.Fault.TheVariants as fault
use Rattle.forms.specs.Form.{key_type, key_node, key_fn}
use Rattle.refs.specs.declared.Counts.{Counts}
use Rattle.refs.specs.Refs.{nodes_at, levels_in}
use Rattle.body.specs.declared.State.{State}
use Rattle.body.specs.declared.Answer.TheVariants as answer
use Rattle.body.specs.Body.{most_bytes, rows_length, cells_length, first, count_of, base_of, is_deep, next, step_of, first_ahead, Ended, refused, read, finish_of, lines_from, held, zeros, settle, body_of, answer_number}
use Rattle.well_formed.specs.Good.{behind, RowsGood}
use Rattle.well_formed.specs.Parsed.{size, parts_size}
use Rattle.well_formed.specs.Bytes.{Enough}
use Rattle.well_formed.specs.Reading.{DeepRow, Reading}
use Rattle.well_formed.proofs.Step.{step_good}
use Rattle.well_formed.specs.WellFormed.{start_reading}
use Rattle.well_formed.specs.Behind.{behind_lines, behind_file}
use Rattle.well_formed.specs.TooDeep.{DeepNodes, DeepTypes, TooDeep, deep_nodes, deep_types, fault_in, proceed_deep, settle_number}

module _ (n : Counts) (rows cells : List ℕ) (good : (k : ℕ) → RowsGood n k rows cells) where
  -- a row that is too deep is one of these
  deep_row : DeepRow n rows → DeepNodes n rows cells ⊎ DeepTypes n rows cells
  unfolding is_deep count_of base_of
  deep_row (k, i, h, d) = by (eqb k key_type) refl (eqb k key_node) refl d
    where
      type : k ≡ key_type → i < count_of n k → ltb 4 (levels_in rows (base_of k + i)) ≡ true → DeepNodes n rows cells ⊎ DeepTypes n rows cells
      type q h e = inr (deep_types n rows cells good i (rw q at h) (ltb-true 4 (levels_in rows i) (rw (q, zero-add i) at e)))

      node : k ≡ key_node → i < count_of n k → ltb 64 (levels_in rows (base_of k + i)) ≡ true → DeepNodes n rows cells ⊎ DeepTypes n rows cells
      node q h e = inl (deep_nodes n rows cells good i (rw q at h) (ltb-true 64 (levels_in rows (nodes_at + i)) (rw q at e)))

      by : (a : Bool) → eqb k key_type ≡ a → (b : Bool) → eqb k key_node ≡ b
          → cond a (ltb 4 (levels_in rows (base_of k + i))) (cond b (ltb 64 (levels_in rows (base_of k + i))) false) ≡ true
          → DeepNodes n rows cells ⊎ DeepTypes n rows cells
      by true p b q e = type (eqb-true k key_type p) h e
      by false p true q e = node (eqb-true k key_node q) h e
      by false p false q e = absurd (false≢true e)

-- behind the last line 6 is given only where a row is too deep
finish_deep : (st : State) (l : ℕ) (cells rows : List ℕ) → Reading st cells rows → fault_in (finish_of st l cells rows) ≡ 6 → TooDeep (next st cells rows)
unfolding finish_of
finish_deep st l cells rows r = by (eqb st.key key_fn) (ltb ahead st.counts.types) st.deep refl
  where
    ahead : ℕ
    ahead = first_ahead st.counts.types 0 st.counts cells rows

    by : (x y z : Bool) → st.deep ≡ z
        → fault_in (cond x (cond y (refused fault.Reference (ahead + 1)) (cond z (refused fault.Levels (l - 1)) (read st.counts cells rows))) (refused fault.Form l)) ≡ 6
        → TooDeep (next st cells rows)
    by false y z s e = absurd (omega arith)
    by true true z s e = absurd (omega arith)
    by true false true s e = deep_row st.counts rows cells r.good (r.deep_there s)
    by true false false s e = absurd (omega arith)

-- the lines of a file behind b bytes of it
lines_deep : (ss : List (List ℕ)) (l b : ℕ) (st : State) (cells rows : List ℕ) → Reading st cells rows → Enough b st.counts.fields → b + size ss ≤ most_bytes + 1
    → fault_in (lines_from ss l st cells rows) ≡ 6 → TooDeep (behind_lines ss st cells rows)
unfolding lines_from behind_lines size
lines_deep [] l b st cells rows r g h = λ e. omega arith
lines_deep (s ∷ []) l b st cells rows r g h = by (eqb (length s) 0)
  where
    by : (x : Bool) → fault_in (cond x (finish_of st l cells rows) (refused fault.Form l)) ≡ 6 → TooDeep (next st cells rows)
    by true e = finish_deep st l cells rows r e
    by false e = absurd (omega arith)
lines_deep (s ∷ t ∷ ts) l b st cells rows r g h =
    proceed_deep (b + length s + 1) l (step_of s st cells rows) (lines_from (t ∷ ts) (l + 1)) (behind_lines (t ∷ ts)) (step_good s b st cells rows r g (omega arith))
    (λ st' cells' rows' r' g'. lines_deep (t ∷ ts) (l + 1) (b + length s + 1) st' cells' rows' r' g' (omega arith))

-- a file is answered 6 only where its tables are too deep behind its last line
file_deep : (s rows cells : List ℕ) → answer_number (body_of s rows cells).answer ≡ 6 → TooDeep (behind_file s rows cells)
unfolding body_of
file_deep s rows cells = by (ltb most_bytes (length s)) refl (ltb (length rows) rows_length) refl (ltb (length cells) cells_length) refl
  where
    whole : Ended
    whole = lines_from (parts_from 10 0 s) 1 first (zeros cells) (zeros rows)

    by : (a : Bool) → ltb most_bytes (length s) ≡ a → (b : Bool) → ltb (length rows) rows_length ≡ b → (c : Bool) → ltb (length cells) cells_length ≡ c
        → answer_number (cond a (held answer.TooLong rows cells) (cond b (held answer.ShortTable rows cells) (cond c (held answer.ShortTable rows cells) (settle whole rows cells)))).answer ≡ 6
        → TooDeep (behind_file s rows cells)
    by true p b q c r e = absurd (omega arith)
    by false p true q c r e = absurd (omega arith)
    by false p false q true r e = absurd (omega arith)
    by false p false q false r e =
        lines_deep (parts_from 10 0 s) 1 0 first (zeros cells) (zeros rows)
        (start_reading rows cells (ltb-false (length rows) rows_length q) (ltb-false (length cells) cells_length r))
        (omega arith) (omega (arith, parts_size 10 0 s, ltb-false most_bytes (length s) p)) (sym (settle_number whole rows cells) ∙ e)

-- so is one that is refused for its levels
pub only_deep : (s rows cells : List ℕ) (l : ℕ) → (body_of s rows cells).answer ≡ answer.Refused fault.Levels l
    → TooDeep (behind_file s rows cells)
only_deep s rows cells l e = file_deep s rows cells (ap answer_number e)
