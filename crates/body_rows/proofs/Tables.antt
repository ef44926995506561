-- Of Tables: the theorems that rest on a declaration which an edit of a definition in specs/ refuses. The definitions and the other theorems stand in
-- specs/Tables.antt. Assumes nothing.
use Prim.Native.Nat.{ℕ, ◌+◌, ◌*◌, ◌≤◌}
use Rattle.std.proofs.Common.{arith, sym, subst, ◌∙◌, length-append}
use Rattle.std.specs.Prelude.{◌≡◌, length}
use Rattle.std.proofs.Math.Path.{refl, ap}
use mathlib.Core.List.{List, [], ◌∷◌, ◌++◌, append_assoc, append-nil}
use Rattle.forms.specs.Form.{key_fn}
use Rattle.refs.specs.declared.Counts.{Counts}
use Rattle.body.specs.declared.State.{State}
use Rattle.body.specs.declared.Answer.TheVariants as answer
use Rattle.body.specs.Body.{most_bytes, first, counted, advance, Stepped, bad, next, read, proceed, zeros, body_of}
use Rattle.well_formed.specs.Bytes.{Enough}
use Rattle.well_formed.specs.Reading.{Reading}
use Rattle.well_formed.specs.Step.{GoodStep}
use Rattle.well_formed.proofs.Step.{step_good}
use Rattle.well_formed.specs.WellFormed.{start_reading}
use Rattle.body_rows.specs.Text.{Row, line_text, file_text, keys_from, body_rows, lookup_in, file_text_in, WritableRow, WritableRows}
use Rattle.body_rows.specs.ParsedLines.{parsed_from}
use Rattle.body_rows.specs.File.{step_row, rows_from, FileIs}
use Rattle.body_rows.proofs.File.{step_read, file_only}
use Rattle.body_rows.specs.Steps.{state_behind, WasMade, step_made}
use Rattle.body_rows.specs.Tables.{Behind, finish_only, rows_read, rows_read_more, start_none}

-- ── a file ──

-- what is known behind a step of a row that has a text
pub step_behind : (r : Row) (b : ℕ) (st : State) (cells rows : List ℕ) (st' : State) (cells' rows' : List ℕ) → WritableRow r → Reading st cells rows → Enough b st.counts.fields
    → b + length (line_text r) + 1 ≤ most_bytes → step_row r st cells rows ≡ next st' cells' rows'
    → Behind r st cells rows (b + length (line_text r) + 1) st' cells' rows'
unfolding advance counted
step_behind r b st cells rows st' cells' rows' w reading enough most h =
    let was : WasMade r st cells rows st' cells' rows' = step_made r st cells rows st' cells' rows' h in
    let good : GoodStep (b + length (line_text r) + 1) (next st' cells' rows') =
    rw (step_read r w st cells rows ∙ h) at (step_good (line_text r) b st cells rows reading enough most) in
    record { was = was; reading = good.0; enough = good.1; wide = by was good.1 }
  where
    fields : (e : ℕ) → (state_behind r st e).counts.fields ≡ st.counts.fields + length r.cells
    fields e = refl

    by : WasMade r st cells rows st' cells' rows' → Enough (b + length (line_text r) + 1) st'.counts.fields → (st.counts.fields + length r.cells) * 3 ≤ length cells
    by was e = omega (arith, ap (λ (s : State). s.counts.fields) was.state, fields was.levels, e, reading.cells_long)

-- the rows of the tables are those that were read
pub rows_tables : (rs : List Row) (l b : ℕ) (st : State) (cells rows : List ℕ) (n : Counts) (cells' rows' : List ℕ) → WritableRows rs → Reading st cells rows → Enough b st.counts.fields
    → b + length (file_text rs) ≤ most_bytes → rows_from rs l st cells rows ≡ read n cells' rows'
    → body_rows n (lookup_in rows' cells') ≡ rows_read st rows cells ++ rs
unfolding parsed_from WritableRows file_text body_rows rows_read
rows_tables [] l b st cells rows n cells' rows' w reading enough most e =
    let q = finish_only st l cells rows n cells' rows' e in
    rw (← q.1, ← q.2, ← q.3) (whole q.0)
  where
    whole : st.key ≡ key_fn → body_rows st.counts (lookup_in rows cells) ≡ rows_read st rows cells ++ []
    whole q = rw q (sym (append-nil (keys_from st.counts (lookup_in rows cells) 0 5 ++ (lookup_in rows cells key_fn 0 ∷ []))))
rows_tables (r ∷ rs) l b st cells rows n cells' rows' w reading enough most e = by (step_row r st cells rows) refl e (rows_tables rs (l + 1))
  where
    size : b + length (line_text r) + 1 + length (file_text rs) ≤ most_bytes
    size = omega (arith, most, length-append (line_text r) (10 ∷ file_text rs))

    by : (x : Stepped) → step_row r st cells rows ≡ x → proceed x l (rows_from rs (l + 1)) ≡ read n cells' rows'
        → ((b : ℕ) (st : State) (cells rows : List ℕ) (n : Counts) (cells' rows' : List ℕ) → WritableRows rs → Reading st cells rows → Enough b st.counts.fields
        → b + length (file_text rs) ≤ most_bytes → rows_from rs (l + 1) st cells rows ≡ read n cells' rows' → body_rows n (lookup_in rows' cells') ≡ rows_read st rows cells ++ rs)
        → body_rows n (lookup_in rows' cells') ≡ rows_read st rows cells ++ r ∷ rs
    by (bad x) p e ih = let z : ◌≡◌ {A = ℕ} 0 1 = cc in absurd (omega arith)
    by (next st'' cells'' rows'') p e ih =
        let g : Behind r st cells rows (b + length (line_text r) + 1) st'' cells'' rows'' = step_behind r b st cells rows st'' cells'' rows'' w.0 reading enough (omega (arith, size)) p in
        ih (b + length (line_text r) + 1) st'' cells'' rows'' n cells' rows' w.1 g.reading g.enough size e
        ∙ ap (λ (t : List Row). t ++ rs) (more g)
        ∙ append_assoc (rows_read st rows cells) (r ∷ []) rs
      where
        more : Behind r st cells rows (b + length (line_text r) + 1) st'' cells'' rows'' → rows_read st'' rows'' cells'' ≡ rows_read st rows cells ++ (r ∷ [])
        more g = rw (← g.was.state, ← g.was.stored, ← g.was.put) (rows_read_more r st cells rows g.was.levels g.was.links g.was.made reading g.wide)

-- a file that is read, by the rows of its tables
pub rows_of_read : (s rows cells : List ℕ) (n : Counts) → (body_of s rows cells).answer ≡ answer.Body n
    → FileIs s (body_rows n (lookup_in (body_of s rows cells).rows (body_of s rows cells).cells)) n cells rows (body_of s rows cells)
rows_of_read s rows cells n e =
    let f = file_only s rows cells n e in
    let g : FileIs s f.0 n cells rows (body_of s rows cells) = f.1 in
    let q : body_rows n (lookup_in (body_of s rows cells).rows (body_of s rows cells).cells) ≡ f.0 =
    rows_tables f.0 1 0 first (zeros cells) (zeros rows) n (body_of s rows cells).cells (body_of s rows cells).rows g.writable
    (start_reading rows cells g.rows_long g.cells_long) (omega arith) (omega (arith, g.short, ap length g.file)) g.ends
    ∙ ap (λ (t : List Row). t ++ f.0) (start_none (zeros rows) (zeros cells)) in
    subst (λ (rs : List Row). FileIs s rs n cells rows (body_of s rows cells)) (sym q) g

-- WRITE AFTER READ: the text of the tables of a file that is read is the file
pub text_of_read : (s rows cells : List ℕ) (n : Counts) → (body_of s rows cells).answer ≡ answer.Body n
    → file_text_in n (body_of s rows cells).rows (body_of s rows cells).cells ≡ s
unfolding file_text_in
text_of_read s rows cells n e = (rows_of_read s rows cells n e).file
