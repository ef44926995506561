-- Of File: the theorems that rest on a declaration which an edit of a definition in specs/ refuses. The definitions and the other theorems stand in
-- specs/File.antt. Assumes nothing.
use Rattle.std.specs.Prelude.{ℕ, ◌+◌, ◌≤◌, ◌≡◌, refl, List, [], ◌∷◌, ◌++◌, map, Bool, true, false, cond, ltb, eqb, length, take, drop}
use Rattle.std.proofs.Common.{arith, sym, ap, ◌∙◌, length-append, ltb-true, ltb-false, eqb-true, lt-ltb}
use Rattle.std.proofs.Math.Seq.{take-append_seam, drop-append-add}
use Rattle.lex.specs.Text.{before, split, parts_from}
use Rattle.forms.specs.declared.Cell.{Cell}
use Rattle.forms.specs.declared.Fault.TheVariants as fault
use Rattle.forms.specs.Form.{key_of, Parsed, wrong, parsed, parse_line, lay, store_from}
use Rattle.refs.specs.declared.Counts.{Counts}
use Rattle.body.specs.declared.State.{State}
use Rattle.body.specs.declared.Answer.TheVariants as answer
use Rattle.body.specs.Body.{most_bytes, rows_length, cells_length, first, in_order, Stepped, bad, next, judged, valued, step_of, Ended, refused, read, finish_of, proceed, lines_from, Held, held, zeros, settle, body_of}
use Rattle.well_formed.specs.Step.{in_order_lem}
use Rattle.body_rows.specs.Text.{join, Row, row, key_at, value_text, key_text, line_text, file_text, WritableRow, WritableRows}
use Rattle.body_rows.specs.Joined.{over_without, before_parts, join-split, split_some, split_part}
use Rattle.body_rows.specs.ParsedLines.{ParsedLine, parsed_line, parsed_parts, parsed_lines, step_parsed, parsed_from, body_of_parsed, step_parsed_lem, file_parsed}
use Rattle.body_rows.specs.Lines.{ReadAs, key_low, key_read, key_only, line_sign}
use Rattle.body_rows.proofs.Lines.{value_read, value_only, line_over}
use Rattle.body_rows.specs.File.{FileIs, LineIs, RowsAre, parts_all, parts_more, row_parsed, step_row}

-- ── written, then read ──

-- the line of a row is parsed as the row
pub line_parsed : (r : Row) → WritableRow r → parsed_line (line_text r) ≡ row_parsed r
unfolding parsed_line row_parsed line_text
line_parsed r w =
    rw (
      sign,
      lt-ltb (length kt) (length (kt ++ 61 ∷ value_text r)) (omega (arith, length-append kt (61 ∷ value_text r))),
      take-append_seam kt (61 ∷ value_text r),
      drop-append-add kt (61 ∷ value_text r) 1,
      key_read (key_at r.form) (key_low r.form w.form),
      value_read r w,
    )
  where
    kt : List ℕ
    kt = key_text (key_at r.form)

    sign : before 61 (kt ++ 61 ∷ value_text r) ≡ length kt
    sign = line_sign r w.form

-- so its step is the row's
pub step_read : (r : Row) → WritableRow r → (st : State) (cells rows : List ℕ) → step_of (line_text r) st cells rows ≡ step_row r st cells rows
step_read r w st cells rows = step_parsed_lem (line_text r) st cells rows ∙ ap (λ (p : ParsedLine). step_parsed p st cells rows) (line_parsed r w)

-- the parts of the text of rows are parsed as the rows
parts_parsed : (rs : List Row) → WritableRows rs → parsed_parts (split 10 (file_text rs)) ≡ map row_parsed rs
unfolding file_text WritableRows split parsed_parts
parts_parsed [] w = refl
parts_parsed (r ∷ rs) w =
    ap parsed_parts (split_part 10 (line_text r) (file_text rs) (over_without 43 10 (line_text r) (omega arith) (line_over r w.0.form)))
    ∙ parts_more (line_text r) (split 10 (file_text rs)) (split_some 10 (file_text rs))
    ∙ rw (line_parsed r w.0, parts_parsed rs w.1)

-- the text of rows is parsed as the rows
pub rows_parsed : (rs : List Row) → WritableRows rs → parsed_lines (file_text rs) ≡ map row_parsed rs
rows_parsed rs w = ap parsed_parts (parts_all (file_text rs)) ∙ parts_parsed rs w

-- READ-BACK: to read the text of rows is to run the rules of the reader on the rows
pub file_read : (rs : List Row) → WritableRows rs → (rows cells : List ℕ)
    → body_of (file_text rs) rows cells ≡ body_of_parsed (length (file_text rs)) (map row_parsed rs) rows cells
file_read rs w rows cells = file_parsed (file_text rs) rows cells ∙ ap (λ (ps : List ParsedLine). body_of_parsed (length (file_text rs)) ps rows cells) (rows_parsed rs w)

-- ── read, then written ──

-- a line that was read is the line of a row
line_only : (s : List ℕ) (st : State) (cells rows : List ℕ) (st' : State) (cells' rows' : List ℕ) → step_of s st cells rows ≡ next st' cells' rows'
    → (r : Row) × LineIs s r st cells rows (next st' cells' rows')
unfolding step_of line_text row_parsed step_parsed
line_only s st cells rows st' cells' rows' e = by (ltb (before 61 s) (length s)) refl (in_order st.key k) refl (parse_line k v) refl e
  where
    k : ℕ
    k = key_of (take (before 61 s) s)

    v : List ℕ
    v = drop (before 61 s + 1) s

    by : (a : Bool) → ltb (before 61 s) (length s) ≡ a → (b : Bool) → in_order st.key k ≡ b → (p : Parsed) → parse_line k v ≡ p
        → cond a (cond b (valued st k (lay p cells st.counts.fields) rows) (bad fault.Form)) (bad fault.Form) ≡ next st' cells' rows'
        → (r : Row) × LineIs s r st cells rows (next st' cells' rows')
    by false p b q x u e = let z : ◌≡◌ {A = ℕ} 0 1 = cc in absurd (omega arith)
    by true p false q x u e = let z : ◌≡◌ {A = ℕ} 0 1 = cc in absurd (omega arith)
    by true p true q (wrong x l') u e = let z : ◌≡◌ {A = ℕ} 0 1 = cc in absurd (omega arith)
    by true p true q (parsed f l) u e =
        let g : ReadAs k v (row f l) = value_only k v f l u in
        (row f l, record { writable = g.writable; line = whole f l g; step = stepped f l g e })
      where
        whole : (f : ℕ) (l : List Cell) → ReadAs k v (row f l) → line_text (row f l) ≡ s
        whole f l g = rw (g.key, g.value, key_only (take (before 61 s) s) (in_order_lem st.key k q).0) (before_parts 61 s (ltb-true (before 61 s) (length s) p))

        stepped : (f : ℕ) (l : List Cell) → ReadAs k v (row f l) → judged st k f (length l) (store_from cells st.counts.fields l) rows ≡ next st' cells' rows'
            → step_row (row f l) st cells rows ≡ next st' cells' rows'
        stepped f l g e = rw (g.key, q) e

-- lines that were read to their end are rows
lines_only : (ss : List (List ℕ)) (l : ℕ) (st : State) (cells rows : List ℕ) (n : Counts) (cells' rows' : List ℕ)
    → lines_from ss l st cells rows ≡ read n cells' rows' → (rs : List Row) × RowsAre (join 10 ss) rs l st cells rows (read n cells' rows')
unfolding lines_from join WritableRows file_text parsed_from
lines_only [] l st cells rows n cells' rows' e = let z : ◌≡◌ {A = ℕ} 0 1 = cc in absurd (omega arith)
lines_only (s ∷ []) l st cells rows n cells' rows' e = by s (eqb (length s) 0) refl e
  where
    empty : (s : List ℕ) → length s ≡ 0 → s ≡ []
    empty [] h = refl
    empty (x ∷ s) h = absurd (omega (arith, h))

    by : (s : List ℕ) (b : Bool) → eqb (length s) 0 ≡ b → cond b (finish_of st l cells rows) (refused fault.Form l) ≡ read n cells' rows'
        → (rs : List Row) × RowsAre (join 10 (s ∷ [])) rs l st cells rows (read n cells' rows')
    by s true p e = ([], record { writable = tt; file = sym (empty s (eqb-true (length s) 0 p)); ends = e })
    by s false p e = let z : ◌≡◌ {A = ℕ} 0 1 = cc in absurd (omega arith)
lines_only (s ∷ t ∷ ts) l st cells rows n cells' rows' e = by (step_of s st cells rows) refl e (lines_only (t ∷ ts) (l + 1))
  where
    by : (x : Stepped) → step_of s st cells rows ≡ x → proceed x l (lines_from (t ∷ ts) (l + 1)) ≡ read n cells' rows'
        → ((st : State) (cells rows : List ℕ) (n : Counts) (cells' rows' : List ℕ)
        → lines_from (t ∷ ts) (l + 1) st cells rows ≡ read n cells' rows' → (rs : List Row) × RowsAre (join 10 (t ∷ ts)) rs (l + 1) st cells rows (read n cells' rows'))
        → (rs : List Row) × RowsAre (join 10 (s ∷ t ∷ ts)) rs l st cells rows (read n cells' rows')
    by (bad x) p e ih = let z : ◌≡◌ {A = ℕ} 0 1 = cc in absurd (omega arith)
    by (next st'' cells'' rows'') p e ih =
        let r = line_only s st cells rows st'' cells'' rows'' p in
        let q = ih st'' cells'' rows'' n cells' rows' e in (
          r.0 ∷ q.0,
          record {
            writable = (r.1.writable, q.1.writable);
            file = rw (r.1.line, q.1.file);
            ends = rw r.1.step q.1.ends;
          },
        )

-- every file that is read is the text of rows
pub file_only : (s rows cells : List ℕ) (n : Counts) → (body_of s rows cells).answer ≡ answer.Body n
    → (rs : List Row) × FileIs s rs n cells rows (body_of s rows cells)
unfolding body_of
file_only s rows cells n = by (ltb most_bytes (length s)) refl (ltb (length rows) rows_length) refl (ltb (length cells) cells_length) refl
  where
    whole : Ended
    whole = lines_from (parts_from 10 0 s) 1 first (zeros cells) (zeros rows)

    file : (a b c : Bool) → Held
    file a b c = cond a (held answer.TooLong rows cells) (cond b (held answer.ShortTable rows cells) (cond c (held answer.ShortTable rows cells) (settle whole rows cells)))

    end : (x : Ended) → whole ≡ x → length s ≤ most_bytes → rows_length ≤ length rows → cells_length ≤ length cells → (settle x rows cells).answer ≡ answer.Body n
        → (rs : List Row) × FileIs s rs n cells rows (settle x rows cells)
    end (refused x l) p a b c e = let z : ◌≡◌ {A = ℕ} 0 1 = cc in absurd (omega arith)
    end (read n' cells' rows') p a b c e =
        let q : n' ≡ n = cc in
        let r = lines_only (split 10 s) 1 first (zeros cells) (zeros rows) n' cells' rows' (rw (parts_all s) at p) in (
          r.0,
          record {
            writable = r.1.writable;
            file = r.1.file ∙ join-split 10 s;
            ends = r.1.ends ∙ ap (λ (m : Counts). read m cells' rows') q;
            short = a;
            rows_long = b;
            cells_long = c;
          },
        )

    by : (a : Bool) → ltb most_bytes (length s) ≡ a → (b : Bool) → ltb (length rows) rows_length ≡ b → (c : Bool) → ltb (length cells) cells_length ≡ c
        → (file a b c).answer ≡ answer.Body n → (rs : List Row) × FileIs s rs n cells rows (file a b c)
    by true p b q c r e = let z : ◌≡◌ {A = ℕ} 0 1 = cc in absurd (omega arith)
    by false p true q c r e = let z : ◌≡◌ {A = ℕ} 0 1 = cc in absurd (omega arith)
    by false p false q true r e = let z : ◌≡◌ {A = ℕ} 0 1 = cc in absurd (omega arith)
    by false p false q false r e =
        end whole refl (ltb-false most_bytes (length s) p) (ltb-false (length rows) rows_length q) (ltb-false (length cells) cells_length r) e
