-- The lines of the errors in document 01's report, each as a list of bytes, by the rows of the errors. Definitions alone.
use Rattle.std.specs.Prelude.{List, [], ◌∷◌, ◌++◌, ℕ, length, None, Option, Some}
use Rattle.lex.specs.Text.{text}
use Rattle.record.specs.declared.ErrorKind.{ErrorKind}
use Rattle.record.specs.declared.ErrorKind.TheVariants as error
use Rattle.record.specs.declared.Span.{Span}
use Rattle.record.specs.declared.Span.TheVariants as span
use Rattle.record.specs.declared.TypingError.{TypingError}
use Rattle.record.specs.Own.{kind_number}
use Rattle.errors.specs.declared.ErrorRow.{ErrorRow}
use Rattle.errors.specs.Rows.{error_of}
use Rattle.tables.specs.Rows.{cells_to}
use Rattle.output.specs.Output.{number_text, newline}
use Rattle.type_table.specs.declared.NodeId.{NodeId}

-- numbers, each after a comma
unfoldable pub each_text : List ℕ → List ℕ
each_text [] = []
each_text (x ∷ l) = text "," ++ number_text x ++ each_text l

-- ── errors: `errors=`, `error=KIND,CAUSE,P,Q,values` ──

-- P is the spanned node; `sig` stands for the signature, `dD` for a bind item
abbrev pub span_text : Span → List ℕ
span_text (span.Node n) = number_text n.0
span_text (span.Item d) = text "d" ++ number_text d.0
span_text span.Signature = text "sig"

-- Q is the second of `Span::between` or `-`
abbrev pub second_text : Option NodeId → List ℕ
second_text (Some n) = number_text n.0
second_text None = text "-"

-- the values of an error: the fields of its variant in order; InferFail has none
abbrev pub values_of : ErrorKind → ℕ → ℕ → ℕ → List ℕ
values_of error.TypeMismatch a b c = a ∷ b ∷ []
values_of error.NoIndexOp a b c = a ∷ []
values_of error.NoUnaryOp a b c = a ∷ []
values_of error.NoBinaryOp a b c = a ∷ b ∷ []
values_of error.CallingNotFn a b c = a ∷ []
values_of error.WrongArgumentTy a b c = a ∷ b ∷ c ∷ []
values_of error.WrongArgumentAmnt a b c = a ∷ b ∷ []
values_of error.NoField a b c = a ∷ b ∷ []
values_of error.NotInstance a b c = a ∷ []
values_of error.MethodNotFound a b c = a ∷ b ∷ []
values_of error.InferFail a b c = []

-- P and Q
abbrev pub place_text : TypingError → List ℕ
place_text e = (text "," ++ span_text e.at) ++ (text "," ++ second_text e.second)

-- the line of an error: KIND is the variant's position in `TypingError` from 0
unfoldable pub error_text : TypingError → List ℕ
error_text e =
    text "error=" ++ number_text (kind_number e.kind)
    ++ (text "," ++ number_text e.cause)
    ++ place_text e
    ++ each_text (values_of e.kind e.a e.b e.c)
    ++ newline

-- the line of a row
unfoldable pub error_line : ErrorRow → List ℕ
error_line r = error_text (error_of r)

-- n errors, by their rows
unfoldable pub error_lines : (ℕ → ErrorRow) → ℕ → List ℕ
error_lines f n = text "errors=" ++ number_text n ++ newline ++ cells_to (λ i. error_line (f i)) n

-- ── what the code writes ──

-- how many values an error has
abbrev pub value_count : ErrorKind → ℕ
value_count k = length (values_of k 0 0 0)

-- the three numbers of a row for its values
abbrev pub value_cells : ErrorRow → List ℕ
value_cells r = r.a ∷ r.b ∷ r.c ∷ []
