-- The lines of document 01's report, each as a list of bytes, by what the lent tables have. Definitions alone.
use Rattle.std.specs.Prelude.{List, ◌∷◌, ◌++◌, ℕ, ◌+◌, ◌*◌}
use Rattle.std.proofs.Math.Option.{Option, none, some}
use Rattle.theory.specs.Rules.{Kind, integer, floating, regular, inst, bool, nil, float, double, uint, int, Shape, base, var, arr, ref, fn, fun, lam, err, div}
use Rattle.type_table.specs.Memory.{cell, kind_of}
use Rattle.lex.specs.Text.{text}
use Rattle.nodes.specs.declared.Res.{Res}
use Rattle.nodes.specs.declared.Res.TheVariants as res
use Rattle.record.specs.declared.Extra.{Extra}
use Rattle.record.specs.declared.Extra.TheVariants as extra
use Rattle.record.specs.Own.{flagged, extra_of}
use Rattle.errors.specs.declared.ErrorRow.{ErrorRow}
use Rattle.tables.specs.Rows.{cells_to}
use Rattle.tables.specs.Types.{inputs_from_lem}
use Rattle.tables.specs.Read.{cells_at, made_at}
use Rattle.output.specs.Output.{number_text, newline}
use Rattle.error_lines.specs.ErrorLines.{each_text, error_lines}

-- ── parts of a line ──

-- a number that may be absent: `-` if there is none
abbrev pub option_text : Option ℕ → List ℕ
option_text none = text "-"
option_text (some x) = number_text x

-- the number that the cell behind the flag at i has, if the flag is 1
abbrev pub option_at : List ℕ → ℕ → Option ℕ
option_at t i = flagged (cell t i) (cell t (i + 1))

-- ── the first line ──

-- `answer=N,PLACE`
unfoldable pub answer_line : ℕ → Option ℕ → List ℕ
answer_line n p = text "answer=" ++ number_text n ++ (text "," ++ option_text p) ++ newline

-- ── types: `types=`, one `type` per type made ──

-- `var,V`, `array,E`, `ref,E`, `fn,D`, `inst,K`, `lambda,NODE,OUT,IN..`; no other type is made
abbrev pub type_text : Shape → List ℕ
type_text (var v) = text "var," ++ number_text v
type_text (arr e) = text "array," ++ number_text e
type_text (ref e) = text "ref," ++ number_text e
type_text (fn d) = text "fn," ++ number_text d
type_text (base (inst k)) = text "inst," ++ number_text k
type_text (lam n o i) = text "lambda," ++ number_text n ++ each_text (o ∷ i)
type_text (base bool) = text "-"
type_text (base nil) = text "-"
type_text (base float) = text "-"
type_text (base double) = text "-"
type_text (base (uint w)) = text "-"
type_text (base (int w)) = text "-"
type_text (fun s o i) = text "-"
type_text err = text "-"
type_text div = text "-"

-- the line of the made type i
unfoldable pub type_line : List ℕ → ℕ → List ℕ
type_line t i = text "type=" ++ type_text (made_at t i) ++ newline

-- n made types
unfoldable pub type_lines : List ℕ → ℕ → List ℕ
type_lines t n = text "types=" ++ number_text n ++ newline ++ cells_to (type_line t) n

-- ── variables: `vars=`, `var=KIND,BOUND,ORIGIN` ──

-- KIND is int, float or any
abbrev pub kind_text : Kind → List ℕ
kind_text integer = text "int"
kind_text floating = text "float"
kind_text regular = text "any"

-- the line of the variable v; ORIGIN is the node that drew it, `-` for a literal
unfoldable pub var_line : List ℕ → ℕ → List ℕ
var_line t v =
    text "var=" ++ kind_text (kind_of (cell t (v * 6)))
    ++ (text "," ++ option_text (option_at t (v * 6 + 1)))
    ++ (text "," ++ option_text (option_at t (v * 6 + 3)))
    ++ newline

-- n variables
unfoldable pub var_lines : List ℕ → ℕ → List ℕ
var_lines t n = text "vars=" ++ number_text n ++ newline ++ cells_to (var_line t) n

-- ── nodes: one `node=RAW,FINAL,EXTRA` per node ──

-- a path's `resolved_paths`, by its letter
abbrev pub res_text : Res → List ℕ
res_text (res.Local n) = text "l" ++ number_text n.0
res_text (res.Fn d) = text "f" ++ number_text d.0
res_text (res.Ctor d) = text "c" ++ number_text d.0
res_text (res.Inst k) = text "i" ++ number_text k.0
res_text res.Error = text "e"
res_text res.Other = text "o"

-- EXTRA is the `local_tys` type of a let, the method's def, the path's `resolved_paths`, else `-`
abbrev pub extra_text : Extra → List ℕ
extra_text extra.Absent = text "-"
extra_text (extra.Local t) = number_text t.0
extra_text (extra.Method d) = number_text d.0
extra_text (extra.Resolved r) = res_text r

-- the line of the node i
unfoldable pub node_line : List ℕ → ℕ → List ℕ
node_line t i =
    text "node=" ++ option_text (option_at t (i * 6))
    ++ (text "," ++ option_text (option_at t (i * 6 + 4)))
    ++ (text "," ++ extra_text (extra_of (cell t (i * 6 + 2)) (cell t (i * 6 + 3))))
    ++ newline

-- n nodes
abbrev pub node_lines : List ℕ → ℕ → List ℕ
node_lines t n = cells_to (node_line t) n

-- ── a body that was checked ──

-- behind the answer: t made types, v variables, n nodes and e errors of these tables and rows
unfoldable pub tables_text : ℕ → ℕ → ℕ → ℕ → List ℕ → List ℕ → List ℕ → (ℕ → ErrorRow) → List ℕ
tables_text t v n e nodes vars types errors = type_lines types t ++ var_lines vars v ++ node_lines nodes n ++ error_lines errors e

-- ── what the code writes ──

-- a lambda in the row i
unfoldable pub lambda_text : List ℕ → ℕ → List ℕ
lambda_text t i = text "type=lambda," ++ number_text (cell t (i * 5 + 1)) ++ (text "," ++ number_text (cell t (i * 5 + 2))) ++ each_text (cells_at t (inputs_from_lem + cell t (i * 5 + 3)) (cell t (i * 5 + 4)))
