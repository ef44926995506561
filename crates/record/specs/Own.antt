-- What the walk keeps beside the tables of the theory, and how the lent memory is read for it. Definitions alone.
use Rattle.std.specs.Prelude.{List, [], ◌∷◌, ℕ, suc, zero, ◌+◌, ◌*◌, set, replicate, eqb, None, Option as Option·R, Some}
use Rattle.std.proofs.Math.Option.{Option, none, some}
use Rattle.type_table.specs.declared.TypeId.{TypeId}
use Rattle.type_table.specs.declared.NodeId.{NodeId}
use Rattle.type_table.specs.declared.DefId.{DefId}
use Rattle.type_table.specs.declared.InstId.{InstId}
use Rattle.type_table.specs.Memory.{pick, tab, cell}
use Rattle.nodes.specs.declared.Res.{Res}
use Rattle.nodes.specs.declared.Res.TheVariants as res
use Rattle.nodes.specs.Nodes.{res_of}
use Rattle.record.specs.declared.Extra.{Extra}
use Rattle.record.specs.declared.Extra.TheVariants as extra
use Rattle.record.specs.declared.ErrorKind.{ErrorKind}
use Rattle.record.specs.declared.ErrorKind.TheVariants as error
use Rattle.record.specs.declared.Span.{Span}
use Rattle.record.specs.declared.Span.TheVariants as span
use Rattle.record.specs.declared.TypingError.{TypingError}

-- ── the regions ──

-- the most nodes
abbrev pub most_nodes : ℕ
most_nodes = 1024

-- the most errors: three for each node
abbrev pub most_errors : ℕ
most_errors = 3072

-- the nodes lie behind the tables of types and variables, six cells each
abbrev pub nodes_at : ℕ
nodes_at = 47010

-- the errors lie behind the nodes, nine cells each
abbrev pub errors_at : ℕ
errors_at = 53154

-- the log lies behind the errors, three cells for each equation
abbrev pub log_at : ℕ
log_at = 80802

-- ── nodes: whether it is typed, RAW, EXTRA's tag and number, whether it is resolved, FINAL ──

-- what the walk keeps of its own
pub record Own : Type 0 where
  -- the type that `return` answers to
  pub output : ℕ
  -- RAW of each node
  pub raw : List (Option ℕ)
  -- EXTRA of each node
  pub extra : List Extra
  -- FINAL of each node
  pub final : List (Option ℕ)

-- a cell of the node n
abbrev pub node_cell : List ℕ → ℕ → ℕ → ℕ
node_cell m n k = cell m (nodes_at + n * 6 + k)

-- a number, where a flag is 1
abbrev pub flagged : ℕ → ℕ → Option ℕ
flagged f x = pick (eqb f 1) (some x) none

-- EXTRA by its tag and its number
unfoldable pub extra_of : ℕ → ℕ → Extra
extra_of t x =
    pick (eqb t 0) extra.Absent
    (pick (eqb t 7) (extra.Local (record { 0 = x }))
    (pick (eqb t 8) (extra.Method (record { 0 = x }))
    (extra.Resolved (res_of t x))))

-- RAW of the node n
unfoldable pub raw_at : List ℕ → ℕ → Option ℕ
raw_at m n = flagged (node_cell m n 0) (node_cell m n 1)

-- EXTRA of the node n
unfoldable pub extra_at : List ℕ → ℕ → Extra
extra_at m n = extra_of (node_cell m n 2) (node_cell m n 3)

-- FINAL of the node n
unfoldable pub final_at : List ℕ → ℕ → Option ℕ
final_at m n = flagged (node_cell m n 4) (node_cell m n 5)

-- what the memory has of the nodes, with the type that `return` answers to
unfoldable pub own_of : List ℕ → ℕ → Own
own_of m o = record { output = o; raw = tab (raw_at m) most_nodes; extra = tab (extra_at m) most_nodes; final = tab (final_at m) most_nodes }

-- RAW of each node
abbrev pub raws_of : List ℕ → List (Option ℕ)
raws_of m = tab (raw_at m) most_nodes

-- no node is typed
unfoldable pub blank : ℕ → Own
blank o = record { output = o; raw = replicate most_nodes none; extra = replicate most_nodes extra.Absent; final = replicate most_nodes none }

-- RAW as the code has it
abbrev pub node_type : Option ℕ → Option·R TypeId
node_type none = None
node_type (some t) = Some (record { 0 = t })

-- a node gets its type
unfoldable pub typed : ℕ → ℕ → Own → Own
typed n t o = record { output = o.output; raw = set o.raw n (some t); extra = o.extra; final = o.final }

-- a node gets its EXTRA
unfoldable pub marked : ℕ → Extra → Own → Own
marked n e o = record { output = o.output; raw = o.raw; extra = set o.extra n e; final = o.final }

-- a node gets its final type
unfoldable pub resolved : ℕ → ℕ → Own → Own
resolved n t o = record { output = o.output; raw = o.raw; extra = o.extra; final = set o.final n (some t) }

-- ── the numbers of an EXTRA ──

-- document 01's letters l f c i e o count from 1
abbrev pub res_tag : Res → ℕ
res_tag (res.Local n) = 1
res_tag (res.Fn d) = 2
res_tag (res.Ctor d) = 3
res_tag (res.Inst k) = 4
res_tag res.Error = 5
res_tag res.Other = 6

-- the number behind the letter
abbrev pub res_value : Res → ℕ
res_value (res.Local n) = n.0
res_value (res.Fn d) = d.0
res_value (res.Ctor d) = d.0
res_value (res.Inst k) = k.0
res_value res.Error = 0
res_value res.Other = 0

-- a path's RES, the type of a let, or a method
abbrev pub extra_tag : Extra → ℕ
extra_tag extra.Absent = 0
extra_tag (extra.Resolved r) = res_tag r
extra_tag (extra.Local t) = 7
extra_tag (extra.Method d) = 8

-- its number
abbrev pub extra_value : Extra → ℕ
extra_value extra.Absent = 0
extra_value (extra.Resolved r) = res_value r
extra_value (extra.Local t) = t.0
extra_value (extra.Method d) = d.0

-- ── errors: KIND, CAUSE, P's tag and number, Q's flag and number, three values ──

-- KIND: the variant's position in `TypingError` from 0
abbrev pub kind_number : ErrorKind → ℕ
kind_number error.TypeMismatch = 0
kind_number error.NoIndexOp = 1
kind_number error.NoUnaryOp = 2
kind_number error.NoBinaryOp = 3
kind_number error.CallingNotFn = 4
kind_number error.WrongArgumentTy = 5
kind_number error.WrongArgumentAmnt = 6
kind_number error.NoField = 7
kind_number error.NotInstance = 8
kind_number error.MethodNotFound = 9
kind_number error.InferFail = 10

-- the variant at a position
unfoldable pub kind_at : ℕ → ErrorKind
kind_at k =
    pick (eqb k 0) error.TypeMismatch
    (pick (eqb k 1) error.NoIndexOp
    (pick (eqb k 2) error.NoUnaryOp
    (pick (eqb k 3) error.NoBinaryOp
    (pick (eqb k 4) error.CallingNotFn
    (pick (eqb k 5) error.WrongArgumentTy
    (pick (eqb k 6) error.WrongArgumentAmnt
    (pick (eqb k 7) error.NoField
    (pick (eqb k 8) error.NotInstance
    (pick (eqb k 9) error.MethodNotFound error.InferFail)))))))))

-- P: a node, a bind item by its definition, or the signature
abbrev pub span_tag : Span → ℕ
span_tag (span.Node n) = 0
span_tag (span.Item d) = 1
span_tag span.Signature = 2

-- its number
abbrev pub span_value : Span → ℕ
span_value (span.Node n) = n.0
span_value (span.Item d) = d.0
span_value span.Signature = 0

-- P by its tag and its number
unfoldable pub span_of : ℕ → ℕ → Span
span_of t x = pick (eqb t 0) (span.Node (record { 0 = x })) (pick (eqb t 1) (span.Item (record { 0 = x })) span.Signature)

-- Q: a node, or none
abbrev pub second_tag : Option·R NodeId → ℕ
second_tag None = 0
second_tag (Some n) = 1

-- its number
abbrev pub second_value : Option·R NodeId → ℕ
second_value None = 0
second_value (Some n) = n.0

-- Q by its flag and its number
unfoldable pub second_of : ℕ → ℕ → Option·R NodeId
second_of t x = pick (eqb t 0) None (Some (record { 0 = x }))

-- a cell of the error i
abbrev pub error_cell : List ℕ → ℕ → ℕ → ℕ
error_cell m i k = cell m (errors_at + i * 9 + k)

-- the error i
unfoldable pub error_at : List ℕ → ℕ → TypingError
error_at m i = record {
  kind = kind_at (error_cell m i 0);
  cause = error_cell m i 1;
  at = span_of (error_cell m i 2) (error_cell m i 3);
  second = second_of (error_cell m i 4) (error_cell m i 5);
  a = error_cell m i 6;
  b = error_cell m i 7;
  c = error_cell m i 8;
}

-- the error i with its nine cells
unfoldable pub error_written : List ℕ → ℕ → TypingError → List ℕ
error_written m i e =
    let j = errors_at + i * 9 in
    set (set (set (set (set (set (set (set (set m j (kind_number e.kind)) (j + 1) e.cause) (j + 2) (span_tag e.at)) (j + 3) (span_value e.at)) (j + 4) (second_tag e.second)) (j + 5) (second_value e.second)) (j + 6) e.a) (j + 7) e.b) (j + 8) e.c

-- the first n errors, the newest first
unfoldable pub errors_of : List ℕ → ℕ → List TypingError
errors_of m zero = []
errors_of m (suc n) = error_at m n ∷ errors_of m n
