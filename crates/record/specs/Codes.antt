-- What is written as a tag and a number is read as it was.
use Rattle.std.specs.Prelude.{◌≡◌, refl, None, Option, Some}
use Rattle.nodes.specs.declared.Res.{Res}
use Rattle.nodes.specs.declared.Res.TheVariants as res
use Rattle.nodes.specs.Nodes.{res_of}
use Rattle.record.specs.declared.Extra.{Extra}
use Rattle.record.specs.declared.Extra.TheVariants as extra
use Rattle.record.specs.declared.ErrorKind.{ErrorKind}
use Rattle.record.specs.declared.ErrorKind.TheVariants as error
use Rattle.record.specs.declared.Span.{Span}
use Rattle.record.specs.declared.Span.TheVariants as span
use Rattle.record.specs.Own.{extra_of, res_tag, res_value, extra_tag, extra_value, kind_number, kind_at, span_tag, span_value, span_of, second_tag, second_value, second_of}
use Rattle.type_table.specs.declared.NodeId.{NodeId}

-- RES as an EXTRA
res_read : (r : Res) → extra_of (res_tag r) (res_value r) ≡ extra.Resolved r
unfolding extra_of res_of
res_read (res.Local n) = refl
res_read (res.Fn d) = refl
res_read (res.Ctor d) = refl
res_read (res.Inst k) = refl
res_read res.Error = refl
res_read res.Other = refl

-- EXTRA
pub extra_read : (e : Extra) → extra_of (extra_tag e) (extra_value e) ≡ e
unfolding extra_of
extra_read extra.Absent = refl
extra_read (extra.Local t) = refl
extra_read (extra.Method d) = refl
extra_read (extra.Resolved r) = res_read r

-- KIND
pub kind_read : (k : ErrorKind) → kind_at (kind_number k) ≡ k
unfolding kind_at
kind_read error.TypeMismatch = refl
kind_read error.NoIndexOp = refl
kind_read error.NoUnaryOp = refl
kind_read error.NoBinaryOp = refl
kind_read error.CallingNotFn = refl
kind_read error.WrongArgumentTy = refl
kind_read error.WrongArgumentAmnt = refl
kind_read error.NoField = refl
kind_read error.NotInstance = refl
kind_read error.MethodNotFound = refl
kind_read error.InferFail = refl

-- P
pub span_read : (p : Span) → span_of (span_tag p) (span_value p) ≡ p
unfolding span_of
span_read (span.Node n) = refl
span_read (span.Item d) = refl
span_read span.Signature = refl

-- Q
pub second_read : (q : Option NodeId) → second_of (second_tag q) (second_value q) ≡ q
unfolding second_of
second_read None = refl
second_read (Some n) = refl
