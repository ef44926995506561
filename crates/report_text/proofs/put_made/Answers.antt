use Rattle.report_text.proofs.LineLaws.{made_lambda, made_other}
use Rattle.tables.specs.Read.{made_at}
use Rattle.type_table.specs.Memory.{shape_of}
use Rattle.lex.specs.Text.{text}
use mathlib.Core.List.{◌++◌}
use mathlib.Core.Path.{ap}
use Rattle.output.specs.Appending.{appends_as}
use Rattle.report_text.proofs.put_made.Goals as goal

pub returns-in-5 : goal.returns-in-5
unfolding made_at shape_of
returns-in-5 c = rw (← c.read-h.ensures, ← c.read-n.ensures, c.in-5.is) c.put_field.ensures

pub returns-in-7 : goal.returns-in-7
unfolding made_at shape_of
returns-in-7 c = rw (← c.read-h.ensures, ← c.read-n.ensures, c.in-7.is) c.put_field-in-7.ensures

pub returns-in-8 : goal.returns-in-8
unfolding made_at shape_of
returns-in-8 c = rw (← c.read-h.ensures, ← c.read-n.ensures, c.in-8.is) c.put_field-in-8.ensures

pub returns-in-12 : goal.returns-in-12
unfolding made_at shape_of
returns-in-12 c = rw (← c.read-h.ensures, ← c.read-n.ensures, c.in-12.is) c.put_field-in-12.ensures

pub returns-in-13 : goal.returns-in-13
unfolding made_at shape_of
returns-in-13 c = made_lambda _ _ _ c.read-h.ensures c.in-13.is c.put_lambda.ensures

pub returns-in-14 : goal.returns-in-14
unfolding made_at shape_of
returns-in-14 c = rw (← c.read-h.ensures, ← c.read-n.ensures, c.in-14.is) c.put_field-in-14.ensures

pub returns-in_default : goal.returns-in_default
unfolding made_at shape_of
returns-in_default c = appends_as (ap (λ u. text "type=" ++ u) (made_other c.args.t.now c.args.i _ c.read-h.ensures c.in_default.in_default-own.rest)) c.put_all.ensures
