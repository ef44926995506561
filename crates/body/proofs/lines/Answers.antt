use Rattle.std.proofs.Common.{rules, arith, sym}
use Rattle.body.proofs.Laws.{part_length, unended, bad_line, next_line, at-end}
use Rattle.body.proofs.lines.Goals as goal

pub returns-then-e-s : goal.returns-then-e-s
returns-then-e-s c = sym (search (rules, unended))

pub returns-in-Err : goal.returns-in-Err
returns-in-Err c = sym (search (rules, bad_line))

pub loop-p-preserved : goal.loop-p-preserved
loop-p-preserved c = (
  search rules,
  search rules,
  omega (arith, part_length c.args.s.now c.loop-p.p c.field_end-e.result c.field_end-e.ensures.within.1, c.in-Ok.ensures.within),
  search (rules, next_line),
)

pub returns : goal.returns
returns c = sym (search (rules, at-end))
