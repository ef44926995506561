use Rattle.std.proofs.Common.{rules}
use Rattle.forms.proofs.Laws.{scanned, taken_is, taken_bad}
use Rattle.forms.proofs.field.Goals as goal

pub returns-in-Some : goal.returns-in-Some
returns-in-Some c =
    let t = scanned c.args.k c.args.p c.args.v.now c.in-Some.n c.in-Some.e (search rules) c.if-k-ge16.true c.if-k-lt48.true c.in-Some.ensures in
    record { within = t.0; value = rw c.nameless.ensures t.1 }

pub returns-in_err-cell-clause-value : goal.returns-in_err-cell-clause-value
returns-in_err-cell-clause-value c = search (rules, taken_bad)

pub returns-clause-value : goal.returns-clause-value
returns-clause-value c = search (rules, taken_is)
