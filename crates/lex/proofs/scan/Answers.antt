use Rattle.std.proofs.Common.{rules}
use Rattle.lex.proofs.Laws.{scan_past, scan_empty, scan_zero, scan_start, scan_stop, scan_digit, scan_comma, scan_end}
use Rattle.lex.proofs.scan.Goals as goal
use Rattle.lex.proofs.scan.Goals.{then-p-s-via-then-p-s, then-p-s-via-else-p-s+then-s-p-eq48, then-p-s-via-else-p-s+else-s-p-eq48+then-s-p-eq44}

pub returns-then-p-s : goal.returns-then-p-s
returns-then-p-s c =
    elim c.then-p-s.branch [
      | then-p-s-via-then-p-s w ↦ search (rules, scan_past)
      | then-p-s-via-else-p-s+then-s-p-eq48 w ↦ search (rules, scan_zero)
      | then-p-s-via-else-p-s+else-s-p-eq48+then-s-p-eq44 w ↦ search (rules, scan_empty)
    ]

pub loop-end-init : goal.loop-end-init
loop-end-init c = search (rules, scan_start)

pub returns-then-s-end-eq44 : goal.returns-then-s-end-eq44
returns-then-s-end-eq44 c = search (rules, scan_comma)

pub returns-in_err-n : goal.returns-in_err-n
returns-in_err-n c = search (rules, scan_stop)

pub loop-end-preserved : goal.loop-end-preserved
loop-end-preserved c = search (rules, scan_digit)

pub returns : goal.returns
returns c = search (rules, scan_end)
