use Rattle.std.proofs.Common.{◌≡◌, ◌≤◌}
use Rattle.lex.specs.Text.{scan_of}
use Rattle.lex.proofs.Laws.{scanned}
use Rattle.lex.proofs.scan.Given as goal

abbrev pub invariant-loop-end : goal.invariant-loop-end
invariant-loop-end l = (l.n ≤ 65535) × (scan_of l.s l.p ≡ scanned l.s l.n l.end)
