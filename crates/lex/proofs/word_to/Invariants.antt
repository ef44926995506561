use Rattle.std.proofs.Common.{◌≡◌, ◌+◌, drop}
use Rattle.lex.specs.Text.{before, pack_from}
use Rattle.lex.proofs.Laws.{part}
use Rattle.lex.proofs.word_to.Given as goal

abbrev pub invariant-loop-end : goal.invariant-loop-end
invariant-loop-end l = (before l.c l.s ≡ l.end + before l.c (drop l.end l.s)) × (pack_from 0 (part l.c l.s) ≡ pack_from l.number (part l.c (drop l.end l.s)))
