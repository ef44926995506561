use Rattle.std.proofs.Common.{◌≡◌, drop}
use Rattle.lex.specs.Text.{pack_from}
use Rattle.lex.proofs.pack.Given as goal

abbrev pub invariant-loop-x : goal.invariant-loop-x
invariant-loop-x l = pack_from 0 l.s ≡ pack_from l.a (drop l.x-index l.s)
