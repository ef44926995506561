use native.Mathlib.Omega.{arith}
use mathlib.Core.Path.{refl}
use Prim.Native.Nat.{◌/◌}
use lib.ListN.{length}
use Rattle.flat_report.proofs.FlatLaws.{end_within, flat_law}
use Rattle.flat_report.proofs.report_flat.Goals as goal

pub put_errors-requires : goal.put_errors-requires
put_errors-requires c = omega (arith, c.errors_end-end.ensures, end_within c.answer_of-a.result (length c.args.errors.now / 9))

pub returns : goal.returns
returns c = flat_law c.args.s.now c.args.rows.now c.args.cells.now c.args.nodes.now c.args.vars.now c.args.types.now c.args.errors.now c.args.log.now c.args.memory.now c.args.out.now _ _ _ _ _ _ _ _ _ refl c.report_tables-r.ensures c.answer_of-a.ensures c.errors_used-used.ensures c.errors_end-end.ensures c.put_errors.ensures c.end_memory.ensures
