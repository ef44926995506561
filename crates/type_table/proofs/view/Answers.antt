use Rattle.type_table.proofs.Laws.{view_row}
use Rattle.type_table.proofs.view.Goals as goal

pub returns : goal.returns
returns c = view_row _ _ _ _ _ _ _ _ c.head.ensures c.number.ensures c.output.ensures c.inputs.ensures c.decode.ensures
