use Rattle.rules.proofs.Laws.{empty-is}
use Rattle.rules.proofs.empty_list.Goals as goal

pub returns : goal.returns
returns c = empty-is _ _ (c.new_infer_var-r.ensures) (c.list_of.ensures)
