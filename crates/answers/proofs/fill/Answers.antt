use Rattle.answers.proofs.Laws.{made_filled}
use Rattle.answers.proofs.fill.Goals as goal

pub returns : goal.returns
returns c = record { nodes_filled = (c.fill_nodes.ensures); vars_filled = (c.fill_vars.ensures); types_filled = made_filled _ _ (c.args.n) (c.first_made.result) _ _ (c.first_made.ensures) (c.fill_types.ensures); log_filled = (c.fill_log.ensures) }
