use Rattle.tables.proofs.TypeLaws.{types_filled}
use Rattle.tables.proofs.fill_types.Goals as goal

pub returns : goal.returns
returns c = types_filled _ _ _ _ _ _ c.put_types.ensures c.put_all_inputs.ensures
