use Rattle.tables.proofs.TypeLaws.{fields_read}
use Rattle.tables.proofs.fields_in.Goals as goal

pub returns : goal.returns
returns c = fields_read _ _ _ _ _ c.view.ensures c.fields_of.ensures
