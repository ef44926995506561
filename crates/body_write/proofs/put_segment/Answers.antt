use Rattle.output.specs.Output.{number_text}
use Rattle.body_rows.specs.Text.{resolution_text}
use Rattle.body_write.proofs.WriteLaws.{pair_as}
use Rattle.body_write.proofs.put_segment.Goals as goal

pub returns : goal.returns
returns c = pair_as (number_text c.args.a) (resolution_text c.args.tag c.args.v) c.put_name-d.ensures c.put_res.ensures
