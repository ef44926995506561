use Rattle.answers.proofs.count.Goals as goal

pub returns : goal.returns
returns c = rw c.made.ensures
