use Rattle.runs.proofs.answers.ended.Goals as goal

pub returns : goal.returns
returns c = cc
