use Rattle.returns.proofs.repeat_failed.Goals as goal

pub returns : goal.returns
returns c = cc
