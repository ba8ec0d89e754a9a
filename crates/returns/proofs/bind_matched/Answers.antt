use Rattle.returns.proofs.bind_matched.Goals as goal

pub returns : goal.returns
returns c = cc
