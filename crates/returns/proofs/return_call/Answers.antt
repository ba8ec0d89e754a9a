use Rattle.returns.proofs.return_call.Goals as goal

pub returns : goal.returns
returns c = cc
