use Rattle.visits.proofs.begin_call.Goals as goal

pub returns : goal.returns
returns c = cc
