use Rattle.returns.proofs.next_round.Goals as goal

pub returns : goal.returns
returns c = cc
