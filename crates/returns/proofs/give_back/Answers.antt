use Rattle.returns.specs.Returns.{given_back}
use Rattle.returns.proofs.give_back.Goals as goal

pub returns : goal.returns
unfolding given_back
returns c = cc
