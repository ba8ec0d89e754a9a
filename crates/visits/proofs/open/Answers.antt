use Rattle.visits.specs.Visits.{opened}
use Rattle.visits.proofs.open.Goals as goal

pub returns : goal.returns
unfolding opened
returns c = cc
