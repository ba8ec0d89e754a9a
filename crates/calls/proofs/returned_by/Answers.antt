use Rattle.calls.specs.Calls.{returned_by}
use Rattle.calls.proofs.returned_by.Goals as goal

pub returns : goal.returns
unfolding returned_by
returns c = cc
