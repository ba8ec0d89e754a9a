use Rattle.visits.specs.Visits.{called}
use Rattle.visits.proofs.call.Goals as goal

pub returns-in-Ok : goal.returns-in-Ok
unfolding called
returns-in-Ok c = rw c.in-Ok.is (cc)

pub returns-in-Err : goal.returns-in-Err
unfolding called
returns-in-Err c = rw c.in-Err.is (cc)
