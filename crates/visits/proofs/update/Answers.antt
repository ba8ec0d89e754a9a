use Rattle.visits.specs.Visits.{updated}
use Rattle.expressions.specs.Meant.{meant}
use Rattle.visits.proofs.update.Goals as goal

pub returns-in-Ok : goal.returns-in-Ok
unfolding updated meant
returns-in-Ok c = rw c.in-Ok.is (cc)

pub returns-in-Err : goal.returns-in-Err
unfolding updated meant
returns-in-Err c = rw c.in-Err.is (cc)
