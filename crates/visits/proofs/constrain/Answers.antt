use Rattle.visits.specs.Visits.{constrained}
use Rattle.expressions.specs.Meant.{meant}
use Rattle.visits.proofs.constrain.Goals as goal

pub returns-in-Ok : goal.returns-in-Ok
unfolding constrained meant
returns-in-Ok c = rw c.in-Ok.is (cc)

pub returns-in-Err : goal.returns-in-Err
unfolding constrained meant
returns-in-Err c = rw c.in-Err.is (cc)
