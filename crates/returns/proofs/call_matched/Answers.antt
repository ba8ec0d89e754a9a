use Rattle.returns.specs.Returns.{returned}
use Rattle.returns.proofs.call_matched.Goals as goal

pub returns-in-Ok : goal.returns-in-Ok
unfolding returned
returns-in-Ok c = rw c.in-Ok.is (cc)

pub returns-in-Err : goal.returns-in-Err
unfolding returned
returns-in-Err c = rw c.in-Err.is (cc)
