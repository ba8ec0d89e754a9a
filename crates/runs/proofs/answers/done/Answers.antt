use Rattle.machine.specs.Drive.{done_answer}
use Rattle.runs.proofs.answers.done.Goals as goal

pub returns-in-Ok : goal.returns-in-Ok
unfolding done_answer
returns-in-Ok c = rw c.in-Ok.is

pub returns-in-Err : goal.returns-in-Err
unfolding done_answer
returns-in-Err c = rw c.in-Err.is c.ended.ensures
