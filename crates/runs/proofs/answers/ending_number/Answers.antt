use Rattle.grammar.specs.Answer.{ending_number}
use Rattle.runs.proofs.answers.ending_number.Goals as goal

pub returns-in-Budget : goal.returns-in-Budget
unfolding ending_number
returns-in-Budget c = rw c.in-Budget.is

pub returns-in-Deep : goal.returns-in-Deep
unfolding ending_number
returns-in-Deep c = rw c.in-Deep.is

pub returns-in-Stuck : goal.returns-in-Stuck
unfolding ending_number
returns-in-Stuck c = rw c.in-Stuck.is

pub returns-in-Fault : goal.returns-in-Fault
unfolding ending_number
returns-in-Fault c = rw c.in-Fault.is
