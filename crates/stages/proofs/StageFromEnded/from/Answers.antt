use Rattle.stages.specs.Stages.{ended_at}
use Rattle.stages.proofs.StageFromEnded.from.Goals as goal

pub returns-in-Budget : goal.returns-in-Budget
unfolding ended_at
returns-in-Budget c = rw c.in-Budget.is

pub returns-in-Deep : goal.returns-in-Deep
unfolding ended_at
returns-in-Deep c = rw c.in-Deep.is

pub returns-in-Stuck : goal.returns-in-Stuck
unfolding ended_at
returns-in-Stuck c = rw c.in-Stuck.is

pub returns-in-Overflow : goal.returns-in-Overflow
unfolding ended_at
returns-in-Overflow c = rw (c.in-Fault.is, c.in-Overflow.is)

pub returns-in-ZeroDivisor : goal.returns-in-ZeroDivisor
unfolding ended_at
returns-in-ZeroDivisor c = rw (c.in-Fault.is, c.in-ZeroDivisor.is)
