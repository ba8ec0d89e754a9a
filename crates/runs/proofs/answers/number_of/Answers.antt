use Rattle.grammar.specs.Answer.{refusal_number}
use Rattle.runs.proofs.answers.number_of.Goals as goal

pub returns-in-Size : goal.returns-in-Size
unfolding refusal_number
returns-in-Size c = rw c.in-Size.is

pub returns-in-Field : goal.returns-in-Field
unfolding refusal_number
returns-in-Field c = rw c.in-Field.is

pub returns-in-Use : goal.returns-in-Use
unfolding refusal_number
returns-in-Use c = rw c.in-Use.is

pub returns-in-Start : goal.returns-in-Start
unfolding refusal_number
returns-in-Start c = rw c.in-Start.is

pub returns-in-Untyped : goal.returns-in-Untyped
unfolding refusal_number
returns-in-Untyped c = rw c.in-Untyped.is

pub returns-in-Long : goal.returns-in-Long
unfolding refusal_number
returns-in-Long c = rw c.in-Long.is

pub returns-in-Work : goal.returns-in-Work
unfolding refusal_number
returns-in-Work c = rw c.in-Work.is
