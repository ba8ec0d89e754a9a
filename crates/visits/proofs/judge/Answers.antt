use Rattle.visits.proofs.Others.{judged_other}
use Rattle.visits.specs.Visits.{judged}
use mathlib.Core.Path.{sym}
use Rattle.visits.proofs.judge.Goals as goal

pub returns-then-b : goal.returns-then-b
unfolding judged
returns-then-b c = rw (c.in-Bool.is, c.if-b.true)

pub returns-else-b : goal.returns-else-b
unfolding judged
returns-else-b c = rw (c.in-Bool.is, c.if-b.false)

pub returns-in_default : goal.returns-in_default
returns-in_default c = sym (judged_other _ _ c.in_default.not-Bool)
