use Rattle.exports.specs.Boundary.{verdict_word}
use Rattle.grammar.specs.Answer.{number, place, refusal_number, refusal_place}
use native.Mathlib.Omega.{arith}
use Rattle.exports.proofs.boundary.verdict_word.Goals as goal

pub returns-in-Ok : goal.returns-in-Ok
unfolding verdict_word number place
returns-in-Ok c = rw c.in-Ok.is

pub returns-in-Size : goal.returns-in-Size
unfolding verdict_word number place refusal_number refusal_place
returns-in-Size c = rw (c.in-Err.is, c.in-Size.is)

pub returns-in-Field : goal.returns-in-Field
unfolding verdict_word number place refusal_number refusal_place
returns-in-Field c = rw (c.in-Err.is, c.in-Field.is) (omega (arith, c.from.ensures))

pub returns-in-Use : goal.returns-in-Use
unfolding verdict_word number place refusal_number refusal_place
returns-in-Use c = rw (c.in-Err.is, c.in-Use.is) (omega (arith, c.from-in-Use.ensures))

pub returns-in-Start : goal.returns-in-Start
unfolding verdict_word number place refusal_number refusal_place
returns-in-Start c = rw (c.in-Err.is, c.in-Start.is)

pub returns-in-Untyped : goal.returns-in-Untyped
unfolding verdict_word number place refusal_number refusal_place
returns-in-Untyped c = rw (c.in-Err.is, c.in-Untyped.is) (omega (arith, c.from-in-Untyped.ensures))

pub returns-in-Long : goal.returns-in-Long
unfolding verdict_word number place refusal_number refusal_place
returns-in-Long c = rw (c.in-Err.is, c.in-Long.is)

pub returns-in-Work : goal.returns-in-Work
unfolding verdict_word number place refusal_number refusal_place
returns-in-Work c = rw (c.in-Err.is, c.in-Work.is)
