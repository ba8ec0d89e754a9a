use Rattle.expressions.proofs.Givens.{value_given, stuck_given}
use Rattle.expressions.specs.Given.{given_of}
use Rattle.expressions.specs.Meant.{meant}
use mathlib.Core.Path.{sym}
use Rattle.expressions.proofs.results.evaluated.Goals as goal

pub returns-then-g-lt5 : goal.returns-then-g-lt5
unfolding meant
returns-then-g-lt5 c = rw c.value_of.ensures (sym (value_given c.args.g.tag c.args.g.payload c.if-g-lt5.true))

pub returns-in-6 : goal.returns-in-6
unfolding meant given_of
returns-in-6 c = rw c.in-6.is

pub returns-in-7 : goal.returns-in-7
unfolding meant given_of
returns-in-7 c = rw c.in-7.is

pub returns-in_default : goal.returns-in_default
unfolding meant
returns-in_default c = stuck_given c.args.g.tag c.args.g.payload c.if-g-lt5.false c.in_default.in_default-own.rest.0.1 c.in_default.in_default-own.rest.1
