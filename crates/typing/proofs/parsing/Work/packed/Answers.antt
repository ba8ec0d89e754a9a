use mathlib.Core.Path.{◌∙◌}
use Rattle.typing.specs.Walk.{packed}
use Rattle.typing.proofs.parsing.Work.packed.Goals as goal

pub returns-in-Then : goal.returns-in-Then
unfolding packed
returns-in-Then c = c.at_work.ensures ∙ rw c.in-Then.is

pub returns-in-Other : goal.returns-in-Other
unfolding packed
returns-in-Other c = c.at_work-in-Other.ensures ∙ rw c.in-Other.is

pub returns-in-Same : goal.returns-in-Same
unfolding packed
returns-in-Same c = c.at_work-in-Same.ensures ∙ rw c.in-Same.is

pub returns-in-Bind : goal.returns-in-Bind
unfolding packed
returns-in-Bind c = c.at_work-in-Bind.ensures ∙ rw (c.in-Bind.is, c.from.ensures)
