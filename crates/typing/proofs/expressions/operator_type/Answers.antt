use Rattle.std.proofs.lemmas.Grind.{common_steps}
use Rattle.std.proofs.Common.{arith}
use mathlib.Core.Path.{◌∙◌}
use Rattle.typing.specs.Expressions.{kind_type}
use Rattle.typing.proofs.expressions.operator_type.Goals as goal

pub returns-in-Equal : goal.returns-in-Equal
unfolding kind_type
returns-in-Equal c = c.equal_type.ensures ∙ rw c.in-Equal.is

pub returns-in-Greater : goal.returns-in-Greater
unfolding kind_type
returns-in-Greater c = c.both.ensures ∙ rw c.in-Greater.is

pub returns-in-And : goal.returns-in-And
unfolding kind_type
returns-in-And c = c.both-in-And.ensures ∙ grind (arith, common_steps)

pub returns-in_default : goal.returns-in_default
unfolding kind_type
returns-in_default c = c.both-in_default.ensures ∙ grind (arith, common_steps)
