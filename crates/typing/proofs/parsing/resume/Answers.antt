use Rattle.typing.proofs.Walked.{second_step, arm_step, same_step, bind_step}
use native.Mathlib.Omega.{arith}
use mathlib.Core.Path.{sym, ◌∙◌}
use Rattle.typing.proofs.parsing.resume.Goals as goal

pub returns-in-Then : goal.returns-in-Then
returns-in-Then c = second_step c.requires.0 c.requires.1 (sym c.unpacked.ensures ∙ c.in-Then.is)

pub returns-in-Other : goal.returns-in-Other
returns-in-Other c = rw c.packed.ensures (arm_step c.requires.0 c.requires.1 (omega arith) (sym c.unpacked.ensures ∙ c.in-Other.is))

pub returns-in-Same : goal.returns-in-Same
returns-in-Same c = same_step c.requires.0 c.requires.1 (sym c.unpacked.ensures ∙ c.in-Same.is) c.unchanged.ensures

pub returns-in-Bind : goal.returns-in-Bind
returns-in-Bind c = bind_step c.requires.0 c.requires.1 (sym c.unpacked.ensures ∙ c.in-Bind.is) c.assigned.ensures
