use mathlib.Core.Path.{sym, ◌∙◌}
use Rattle.typing.specs.Slots.{told}
use Rattle.typing.proofs.parsing.unchanged.Goals as goal

pub returns-then-same : goal.returns-then-same
unfolding told
returns-then-same c = rw (sym c.same.ensures ∙ c.if-same.true)

pub returns-else-same : goal.returns-else-same
unfolding told
returns-else-same c = rw (sym c.same.ensures ∙ c.if-same.false)
