use mathlib.Core.Path.{◌∙◌}
use Rattle.grammar.specs.Tree.{expr_at}
use Rattle.expressions.proofs.evaluate.Goals as goal

pub returns : goal.returns
unfolding expr_at
returns c = rw (← c.levels_of.ensures.0) (c.evaluated.ensures ∙ c.walked.ensures)
