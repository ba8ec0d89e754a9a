use Rattle.expressions.proofs.Givens.{right_bool, no_bool}
use Rattle.grammar.specs.Values.{truth}
use mathlib.Core.Path.{◌∙◌}
use Rattle.expressions.proofs.results.right_given.Goals as goal

pub returns-then-w-eq1 : goal.returns-then-w-eq1
returns-then-w-eq1 c = right_bool c.args.k c.args.w.payload c.if-w-eq1.true

pub returns-else-w-eq1 : goal.returns-else-w-eq1
returns-else-w-eq1 c = c.stuck.ensures ∙ no_bool c.args.k c.args.w.tag c.args.w.payload truth c.if-w-eq1.false
