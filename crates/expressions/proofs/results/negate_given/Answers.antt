use Rattle.expressions.proofs.Givens.{negated_bool, negated_other}
use mathlib.Core.Path.{◌∙◌}
use Rattle.expressions.proofs.results.negate_given.Goals as goal

pub returns-then-v-eq1 : goal.returns-then-v-eq1
returns-then-v-eq1 c = c.truth.ensures ∙ negated_bool c.args.k c.args.v.payload c.if-v-eq1.true

pub returns-else-v-eq1 : goal.returns-else-v-eq1
returns-else-v-eq1 c = c.stuck.ensures ∙ negated_other c.args.k c.args.v.tag c.args.v.payload c.if-v-eq1.false
