use mathlib.Core.Path.{◌∙◌}
use Rattle.exports.proofs.Parts.{no_part, in_literals, in_message}
use Rattle.exports.proofs.boundary.part_word.Goals as goal

pub returns-then-span : goal.returns-then-span
returns-then-span c = rw c.in-Text.is (c.fitting_word.ensures ∙ in_literals c.args.message c.args.literals c.in-Text.span c.if-span.true)

pub returns-else-span : goal.returns-else-span
returns-else-span c = rw c.in-Text.is (c.fitting_word-else-span.ensures ∙ in_message c.args.message c.args.literals c.in-Text.span c.if-span.false)

pub returns-in_default : goal.returns-in_default
returns-in_default c = no_part c.args.message c.args.literals c.args.value c.in_default.not-Text
