use Rattle.exports.specs.Boundary.{part_word}
use mathlib.Core.Path.{ap, ◌∙◌}
use Rattle.exports.proofs.styrmflo_text.Goals as goal

pub returns : goal.returns
returns c = c.part_word.ensures ∙ ap (part_word c.args.message c.args.literals) c.value_of.ensures
