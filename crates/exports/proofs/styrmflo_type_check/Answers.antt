use Rattle.exports.specs.Boundary.{verdict_word}
use mathlib.Core.Path.{ap, ◌∙◌}
use Rattle.exports.proofs.styrmflo_type_check.Goals as goal

pub returns : goal.returns
returns c = c.verdict_word.ensures ∙ ap verdict_word c.type_check.ensures
