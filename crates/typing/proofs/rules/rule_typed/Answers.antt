use mathlib.Core.Path.{◌∙◌}
use Rattle.typing.proofs.Whole.{body_there, rule_broken, rule_kept}
use Rattle.typing.proofs.rules.rule_typed.Goals as goal

pub leaves-requires : goal.leaves-requires
leaves-requires c = body_there c.requires.0 c.requires.1 c.body-node.ensures

pub returns-in-Some : goal.returns-in-Some
returns-in-Some c = c.returned_typed.ensures ∙ rule_kept c.requires.0 c.start_slots-start.result c.leaves.result c.start_slots-start.ensures c.body-node.ensures c.leaves.ensures c.in-Some.is

pub returns-in-None : goal.returns-in-None
returns-in-None c = rule_broken c.requires.0 c.start_slots-start.result c.leaves.result c.start_slots-start.ensures c.body-node.ensures c.leaves.ensures c.in-None.is
