use Rattle.typing.specs.Slots.{told, types_in}
use Rattle.typing.proofs.Leaves.{plain_leaves}
use Rattle.typing.proofs.parsing.leaf.Goals as goal

pub returns-in_default : goal.returns-in_default
unfolding told
returns-in_default c = plain_leaves (types_in c.args.slots) c.requires.0 c.requires.1 c.in_default.not-Call c.in_default.not-Update c.in_default.not-Constraint
