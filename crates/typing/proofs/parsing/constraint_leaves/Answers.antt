use mathlib.Core.Path.{sym, ◌∙◌}
use Rattle.typing.specs.Slots.{told, types_in}
use Rattle.typing.proofs.Leaves.{constraint_part, constraint_leaves}
use Rattle.typing.proofs.parsing.constraint_leaves.Goals as goal

pub has_type-requires : goal.has_type-requires
has_type-requires c = rw c.node_word-e.ensures (constraint_part (types_in c.args.slots) c.requires)

pub returns-then-has_type : goal.returns-then-has_type
unfolding told
returns-then-has_type c = constraint_leaves (types_in c.args.slots) c.requires c.node_word-e.ensures (sym c.has_type.ensures ∙ c.if-has_type.true)

pub returns-else-has_type : goal.returns-else-has_type
unfolding told
returns-else-has_type c = constraint_leaves (types_in c.args.slots) c.requires c.node_word-e.ensures (sym c.has_type.ensures ∙ c.if-has_type.false)
