use mathlib.Core.Path.{sym, ◌∙◌}
use Rattle.typing.specs.Slots.{told, types_in}
use Rattle.typing.proofs.Leaves.{callee, call_leaves}
use Rattle.typing.proofs.parsing.called.Goals as goal

pub returns-then-not-arguments_typed : goal.returns-then-not-arguments_typed
unfolding told
returns-then-not-arguments_typed c = call_leaves (types_in c.args.slots) c.requires c.node_word-r.ensures (sym c.arguments_typed.ensures ∙ c.if-not-arguments_typed.true)

pub all_received-requires : goal.all_received-requires
all_received-requires c = callee (types_in c.args.slots) c.requires c.node_word-r.ensures

pub returns : goal.returns
returns c = c.all_received.ensures ∙ call_leaves (types_in c.args.slots) c.requires c.node_word-r.ensures (sym c.arguments_typed.ensures ∙ c.if-not-arguments_typed.false)
