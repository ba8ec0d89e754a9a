use mathlib.Core.Path.{sym, ap, ◌∙◌}
use borrow.Author.Tests.{lt-ltb}
use Rattle.typing.specs.Slots.{told, types_in}
use Rattle.typing.specs.Types.{number, number_if_any}
use Rattle.typing.proofs.Types.{positive}
use Rattle.typing.proofs.Leaves.{update_part, update_leaves}
use Rattle.typing.proofs.parsing.update_leaves.Goals as goal

pub expression_type-requires : goal.expression_type-requires
expression_type-requires c = rw c.node_word-e.ensures (update_part (types_in c.args.slots) c.requires)

pub returns-in_err-t : goal.returns-in_err-t
unfolding told
returns-in_err-t c = rw c.from_residual.ensures (update_leaves (types_in c.args.slots) c.requires c.node_word-e.ensures (sym (ap number_if_any c.in_err-t.was) ∙ c.expression_type.ensures))

pub returns : goal.returns
returns c =
    let found = update_leaves (types_in c.args.slots) c.requires c.node_word-e.ensures (sym (ap number_if_any c.in_ok-t.was) ∙ c.expression_type.ensures) in
    c.assigned.ensures ∙ rw c.node_word-s.ensures (rw (lt-ltb 0 (number c.in_ok-t.t) (positive c.in_ok-t.t)) at found)
