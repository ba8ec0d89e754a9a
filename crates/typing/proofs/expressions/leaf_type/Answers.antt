use Rattle.grammar.specs.Tree.{expr_of}
use Rattle.grammar.specs.Types.{expr_type}
use Prim.Native.Nat.{ℕ}
use lib.ListN.{get_or}
use mathlib.Core.Path.{ap, ◌∙◌}
use Rattle.typing.specs.Slots.{types_in}
use Rattle.typing.proofs.Leaves.{no_operator, type_by}
use Rattle.typing.proofs.expressions.leaf_type.Goals as goal

pub returns-in-Integer : goal.returns-in-Integer
unfolding expr_type expr_of
returns-in-Integer c = type_by c.requires.0 (types_in c.args.slots) c.in-Integer.is

pub returns-in-Text : goal.returns-in-Text
unfolding expr_type expr_of
returns-in-Text c = type_by c.requires.0 (types_in c.args.slots) c.in-Text.is

pub returns-in-Slot : goal.returns-in-Slot
unfolding expr_type expr_of
returns-in-Slot c = c.type_of.ensures ∙ ap (λ (n : ℕ). get_or (types_in c.args.slots) n 0) c.node_word.ensures ∙ type_by c.requires.0 (types_in c.args.slots) c.in-Slot.is

pub returns-in_default : goal.returns-in_default
returns-in_default c = no_operator c.requires.0 (types_in c.args.slots) c.requires.1 c.in_default.not-Integer c.in_default.not-Text c.in_default.not-Slot
