use Rattle.typing.specs.Expressions.{applied, operator_weight, judging, Judges}
use Rattle.typing.specs.Slots.{types_in}
use Rattle.grammar.specs.Types.{expr_type}
use Rattle.grammar.specs.Tree.{expr_at}
use Rattle.laws.specs.Pile.{comes_to, weighs}
use lib.ListN.{length}
use mathlib.Core.Path.{◌≡◌}
use Rattle.typing.proofs.expressions.expression_type.Given as goal

abbrev pub invariant-loop-walk : goal.invariant-loop-walk
invariant-loop-walk l = (length l.pile ≡ length l.initial.pile) × Judges l.words l.pile l.walk × (comes_to (applied l.words (types_in l.slots)) (judging l.words l.slots l.pile l.walk) ≡ expr_type (types_in l.slots) (expr_at l.words l.k))

abbrev pub decreases-loop-walk : goal.decreases-loop-walk
decreases-loop-walk l = weighs operator_weight (judging l.words l.slots l.pile l.walk)
