use Rattle.typing.specs.Walk.{resumed_at, work_weight, walking, Walks}
use Rattle.typing.specs.Slots.{types_in}
use Rattle.grammar.specs.Types.{type_of}
use Rattle.grammar.specs.Tree.{grammar_of, parsing_at}
use Rattle.laws.specs.Pile.{comes_to, weighs}
use lib.ListN.{length}
use mathlib.Core.Path.{◌≡◌}
use Rattle.typing.proofs.parsing.leaves.Given as goal

abbrev pub invariant-loop-walk : goal.invariant-loop-walk
invariant-loop-walk l = (length l.pile ≡ length l.initial.pile) × Walks l.words l.pile l.walk × (comes_to (resumed_at l.words) (walking l.words l.pile l.walk) ≡ type_of (grammar_of l.words) (types_in l.fn.slots) (parsing_at l.words l.k))

abbrev pub decreases-loop-walk : goal.decreases-loop-walk
decreases-loop-walk l = weighs work_weight (walking l.words l.pile l.walk)
