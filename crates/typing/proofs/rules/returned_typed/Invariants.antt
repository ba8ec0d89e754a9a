use mathlib.Core.Path.{◌≡◌}
use lib.ListN.{length}
use Rattle.grammar.specs.Words.{returned_count}
use Rattle.grammar.specs.Tree.{expr_at}
use Rattle.typing.specs.Places.{returned_typed}
use Rattle.typing.specs.Slots.{types_in}
use Rattle.typing.proofs.Fours.{returned, returned_type, typed_from}
use Rattle.typing.proofs.rules.returned_typed.Given as goal

abbrev pub invariant-loop-i : goal.invariant-loop-i
invariant-loop-i l =
    (length l.pile ≡ length l.initial.pile)
    × (typed_from (expr_at l.words) (types_in l.slots) (returned l.words l.r) (returned_type l.words l.r) (returned_count l.words l.r) l.i ≡ returned_typed l.words (types_in l.slots) l.r)
