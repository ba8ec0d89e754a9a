use mathlib.Core.Path.{◌≡◌}
use lib.ListN.{length}
use Rattle.grammar.specs.Words.{inherited_count}
use Rattle.grammar.specs.Tree.{expr_at}
use Rattle.typing.specs.Places.{arguments_typed}
use Rattle.typing.specs.Slots.{types_in}
use Rattle.typing.proofs.Fours.{argument, inherited, typed_from}
use Rattle.typing.proofs.parsing.arguments_typed.Given as goal

abbrev pub invariant-loop-i : goal.invariant-loop-i
invariant-loop-i l =
    (length l.pile ≡ length l.initial.pile)
    × (typed_from (expr_at l.words) (types_in l.slots) (argument l.words l.k) (inherited l.words l.r) (inherited_count l.words l.r) l.i ≡ arguments_typed l.words (types_in l.slots) l.k l.r)
