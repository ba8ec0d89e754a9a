use mathlib.Core.Path.{◌≡◌}
use Rattle.grammar.specs.Words.{returned_count}
use Rattle.typing.specs.Places.{received_all}
use Rattle.typing.specs.Slots.{types_in}
use Rattle.typing.proofs.Fours.{receiving, returned_type, received_from}
use Rattle.typing.proofs.parsing.all_received.Given as goal

abbrev pub invariant-loop-i : goal.invariant-loop-i
invariant-loop-i l = received_from (receiving l.words l.k) (returned_type l.words l.r) (returned_count l.words l.r) (types_in l.left) l.i ≡ received_all l.words (types_in l.fn.slots) l.k l.r
