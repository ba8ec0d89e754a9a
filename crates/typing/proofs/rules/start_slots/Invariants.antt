use mathlib.Core.Path.{◌≡◌}
use Rattle.grammar.specs.Types.{start_env}
use Rattle.typing.specs.Slots.{types_in}
use Rattle.typing.proofs.Fours.{inherited, places}
use Rattle.typing.proofs.rules.start_slots.Given as goal

abbrev pub invariant-loop-i : goal.invariant-loop-i
invariant-loop-i l = types_in l.slots ≡ start_env (places (inherited l.words l.r) l.i)
