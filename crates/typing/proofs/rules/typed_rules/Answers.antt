use native.Mathlib.Omega.{arith}
use Rattle.typing.proofs.Walks.{sized}
use Rattle.typing.proofs.rules.typed_rules.Goals as goal

pub first_untyped-requires : goal.first_untyped-requires
first_untyped-requires c = (c.requires, omega (arith, (sized c.requires).most_nodes))
