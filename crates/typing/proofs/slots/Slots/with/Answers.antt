use Rattle.typing.specs.Types.{number}
use Rattle.typing.proofs.Types.{small}
use Rattle.typing.proofs.Numbers.{set_in, set_past, shifted, set_fits}
use native.Mathlib.Omega.{arith}
use Rattle.typing.proofs.slots.Slots.with.Goals as goal

pub overflow_add-result : goal.overflow_add-result
overflow_add-result c = rw (c.from-number.ensures, c.from.ensures, c.from-then-s-lt16.ensures, shifted (number c.args.t) c.args.s (small c.args.t) c.if-s-lt16.true) (record { fits = set_fits c.args.self c.args.s (number c.args.t) (small c.args.t) c.requires c.if-s-lt16.true (omega arith) })

pub returns-then-s-lt16 : goal.returns-then-s-lt16
returns-then-s-lt16 c = rw (c.from-number.ensures, c.from.ensures, c.from-then-s-lt16.ensures, shifted (number c.args.t) c.args.s (small c.args.t) c.if-s-lt16.true) (set_in c.args.self c.args.s (number c.args.t) (small c.args.t) c.requires c.if-s-lt16.true)

pub returns-else-s-lt16 : goal.returns-else-s-lt16
returns-else-s-lt16 c = set_past c.args.self c.args.s (number c.args.t) c.if-s-lt16.false
