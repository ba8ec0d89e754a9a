use mathlib.Core.Path.{ap, ◌∙◌}
use Prim.Native.Nat.{ℕ, ◌*◌, ◌/◌, ◌%◌, ◌^◌}
use native.Mathlib.Omega.{arith}
use Rattle.typing.proofs.Types.{if_any}
use Rattle.typing.proofs.Numbers.{slot_in, slot_past}
use Rattle.typing.proofs.slots.Slots.type_of.Goals as goal

pub returns-then-s-lt16 : goal.returns-then-s-lt16
returns-then-s-lt16 c =
    rw c.ok.ensures.value (if_any c.try_from.result c.try_from.ensures (omega arith))
    ∙ ap (λ (n : ℕ). c.args.self.types / 2 ^ (2 * n) % 4) c.from.ensures ∙ slot_in c.args.self c.args.s c.if-s-lt16.true

pub returns-else-s-lt16 : goal.returns-else-s-lt16
returns-else-s-lt16 c = slot_past c.args.self c.args.s c.if-s-lt16.false
