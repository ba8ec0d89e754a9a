use native.Mathlib.Omega.{arith}
use Rattle.typing.proofs.Numbers.{same_slots}
use Rattle.typing.proofs.slots.Slots.same.Goals as goal

pub returns : goal.returns
returns c = same_slots c.args.self c.args.other (omega arith) (omega arith)
