use mathlib.Core.Path.{refl}
use Rattle.typing.specs.Slots.{slot_types, types_in}
use Rattle.typing.proofs.slots.Slots.unset.Goals as goal

pub returns : goal.returns
unfolding types_in slot_types
returns c = refl
