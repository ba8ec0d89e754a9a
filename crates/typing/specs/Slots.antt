-- The types of a rule's slots as one number, two bits to a slot, slot 0 lowest. Assumes nothing.
use Rattle.std.specs.Prelude.{List, [], ◌∷◌, ℕ, zero, suc, ◌/◌, ◌%◌, Option as Optional, Some, None}
use Rattle.std.proofs.Math.Option.{Option, none, some}
use Rattle.grammar.specs.Types.{Env}
use Rattle.typing.specs.declared.slots.Slots.{Slots}

-- the types of the first k slots
unfoldable pub slot_types : (k n : ℕ) → List ℕ
slot_types zero n = []
slot_types (suc k) n = n % 4 ∷ slot_types k (n / 4)

-- the types of a rule's sixteen slots
unfoldable pub types_in : Slots → Env
types_in slots = slot_types 16 slots.types

-- what a node leaves, as code has it: the slots, or none where a rule is broken
unfoldable pub told : Optional Slots → Option Env
told None = none
told (Some slots) = some (types_in slots)
