use Rattle.std.proofs.Common.{◌≡◌, Bool, true, false, cond, to_z-of_z}
use mir.Val.{bool_byte}
use mathlib.Core.Path.{refl}
use Rattle.values.specs.Slots.{payload_of}
use Rattle.values.proofs.slots.payload_of.Goals as goal

bool_word : (b : Bool) → bool_byte b ≡ cond b 1 0
bool_word true = refl
bool_word false = refl

pub returns-in-Absent : goal.returns-in-Absent
unfolding payload_of
returns-in-Absent c = rw c.in-Absent.is

pub returns-in-Bool : goal.returns-in-Bool
unfolding payload_of
returns-in-Bool c = rw (c.in-Bool.is, c.from.ensures) (bool_word c.in-Bool.b)

pub returns-in-Integer : goal.returns-in-Integer
unfolding payload_of
returns-in-Integer c = rw c.in-Integer.is (rw (to_z-of_z (record { sfits = c.in-Integer.known_told-in-Integer-1-own.given.0.1 })) at c.word_of.ensures)

pub returns-in-Text : goal.returns-in-Text
unfolding payload_of
returns-in-Text c = rw (c.in-Text.is, c.from-in-Text.ensures, c.from-in-Text-2.ensures)
