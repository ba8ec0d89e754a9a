use mir.Facts.{to_z-of_z}
use Rattle.values.specs.Slots.{value_of}
use Rattle.values.proofs.Stored.{no_line}
use Rattle.values.proofs.slots.value_of.Goals as goal

pub returns-in-1 : goal.returns-in-1
unfolding value_of
returns-in-1 c = rw c.in-1.is

pub returns-in-2 : goal.returns-in-2
unfolding value_of
returns-in-2 c = rw (to_z-of_z (record { sfits = c.integer_of.type_inv }), c.in-2.is, c.integer_of.ensures)

pub returns-in-3 : goal.returns-in-3
unfolding value_of
returns-in-3 c = rw (c.in-3.is, c.text_of.ensures)

pub returns-in-4 : goal.returns-in-4
unfolding value_of
returns-in-4 c = rw (c.in-4.is, c.text_of-in-4.ensures)

pub returns-in_default : goal.returns-in_default
returns-in_default c =
    let r = c.in_default.in_default-own.rest in
    no_line c.args.tag c.args.payload r.0.0.0.1 r.0.0.1 r.0.1 r.1
