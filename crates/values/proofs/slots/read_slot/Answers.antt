use Rattle.std.proofs.Common.{arith, ◌∙◌, sym}
use Rattle.values.proofs.SlotList.{slot_cut, slot_past}
use Rattle.values.proofs.slots.read_slot.Goals as goal

pub returns-in-Some-len2 : goal.returns-in-Some-len2
returns-in-Some-len2 c =
    let h = rw c.from-at.ensures at c.in-Some-len2.ensures.lookup.0 in
    c.value_of.ensures ∙ slot_cut c.args.slots.now c.args.s h.1 h.2

pub returns-in_default-3 : goal.returns-in_default-3
returns-in_default-3 c =
    let h = rw (c.in_default.is, c.from-at.ensures) at c.get.ensures.lookup.0 in
    sym (slot_past c.args.slots.now c.args.s (omega (arith, h)))
