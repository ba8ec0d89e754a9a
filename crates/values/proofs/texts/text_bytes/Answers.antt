use Rattle.std.proofs.Common.{◌≡◌, [], cond}
use Rattle.values.proofs.HandedOut.{within_part, past_part, no_text, HandedOut}
use Rattle.values.proofs.texts.text_bytes.Goals as goal
use Rattle.values.proofs.texts.text_bytes.Goals.{then-s, else-s}

named : (c : goal.Else-end-part) → c.if-s.part ≡ cond c.in-Text.s.literal c.args.literals c.args.message
named c = elim c.if-s.branch [ then-s w ↦ rw (w.part-is, w.if-s.true) | else-s w ↦ rw (w.part-is, w.if-s.false) ]

none : (c : goal.Else-end-part) → HandedOut c.args.message c.args.literals c.args.value [] c.args.message.ref_ptr
none c =
    past_part c.args.message c.args.literals c.in-Text.s c.in-Text.is c.if-s.part c.from-start.result c.from.result (named c) c.from-start.ensures c.from.ensures c.if-end-part.false

pub returns-then-end-part-clause-bytes : goal.returns-then-end-part-clause-bytes
returns-then-end-part-clause-bytes c =
    let n : c.if-s.part ≡ cond c.in-Text.s.literal c.args.literals c.args.message = elim c.if-s.branch [ then-s w ↦ rw (w.part-is, w.if-s.true) | else-s w ↦ rw (w.part-is, w.if-s.false) ] in
    (within_part c.args.message c.args.literals c.in-Text.s c.in-Text.is c.if-s.part c.from-start.result c.from.result n c.from-start.ensures c.from.ensures c.if-end-part.true).0

pub returns-then-end-part-clause-place : goal.returns-then-end-part-clause-place
returns-then-end-part-clause-place c =
    let n : c.if-s.part ≡ cond c.in-Text.s.literal c.args.literals c.args.message = elim c.if-s.branch [ then-s w ↦ rw (w.part-is, w.if-s.true) | else-s w ↦ rw (w.part-is, w.if-s.false) ] in
    (within_part c.args.message c.args.literals c.in-Text.s c.in-Text.is c.if-s.part c.from-start.result c.from.result n c.from-start.ensures c.from.ensures c.if-end-part.true).1

pub returns-else-end-part-clause-bytes : goal.returns-else-end-part-clause-bytes
returns-else-end-part-clause-bytes c = (none c).0

pub returns-else-end-part-clause-place : goal.returns-else-end-part-clause-place
returns-else-end-part-clause-place c = (none c).1

pub returns-in_default : goal.returns-in_default
returns-in_default c = let h = no_text c.args.message c.args.literals c.args.value c.in_default.not-Text in record { bytes = h.0; place = h.1 }
