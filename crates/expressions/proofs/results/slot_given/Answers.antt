use Rattle.expressions.proofs.Givens.{slot_none, slot_short, slot_there, present_unset, present_other, present_set}
use native.Mathlib.Omega.{arith}
use mathlib.Core.Path.{◌∙◌}
use Rattle.expressions.proofs.results.slot_given.Goals as goal

pub returns-then-s-ge16 : goal.returns-then-s-ge16
returns-then-s-ge16 c = c.stuck.ensures ∙ slot_none c.args.slots.now c.args.s c.args.k c.if-s-ge16.true

pub returns-then-slots-at : goal.returns-then-slots-at
returns-then-slots-at c = c.stuck-then-slots-at.ensures ∙ slot_short c.args.slots.now c.args.s c.args.k (omega arith) (rw c.from-at.ensures at c.if-slots-at.true)

pub returns-then-tag-eq0 : goal.returns-then-tag-eq0
returns-then-tag-eq0 c = c.stuck-then-tag-eq0.ensures ∙ (present_unset c.args.k _ (rw c.from-at.ensures at c.if-tag-eq0.true) ∙ slot_there c.args.slots.now c.args.s c.args.k (omega arith) (omega arith))

pub returns-then-tag-gt4 : goal.returns-then-tag-gt4
returns-then-tag-gt4 c = c.stuck-then-tag-gt4.ensures ∙ (present_other c.args.k _ _ (rw c.from-at.ensures at c.if-tag-gt4.true) ∙ slot_there c.args.slots.now c.args.s c.args.k (omega arith) (omega arith))

pub returns : goal.returns
returns c = rw (c.from.ensures, c.from-at.ensures) (present_set c.args.k _ _ (rw c.from-at.ensures at c.if-tag-eq0.false) (let most = rw c.from-at.ensures at c.if-tag-gt4.false in omega arith) ∙ slot_there c.args.slots.now c.args.s c.args.k (omega arith) (omega arith))
