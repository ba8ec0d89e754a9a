use Rattle.std.proofs.Common.{arith}
use mathlib.Core.Path.{◌≡◌, refl, sym, ◌∙◌}
use Rattle.calls.proofs.Slots.{first, first_more, first_past, first_four}
use Rattle.calls.proofs.receive.Goals as goal
use Rattle.calls.proofs.receive.Goals.{then-i-from, else-i-from}

pub loop-i-init : goal.loop-i-init
unfolding first
loop-i-init c = refl

pub loop-i-preserved : goal.loop-i-preserved
loop-i-preserved c =
    elim c.if-i-from.branch [
      | then-i-from w ↦ rw (w.work-is, w.write_slot.ensures, c.loop-i.invariant) (sym (first_more _ _ _ _ _ (omega arith)))
      | else-i-from w ↦ rw (w.work-is, c.loop-i.invariant) (sym (first_past _ _ _ _ _ (omega arith)))
    ]

pub returns : goal.returns
returns c = let last : c.loop-i.i ≡ 4 = omega arith in c.loop-i.invariant ∙ rw last (first_four c.args.count c.args.slots c.args.values c.args.work.now)
