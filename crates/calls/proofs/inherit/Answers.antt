use Rattle.std.proofs.Common.{arith}
use mathlib.Core.Path.{◌≡◌, refl, sym, ◌∙◌}
use Rattle.calls.proofs.Slots.{placed, placed_more, placed_four}
use Rattle.calls.proofs.inherit.Goals as goal

pub loop-i-init : goal.loop-i-init
unfolding placed
loop-i-init c = refl

pub loop-i-preserved : goal.loop-i-preserved
loop-i-preserved c = rw (c.write_slot.ensures, c.loop-i.invariant) (sym (placed_more _ _ _))

pub returns : goal.returns
returns c =
    let last : c.loop-i.i ≡ 4 = omega arith in
    c.loop-i.invariant ∙ rw (last, c.clear_slots.ensures) (placed_four c.args.values c.args.work.now)
