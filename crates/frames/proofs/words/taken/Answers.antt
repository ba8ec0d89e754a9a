use Rattle.frames.proofs.Laws.{taken_more}
use lib.ListN.{length-set}
use native.Mathlib.Omega.{arith}
use mathlib.Core.Path.{refl, ◌∙◌}
use Rattle.frames.proofs.words.taken.Goals as goal

pub loop-i-init : goal.loop-i-init
loop-i-init c = (omega arith, refl, λ j h. absurd (omega arith))

pub overflow_add-slots : goal.overflow_add-slots
overflow_add-slots c = omega arith

pub offset_bounds-words-from : goal.offset_bounds-words-from
offset_bounds-words-from c = omega arith

pub overflow_step-i : goal.overflow_step-i
overflow_step-i c = omega arith

pub loop-i-smaller : goal.loop-i-smaller
loop-i-smaller c = omega arith

pub loop-i-preserved : goal.loop-i-preserved
loop-i-preserved c =
    let a = c.args in
    let o = c.loop-i in (
      omega arith,
      length-set o.slots o.i _ ∙ o.invariant.1,
      taken_more a.words.now o.slots a.from o.i _ (omega arith) refl o.invariant.2,
    )

pub returns : goal.returns
returns c = record { at = λ i h. c.loop-i.invariant.2 i (omega arith) }
