use Rattle.frames.proofs.Laws.{stored_more}
use Rattle.frames.specs.Frames.{stored}
use lib.ListN.{length-set}
use Prim.Native.Nat.{◌+◌}
use native.Mathlib.Omega.{arith}
use mathlib.Core.Path.{refl, ap, ◌∙◌}
use Rattle.frames.proofs.words.put.Goals as goal

pub loop-j-init : goal.loop-j-init
unfolding stored
loop-j-init c = (omega arith, refl, refl)

pub overflow_add-words : goal.overflow_add-words
overflow_add-words c = omega arith

pub offset_bounds-words-to : goal.offset_bounds-words-to
offset_bounds-words-to c = omega arith

pub bounds-words-to : goal.bounds-words-to
bounds-words-to c = omega arith

pub overflow_step-j : goal.overflow_step-j
overflow_step-j c = omega arith

pub loop-j-smaller : goal.loop-j-smaller
loop-j-smaller c = omega arith

pub loop-j-preserved : goal.loop-j-preserved
loop-j-preserved c =
    let a = c.args in
    let o = c.loop-j in
    (omega arith, cc (stored_more a.words.now a.to a.slots o.j), length-set o.words (a.to + o.j) _ ∙ o.invariant.2)

pub shape_of-words : goal.shape_of-words
shape_of-words c = c.loop-j.invariant.2

pub returns : goal.returns
returns c =
    let a = c.args in
    c.loop-j.invariant.1 ∙ ap (stored a.words.now a.to a.slots) (omega arith)
