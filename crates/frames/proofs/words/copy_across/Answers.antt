use Rattle.frames.proofs.Laws.{copied_more}
use Rattle.frames.specs.Frames.{copied}
use native.Mathlib.Omega.{arith}
use mathlib.Core.Path.{refl, ap, ◌∙◌}
use Rattle.frames.proofs.words.copy_across.Goals as goal

pub loop-i-init : goal.loop-i-init
unfolding copied
loop-i-init c = (omega arith, refl, refl)

pub loop-i-preserved : goal.loop-i-preserved
loop-i-preserved c = (omega arith, cc (copied_more c.args.words.now c.args.from c.args.to c.loop-i.i), c.write_word.auto.words ∙ c.loop-i.invariant.2)

pub shape_of-words : goal.shape_of-words
shape_of-words c = c.loop-i.invariant.2

pub returns : goal.returns
returns c = c.loop-i.invariant.1 ∙ ap (copied c.args.words.now c.args.from c.args.to) (omega arith)
