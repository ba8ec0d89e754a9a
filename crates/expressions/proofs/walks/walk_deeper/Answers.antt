use native.Mathlib.Omega.{arith}
use Rattle.expressions.proofs.Whole.{long_enough, alike_before}
use Rattle.expressions.specs.Walks.{asked}
use Rattle.expressions.proofs.walks.walk_deeper.Goals as goal

pub returns : goal.returns
returns c = long_enough (asked c.args.words.now c.args.literals.now c.args.message.now c.args.slots.now c.args.levels) c.args.pile.now c.walk_on-v.ensures (alike_before c.args.pile.now _ c.copy_from_slice.ensures.after) c.requires.2.room c.requires.0 (omega arith)
