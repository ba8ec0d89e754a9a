use native.Mathlib.Omega.{arith}
use Rattle.expressions.proofs.Whole.{leaf_only, then_deeper, short_enough, none_filled}
use Rattle.expressions.specs.Walks.{asked}
use Rattle.expressions.proofs.walks.walked.Goals as goal

pub returns-then-h-lt20 : goal.returns-then-h-lt20
returns-then-h-lt20 c = leaf_only (asked c.args.words.now c.args.literals.now c.args.message.now c.args.slots.now c.args.levels) c.seen-h.ensures _ c.leaf.ensures c.if-h-lt20.true

pub walk_on-w-requires : goal.walk_on-w-requires
walk_on-w-requires c = rw c.begun-from.ensures (none_filled c.args.levels _)

pub walk_deeper-requires : goal.walk_deeper-requires
walk_deeper-requires c = (c.requires.0, c.requires.1, c.walk_on-w.ensures.filled, omega arith)

pub returns-then-w : goal.returns-then-w
returns-then-w c = then_deeper (asked c.args.words.now c.args.literals.now c.args.message.now c.args.slots.now c.args.levels) c.seen-h.ensures (rw c.begun-from.ensures at c.walk_on-w.ensures) (omega arith) c.walk_deeper.ensures

pub returns : goal.returns
returns c = short_enough (asked c.args.words.now c.args.literals.now c.args.message.now c.args.slots.now c.args.levels) c.seen-h.ensures (rw c.begun-from.ensures at c.walk_on-w.ensures) (omega arith) c.if-w.false
