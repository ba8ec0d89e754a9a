use native.Mathlib.Omega.{arith}
use Rattle.expressions.proofs.Halves.{entered_work, entered_end, entered_left}
use Rattle.expressions.specs.Walks.{asked}
use Rattle.expressions.proofs.walks.enter.Goals as goal

pub returns-then-h-ge20 : goal.returns-then-h-ge20
returns-then-h-ge20 c = λ filled literals message. entered_work (asked c.args.words.now literals message c.args.slots.now c.args.levels) c.args.pile.now c.args.w c.requires.1 filled c.seen-h.ensures (rw (c.from.ensures, c.from-then-h-ge20.ensures, c.from-then-h-ge20-2.ensures) at c.put_to_work.ensures) c.if-h-ge20.true c.requires.2 (omega arith) (omega arith) (omega arith)

pub returns-then-g-ge5 : goal.returns-then-g-ge5
returns-then-g-ge5 c = λ filled literals message. entered_end (asked c.args.words.now literals message c.args.slots.now c.args.levels) c.args.pile.now c.args.w c.requires.1 filled c.seen-h.ensures _ c.leaf-g.ensures (omega arith) c.found.ensures c.if-g-ge5.true

pub returns : goal.returns
returns c = λ filled literals message. entered_left (asked c.args.words.now literals message c.args.slots.now c.args.levels) c.args.pile.now c.args.w c.requires.1 filled c.seen-h.ensures _ c.leaf-g.ensures (omega arith) c.has_left.ensures (omega arith) c.requires.2
