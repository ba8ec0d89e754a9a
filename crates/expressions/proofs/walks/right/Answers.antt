use native.Mathlib.Omega.{arith}
use Rattle.expressions.proofs.Halves.{right_work, right_end, right_both}
use Rattle.expressions.specs.Walks.{asked}
use Rattle.expressions.proofs.walks.right.Goals as goal

pub returns-then-h-ge20 : goal.returns-then-h-ge20
returns-then-h-ge20 c = λ filled literals message. right_work (asked c.args.words.now literals message c.args.slots.now c.args.levels) c.args.pile.now c.args.s.top c.args.s.j c.args.s.k c.args.s.b c.args.s.v filled c.seen-h.ensures (rw (c.from.ensures, c.from-then-h-ge20.ensures) at c.put_to_work.ensures) c.if-h-ge20.true c.requires.3 (omega arith) (omega arith) c.requires.1 (omega arith)

pub returns-then-r-ge5 : goal.returns-then-r-ge5
returns-then-r-ge5 c = λ filled literals message. right_end (asked c.args.words.now literals message c.args.slots.now c.args.levels) c.args.pile.now c.args.s.top c.args.s.j c.args.s.k c.args.s.b c.args.s.v filled c.seen-h.ensures _ c.leaf-r.ensures (omega arith) c.found.ensures c.if-r-ge5.true

pub returns : goal.returns
returns c = λ filled literals message. right_both (asked c.args.words.now literals message c.args.slots.now c.args.levels) c.args.pile.now c.args.s.top c.args.s.j c.args.s.k c.args.s.b c.args.s.v filled c.seen-h.ensures _ c.leaf-r.ensures (omega arith) c.has_both.ensures (omega arith)
