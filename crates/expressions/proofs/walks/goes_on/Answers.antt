use native.Mathlib.Omega.{arith}
use borrow.Author.Tests.{le-leb, lt-leb}
use Rattle.expressions.specs.Walks.{goes_on}
use Rattle.expressions.proofs.walks.goes_on.Goals as goal

pub returns-then-w : goal.returns-then-w
unfolding goes_on
returns-then-w c = rw c.if-w.true

pub returns-then-w-ge5 : goal.returns-then-w-ge5
unfolding goes_on
returns-then-w-ge5 c = rw (c.if-w.false, le-leb 5 c.args.w.g.tag c.if-w-ge5.true)

pub returns : goal.returns
unfolding goes_on
returns c = rw (c.if-w.false, lt-leb 5 c.args.w.g.tag (omega arith))
