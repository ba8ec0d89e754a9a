use native.Mathlib.Omega.{arith}
use Rattle.exports.proofs.boundary.span_word.Goals as goal

pub returns-then-span : goal.returns-then-span
returns-then-span c = rw c.if-span.true (omega arith)

pub returns-else-span : goal.returns-else-span
returns-else-span c = rw c.if-span.false (omega arith)
