use Prim.Native.Nat.{◌+◌}
use native.Mathlib.Omega.{arith}
use borrow.Author.Tests.{le-leb, lt-leb}
use Rattle.exports.proofs.boundary.fitting_word.Goals as goal

pub returns-then-from-slice : goal.returns-then-from-slice
returns-then-from-slice c = rw (le-leb (c.args.span.start + c.args.span.length) c.args.slice (omega (arith, c.from.ensures, c.from-2.ensures, c.if-from-slice.true))) c.span_word.ensures

pub returns-else-from-slice : goal.returns-else-from-slice
returns-else-from-slice c = rw (lt-leb (c.args.span.start + c.args.span.length) c.args.slice (omega (arith, c.from.ensures, c.from-2.ensures)))
