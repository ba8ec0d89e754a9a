use Rattle.text.specs.Written.{hex_digit}
use borrow.Author.Tests.{lt-ltb, le-ltb}
use Rattle.text.proofs.hex_digit.Goals as goal

pub returns-then-n-lt10 : goal.returns-then-n-lt10
unfolding hex_digit
returns-then-n-lt10 c = simp (lt-ltb _ _ c.if-n-lt10.true)

pub returns : goal.returns
unfolding hex_digit
returns c = simp (le-ltb _ _ c.if-n-lt10.false)
