use borrow.Author.Tests.{lt-ltb, le-ltb}
use Rattle.expressions.proofs.results.is_text.Goals as goal

pub returns-then-g-lt3 : goal.returns-then-g-lt3
returns-then-g-lt3 c = rw (lt-ltb c.args.g.tag 3 c.if-g-lt3.true)

pub returns-else-g-lt3 : goal.returns-else-g-lt3
returns-else-g-lt3 c = rw (le-ltb c.args.g.tag 3 c.if-g-lt3.false)
