use native.Mathlib.Omega.{arith}
use borrow.Author.Tests.{le-leb, lt-leb, lt-ltb, le-ltb, ne_eqb}
use Rattle.expressions.proofs.walks.looks_no_further.Goals as goal

pub returns-then-j-lt6 : goal.returns-then-j-lt6
returns-then-j-lt6 c = rw (lt-ltb c.args.j 6 c.if-j-lt6.true)

pub returns-then-j-ge8 : goal.returns-then-j-ge8
returns-then-j-ge8 c = rw (le-ltb c.args.j 6 (omega arith), le-leb 8 c.args.j c.if-j-ge8.true)

pub returns-then-v-ne1 : goal.returns-then-v-ne1
returns-then-v-ne1 c = rw (le-ltb c.args.j 6 (omega arith), lt-leb 8 c.args.j (omega arith), ne_eqb c.args.v.tag 1 c.if-v-ne1.true)

pub returns : goal.returns
returns c = rw (le-ltb c.args.j 6 (omega arith), lt-leb 8 c.args.j (omega arith), c.if-v-ne1.false)
