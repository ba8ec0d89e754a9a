use native.Mathlib.Omega.{arith}
use Rattle.expressions.proofs.Walking.{alone_not, alone_stuck, alone_decided}
use Rattle.expressions.proofs.walks.with_one.Goals as goal

pub returns-then-j-ge8 : goal.returns-then-j-ge8
returns-then-j-ge8 c = λ A n b. alone_not c.args.j c.args.v c.args.k b A n c.if-j-ge8.true c.negate_given.ensures

pub returns-then-v-ne1 : goal.returns-then-v-ne1
returns-then-v-ne1 c = λ A n b. alone_stuck c.args.j c.args.v c.args.k b A n c.requires (omega arith) c.if-v-ne1.true c.stuck.ensures

pub returns : goal.returns
returns c = λ A n b. alone_decided c.args.j c.args.v c.args.k b A n c.requires (omega arith) c.if-v-ne1.false
