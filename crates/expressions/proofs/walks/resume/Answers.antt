use Rattle.expressions.proofs.Halves.{resumed_both, resumed_left}
use Rattle.expressions.proofs.walks.resume.Goals as goal

pub returns-then-t-gt0 : goal.returns-then-t-gt0
returns-then-t-gt0 c = λ A filled. resumed_both A c.args.pile.now c.args.w c.requires.0 c.requires.1 c.requires.2 filled c.has_both.ensures c.if-t-gt0.true

pub returns : goal.returns
returns c = λ A filled. resumed_left A c.args.pile.now c.args.w c.requires.0 c.requires.1 c.requires.2 filled c.has_left.ensures c.if-t-gt0.false
