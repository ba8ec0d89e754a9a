use lib.ListN.{length}
use Rattle.expressions.proofs.Whole.{room_above, value_waited_for}
use Rattle.expressions.specs.Walks.{asked}
use Rattle.expressions.proofs.walks.take_up.Goals as goal

pub enter-requires : goal.enter-requires
enter-requires c = (c.requires.0, c.if-w.true, room_above (length c.args.pile.now) c.args.w c.requires.1 c.if-w.true)

pub resume-requires : goal.resume-requires
resume-requires c = let v = value_waited_for (length c.args.pile.now) c.args.w c.requires.1 c.if-w.false in (c.if-w.false, v.0, v.1, c.requires.2)

pub returns : goal.returns
returns c = λ filled literals message. c.resume.ensures (asked c.args.words.now literals message c.args.slots.now c.args.levels) filled
