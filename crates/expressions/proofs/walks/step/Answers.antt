use Rattle.expressions.proofs.walks.step.Goals as goal

pub turn-t-requires : goal.turn-t-requires
turn-t-requires c = (c.requires.0, (c.take_up-s.ensures c.requires.2 c.args.literals.now c.args.message.now).ready)

pub settle-requires : goal.settle-requires
settle-requires c = (c.turn-t.ensures c.args.literals.now c.args.message.now _ (c.take_up-s.ensures c.requires.2 c.args.literals.now c.args.message.now).on).past

pub returns : goal.returns
returns c = c.settle.ensures c.args.words.now c.args.slots.now c.args.levels _ _ (c.turn-t.ensures c.args.literals.now c.args.message.now _ (c.take_up-s.ensures c.requires.2 c.args.literals.now c.args.message.now).on).on
