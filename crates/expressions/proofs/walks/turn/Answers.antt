use Rattle.expressions.proofs.Halves.{stays, left_on}
use Rattle.expressions.specs.Walks.{asked}
use Rattle.expressions.proofs.walks.turn.Goals as goal

pub after_left-requires : goal.after_left-requires
after_left-requires c = let r = c.requires.1 c.in-Left.is in (c.requires.0, r.0, r.1)

pub returns-in-Left : goal.returns-in-Left
returns-in-Left c = λ literals message w on. left_on (asked c.args.words.now literals message c.args.slots.now c.args.levels) c.args.pile.now c.args.s w on c.in-Left.is (λ filled. c.after_left.ensures filled literals message)

pub returns-in_default : goal.returns-in_default
returns-in_default c = λ literals message w on. stays (asked c.args.words.now literals message c.args.slots.now c.args.levels) c.args.pile.now c.args.s w on c.in_default.not-Left
