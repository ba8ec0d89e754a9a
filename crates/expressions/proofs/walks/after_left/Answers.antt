use mathlib.Core.Path.{sym, ◌∙◌}
use Rattle.expressions.proofs.Halves.{left_alone, left_turns}
use Rattle.expressions.proofs.Walking.{below_eight}
use Rattle.expressions.specs.Walks.{asked}
use Rattle.expressions.proofs.walks.after_left.Goals as goal

pub with_one-requires : goal.with_one-requires
with_one-requires c = sym c.looks_no_further.ensures ∙ c.if-looks_no_further.true

pub returns-then-looks_no_further : goal.returns-then-looks_no_further
returns-then-looks_no_further c = λ filled literals message. left_alone (asked c.args.words.now literals message c.args.slots.now c.args.levels) c.args.pile.now c.args.s.top c.args.s.j c.args.s.k c.args.s.b c.args.s.v _ filled c.found.ensures (c.with_one.ensures (asked c.args.words.now literals message c.args.slots.now c.args.levels) c.args.s.top c.args.s.b)

pub right-requires : goal.right-requires
right-requires c = (c.requires.0, c.requires.1, below_eight c.args.s.j c.args.s.v (sym c.looks_no_further.ensures ∙ c.if-looks_no_further.false), c.requires.2)

pub returns : goal.returns
returns c = λ filled literals message. left_turns (asked c.args.words.now literals message c.args.slots.now c.args.levels) c.args.pile.now c.args.s.top c.args.s.j c.args.s.k c.args.s.b c.args.s.v (sym c.looks_no_further.ensures ∙ c.if-looks_no_further.false) (c.right.ensures filled literals message)
