use Rattle.expressions.specs.Walks.{walking}
use mathlib.Core.Path.{refl, sym, ◌∙◌}
use Rattle.expressions.proofs.walks.walk_on.Goals as goal

pub node_place-first-requires : goal.node_place-first-requires
node_place-first-requires c = tt

pub loop-pile-init : goal.loop-pile-init
loop-pile-init c = (refl, c.requires, refl)

pub goes_on-requires : goal.goes_on-requires
goes_on-requires c = tt

pub step-w-requires : goal.step-w-requires
step-w-requires c = (c.node_place-first.ensures, sym c.goes_on.ensures ∙ c.loop-pile-test.true, c.loop-pile.invariant.1)

pub loop-pile-smaller : goal.loop-pile-smaller
loop-pile-smaller c = c.step-w.ensures.less

pub loop-pile-preserved : goal.loop-pile-preserved
unfolding walking
loop-pile-preserved c = (c.step-w.ensures.same ∙ c.loop-pile.invariant.0, c.step-w.ensures.piled, c.step-w.ensures.long ∙ c.loop-pile.invariant.2)

pub shape_of-pile : goal.shape_of-pile
shape_of-pile c = c.loop-pile.invariant.2

pub returns : goal.returns
returns c = record { same = c.loop-pile.invariant.0; filled = c.loop-pile.invariant.1; rests = rw c.loop-pile.invariant.2 at (sym c.goes_on.ensures ∙ c.loop-pile-test.false) }
