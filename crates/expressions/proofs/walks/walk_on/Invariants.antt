use Rattle.laws.specs.Pile.{comes_to, weighs}
use Rattle.expressions.specs.Walks.{asked, Filled, resolved_at, owed_at, walking}
use mathlib.Core.Path.{◌≡◌}
use lib.ListN.{length}
use Rattle.expressions.proofs.walks.walk_on.Given as goal

abbrev pub invariant-loop-pile : goal.invariant-loop-pile
invariant-loop-pile l = (comes_to (resolved_at (asked l.words l.literals l.message l.slots l.levels)) (walking (asked l.words l.literals l.message l.slots l.levels) l.pile l.w) ≡ comes_to (resolved_at (asked l.words l.literals l.message l.slots l.levels)) (walking (asked l.words l.literals l.message l.slots l.levels) l.initial.pile l.initial.w)) × Filled l.levels l.pile l.w.top × (length l.pile ≡ length l.initial.pile)

abbrev pub decreases-loop-pile : goal.decreases-loop-pile
decreases-loop-pile l = weighs (owed_at (asked l.words l.literals l.message l.slots l.levels)) (walking (asked l.words l.literals l.message l.slots l.levels) l.pile l.w)
