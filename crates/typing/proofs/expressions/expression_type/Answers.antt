use Rattle.typing.proofs.Judged.{starts, goes_on, ends, breaks}
use mathlib.Core.Path.{refl, ap, ◌∙◌}
use Rattle.typing.specs.declared.expressions.Step.TheVariants.{Found}
use Rattle.typing.proofs.expressions.expression_type.Goals as goal

pub loop-walk-init : goal.loop-walk-init
loop-walk-init c = let t = starts c.args.pile.now c.args.slots c.requires in (refl, t.0, t.1)

pub loop-walk-preserved-in-Due : goal.loop-walk-preserved-in-Due
loop-walk-preserved-in-Due c = let g = goes_on c.in-Due.is c.loop-walk.invariant.1 c.judge-walk.ensures c.loop-walk.invariant.2 in (c.judge-walk.auto.pile ∙ c.loop-walk.invariant.0, g.0, g.1)

pub returns-then-top-eq0 : goal.returns-then-top-eq0
returns-then-top-eq0 c = ends c.args.words.now c.loop-walk.pile c.args.slots c.loop-walk.walk c.in-Found.is c.loop-walk.invariant.2 c.if-top-eq0.true

pub returns-in_err-found-in-Found : goal.returns-in_err-found-in-Found
returns-in_err-found-in-Found c = rw c.from_residual.ensures (breaks c.args.words.now c.loop-walk.pile c.args.slots c.loop-walk.walk c.in-Found.is c.loop-walk.invariant.2 c.in_err-found-in-Found.was)

pub loop-walk-preserved : goal.loop-walk-preserved
loop-walk-preserved c =
    let g = goes_on (c.in-Found.is ∙ ap Found c.in_ok-found-in-Found.was) c.loop-walk.invariant.1 c.apply-walk.ensures c.loop-walk.invariant.2 in
    (c.apply-walk.auto.pile ∙ c.loop-walk.invariant.0, g.0, g.1)
