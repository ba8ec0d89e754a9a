use Rattle.machine.proofs.Weight.{driven_rest}
use Rattle.stages.specs.Stages.{with}
use mathlib.Core.Path.{refl, sym, ◌∙◌}
use Rattle.machine.proofs.steps.drive.Goals as goal

pub loop-inputs-init : goal.loop-inputs-init
loop-inputs-init c = (refl, refl)

pub goes_on-requires : goal.goes_on-requires
goes_on-requires c = tt

pub stride-now-requires : goal.stride-now-requires
stride-now-requires c = sym c.goes_on.ensures ∙ c.loop-inputs-test.true

pub loop-inputs-smaller : goal.loop-inputs-smaller
loop-inputs-smaller c = c.stride-now.ensures.less

pub loop-inputs-preserved : goal.loop-inputs-preserved
loop-inputs-preserved c = (c.stride-now.ensures.same ∙ c.loop-inputs.invariant.0, c.stride-now.auto.work ∙ c.loop-inputs.invariant.1)

pub shape_of-work : goal.shape_of-work
shape_of-work c = c.loop-inputs.invariant.1

pub returns : goal.returns
returns c = sym (driven_rest c.args.inputs.words.now c.args.inputs.literals.now c.args.inputs.message.now c.args.budget (with c.loop-inputs.now c.loop-inputs.work) (sym c.goes_on.ensures ∙ c.loop-inputs-test.false)) ∙ c.loop-inputs.invariant.0
