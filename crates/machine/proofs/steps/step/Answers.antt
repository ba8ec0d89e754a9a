use Rattle.machine.proofs.Others.{step_other}
use Rattle.machine.specs.Step.{step_in, step_of}
use Rattle.stages.specs.declared.Stage.{Stage}
use mathlib.Core.Path.{sym, ap, ◌∙◌}
use Rattle.machine.proofs.steps.step.Goals as goal

pub returns-in-Enter : goal.returns-in-Enter
unfolding step_in step_of
returns-in-Enter c = c.enter.ensures ∙ ap (λ (t : Stage). step_in c.args.inputs.words.now c.args.inputs.literals.now c.args.inputs.message.now c.args.budget t c.args.run c.args.work.now) (sym c.in-Enter.is)

pub returns-in-Matched : goal.returns-in-Matched
unfolding step_in step_of
returns-in-Matched c = c.back_matched.ensures ∙ ap (λ (t : Stage). step_in c.args.inputs.words.now c.args.inputs.literals.now c.args.inputs.message.now c.args.budget t c.args.run c.args.work.now) (sym c.in-Matched.is)

pub returns-in-Failed : goal.returns-in-Failed
unfolding step_in step_of
returns-in-Failed c = c.back_failed.ensures ∙ ap (λ (t : Stage). step_in c.args.inputs.words.now c.args.inputs.literals.now c.args.inputs.message.now c.args.budget t c.args.run c.args.work.now) (sym c.in-Failed.is)

pub returns-in_default : goal.returns-in_default
unfolding step_of
returns-in_default c = sym (step_other c.args.budget c.args.run c.args.inputs.words.now c.args.inputs.literals.now c.args.inputs.message.now c.args.work.now _ c.in_default.not-Enter c.in_default.not-Matched c.in_default.not-Failed)
