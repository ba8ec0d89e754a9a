use Rattle.machine.specs.Drive.{done_answer, concluded_in, concluded}
use Rattle.grammar.specs.Answer.{ending_number}
use Rattle.std.specs.Prelude.{Result}
use mathlib.Core.List.{List}
use Rattle.grammar.specs.declared.Ended.{Ended}
use Rattle.grammar.specs.declared.Value.{Value}
use Rattle.stages.specs.declared.Stage.{Stage}
use mathlib.Core.Path.{sym, ap, ◌∙◌}
use Rattle.runs.proofs.answers.conclude.Goals as goal

pub returns-in-Enter : goal.returns-in-Enter
unfolding concluded_in concluded
returns-in-Enter c = c.ended.ensures ∙ ap (λ (t : Stage). concluded_in c.args.inputs.words.now c.args.inputs.literals.now c.args.inputs.message.now t c.args.run c.args.work.now) (sym c.in-Enter.is)

pub returns-in-Matched : goal.returns-in-Matched
unfolding concluded_in concluded
returns-in-Matched c = c.done.ensures ∙ (ap (λ (g : Result (List Value) Ended). done_answer g c.args.run) c.returned_by.ensures ∙ ap (λ (t : Stage). concluded_in c.args.inputs.words.now c.args.inputs.literals.now c.args.inputs.message.now t c.args.run c.args.work.now) (sym c.in-Matched.is))

pub returns-in-Failed : goal.returns-in-Failed
unfolding concluded_in concluded
returns-in-Failed c = c.without_values.ensures ∙ ap (λ (t : Stage). concluded_in c.args.inputs.words.now c.args.inputs.literals.now c.args.inputs.message.now t c.args.run c.args.work.now) (sym c.in-Failed.is)

pub returns-in-Deep : goal.returns-in-Deep
unfolding concluded_in concluded
returns-in-Deep c = c.ended-in-Deep.ensures ∙ ap (λ (t : Stage). concluded_in c.args.inputs.words.now c.args.inputs.literals.now c.args.inputs.message.now t c.args.run c.args.work.now) (sym c.in-Deep.is)

pub returns-in-Stuck : goal.returns-in-Stuck
unfolding concluded_in concluded
returns-in-Stuck c = c.ended-in-Stuck.ensures ∙ ap (λ (t : Stage). concluded_in c.args.inputs.words.now c.args.inputs.literals.now c.args.inputs.message.now t c.args.run c.args.work.now) (sym c.in-Stuck.is)

pub returns-in-Overflow : goal.returns-in-Overflow
unfolding concluded_in concluded ending_number
returns-in-Overflow c = c.without_values-in-Overflow.ensures ∙ ap (λ (t : Stage). concluded_in c.args.inputs.words.now c.args.inputs.literals.now c.args.inputs.message.now t c.args.run c.args.work.now) (sym c.in-Overflow.is)

pub returns-in-ZeroDivisor : goal.returns-in-ZeroDivisor
unfolding concluded_in concluded ending_number
returns-in-ZeroDivisor c = c.without_values-in-ZeroDivisor.ensures ∙ ap (λ (t : Stage). concluded_in c.args.inputs.words.now c.args.inputs.literals.now c.args.inputs.message.now t c.args.run c.args.work.now) (sym c.in-ZeroDivisor.is)
