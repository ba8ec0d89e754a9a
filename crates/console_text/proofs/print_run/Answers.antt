use mathlib.Core.Path.{ap}
use Rattle.text.proofs.Writing.{wrote_as}
use Rattle.console_text.specs.Printed.{answer_lines}
use Rattle.console_text.proofs.print_run.Goals as goal

pub returns : goal.returns
returns c = record { prints = wrote_as (ap (answer_lines c.args.message.now c.args.literals.now) c.run-answer.ensures.gives) c.put_answer.ensures; leaves = c.run-answer.ensures.leaves }
