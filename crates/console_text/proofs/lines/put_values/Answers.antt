use native.Mathlib.Omega.{arith}
use Rattle.text.proofs.Writing.{wrote_as, left_step, left_done}
use Rattle.console_text.proofs.Putting.{left_one, left_none, value_lines_are}
use Rattle.console_text.proofs.lines.put_values.Goals as goal

pub loop-value-preserved : goal.loop-value-preserved
loop-value-preserved c = left_step (omega arith) c.loop-value.invariant (left_one _ _ c.loop-value-test.true) c.put_value_line-next.ensures

pub returns : goal.returns
returns c = wrote_as (value_lines_are c.args.message.now c.args.literals.now c.args.answer) (left_done c.loop-value.invariant (left_none _ _ c.loop-value-test.false))
