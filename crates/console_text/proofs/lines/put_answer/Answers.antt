use native.Mathlib.Omega.{arith}
use Rattle.text.proofs.Writing.{wrote_as, wrote_then}
use Rattle.console_text.proofs.Putting.{answer_lines_are}
use Rattle.console_text.proofs.lines.put_answer.Goals as goal

pub returns : goal.returns
returns c = wrote_as (answer_lines_are _ _ _) (wrote_then (omega arith) c.put_numbers-next.ensures c.put_values.ensures)
