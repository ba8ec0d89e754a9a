use native.Mathlib.Omega.{arith}
use Rattle.text.proofs.Writing.{wrote_as, wrote_then}
use Rattle.console_text.proofs.Putting.{number_lines_are}
use Rattle.console_text.proofs.lines.put_numbers.Goals as goal

pub returns : goal.returns
returns c = wrote_as (number_lines_are _) (wrote_then (omega arith) (wrote_then (omega arith) (wrote_then (omega arith) c.put_number_line-a.ensures c.put_number_line-b.ensures) c.put_number_line-c.ensures) c.put_number_line.ensures)
