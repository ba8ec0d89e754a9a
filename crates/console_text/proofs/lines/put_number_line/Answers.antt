use native.Mathlib.Omega.{arith}
use Rattle.text.proofs.Writing.{wrote_as, wrote_then}
use Rattle.console_text.proofs.Putting.{number_line_is}
use Rattle.console_text.proofs.lines.put_number_line.Goals as goal

pub returns : goal.returns
returns c = wrote_as (number_line_is _ _) (wrote_then (omega arith) (wrote_then (omega arith) c.put_bytes-a.ensures c.put_decimal-b.ensures) c.put.ensures)
