use native.Mathlib.Omega.{arith}
use Rattle.text.proofs.Writing.{wrote_as, wrote_then}
use Rattle.console_text.proofs.Putting.{value_line_is}
use Rattle.console_text.proofs.lines.put_value_line.Goals as goal

pub returns : goal.returns
returns c = wrote_as (value_line_is _ _ _) (wrote_then (omega arith) (wrote_then (omega arith) c.put_bytes-a.ensures c.put_value-b.ensures) c.put.ensures)
