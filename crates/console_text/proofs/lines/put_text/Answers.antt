use native.Mathlib.Omega.{arith}
use Rattle.text.proofs.Writing.{wrote_as, wrote_then}
use Rattle.console_text.proofs.Putting.{text_empty, text_some}
use Rattle.console_text.proofs.lines.put_text.Goals as goal

pub returns-then-bytes-eq0 : goal.returns-then-bytes-eq0
returns-then-bytes-eq0 c = wrote_as (text_empty _ c.if-bytes-eq0.true) c.put.ensures

pub returns : goal.returns
returns c = wrote_as (text_some _ c.if-bytes-eq0.false) (wrote_then (omega arith) c.put_bytes-next.ensures c.put_hex.ensures)
