use Rattle.listing.proofs.Lines.{line_is}
use Rattle.text.proofs.Writing.{wrote_then, wrote_as}
use native.Mathlib.Omega.{arith}
use Rattle.listing.proofs.writer.put_line.Goals as goal

pub returns : goal.returns
returns c = wrote_as (line_is _ _) (wrote_then (omega arith) c.put_bytes-next.ensures c.put_numbers.ensures)
