use Rattle.listing.proofs.Lines.{literals_is}
use Rattle.text.proofs.Writing.{wrote_then, wrote_as}
use native.Mathlib.Omega.{arith}
use Rattle.listing.proofs.writer.put_literals.Goals as goal

pub returns : goal.returns
returns c = wrote_as (literals_is _) (wrote_then (omega arith) (wrote_then (omega arith) c.put_bytes-a.ensures c.put_hex-b.ensures) c.put.ensures)
