use Rattle.text.specs.Written.{signed_decimal}
use mir.Facts.{to_z-of_z}
use mathlib.Core.Path.{ap}
use native.Mathlib.Omega.{arith}
use Rattle.text.proofs.Writing.{wrote_as, wrote_then}
use Rattle.console_text.proofs.lines.put_integer.Goals as goal

pub returns : goal.returns
returns c = wrote_then (omega arith) c.put_bytes-next.ensures (wrote_as (ap signed_decimal (to_z-of_z c.ranges.n)) c.put_signed.ensures)
