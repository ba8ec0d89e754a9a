use Rattle.listing.proofs.Lines.{head_is}
use Rattle.text.proofs.Writing.{wrote_then, wrote_as}
use native.Mathlib.Omega.{arith}
use Rattle.listing.proofs.writer.put_head.Goals as goal

pub returns : goal.returns
returns c = wrote_as (head_is c.args.words.now _ (omega arith)) (wrote_then (omega arith) (wrote_then (omega arith) c.put_line-a.ensures c.put_line-b.ensures) c.put_literals.ensures)
