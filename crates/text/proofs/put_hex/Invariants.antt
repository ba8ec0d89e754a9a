use Rattle.text.proofs.Writing.{Left}
use Rattle.text.specs.Written.{hex}
use lib.ListN.{drop}
use Rattle.text.proofs.put_hex.Given as goal

abbrev pub invariant-loop-byte : goal.invariant-loop-byte
invariant-loop-byte l = Left l.text l.next (hex (drop l.byte-index l.bytes)) l.initial.text l.at (hex l.bytes)
