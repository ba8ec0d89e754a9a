use Rattle.text.proofs.Writing.{Left}
use lib.ListN.{drop}
use Rattle.text.proofs.put_bytes.Given as goal

abbrev pub invariant-loop-byte : goal.invariant-loop-byte
invariant-loop-byte l = Left l.text l.next (drop l.byte-index l.bytes) l.initial.text l.at l.bytes
