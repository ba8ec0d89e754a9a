use Rattle.listing.specs.Listing.{numbers}
use Rattle.text.proofs.Writing.{Left}
use lib.ListN.{drop}
use Rattle.listing.proofs.writer.put_numbers.Given as goal

abbrev pub invariant-loop-i : goal.invariant-loop-i
invariant-loop-i l = Left l.text l.next (numbers (drop l.i l.words)) l.initial.text l.at (numbers l.words)
