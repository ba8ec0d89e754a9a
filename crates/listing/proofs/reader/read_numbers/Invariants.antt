use Rattle.listing.specs.Reading.{numbers_at}
use Rattle.text.proofs.Taking.{Still}
use Prim.Native.Nat.{◌+◌, ◌-◌}
use Rattle.listing.proofs.reader.read_numbers.Given as goal

abbrev pub invariant-loop-i : goal.invariant-loop-i
invariant-loop-i l = Still (numbers_at l.text (l.count - l.i) l.p) l.words (l.from + l.i) (numbers_at l.text l.count l.at) l.initial.words l.from
