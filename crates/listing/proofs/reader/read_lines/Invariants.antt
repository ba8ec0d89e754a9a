use Rattle.listing.specs.Reading.{lines_at}
use Rattle.text.proofs.Taking.{Still}
use Prim.Native.Nat.{◌+◌, ◌*◌, ◌-◌}
use Rattle.listing.proofs.reader.read_lines.Given as goal

abbrev pub invariant-loop-i : goal.invariant-loop-i
invariant-loop-i l = Still (lines_at l.text l.records.key.now l.records.width (l.count - l.i) (l.number + l.i) l.p) l.words (l.from + l.i * l.records.width) (lines_at l.text l.records.key.now l.records.width l.count l.number l.at) l.initial.words l.from
