use Rattle.listing.specs.Listing.{record_lines}
use Rattle.text.proofs.Writing.{Left}
use Rattle.std.specs.Slice.Iter.{chunks_exact_rest, chunks_exact_size}
use lib.ListN.{length}
use Prim.Native.Nat.{◌/◌}
use mathlib.Core.Path.{◌≡◌}
use Rattle.listing.proofs.writer.put_records.Given as goal

abbrev pub invariant-loop-record : goal.invariant-loop-record
invariant-loop-record l = (chunks_exact_size l.record-iterator ≡ l.records.width) × Left l.text l.next (record_lines l.records.key.now l.records.width (length (chunks_exact_rest l.record-iterator) / l.records.width) (chunks_exact_rest l.record-iterator)) l.initial.text l.at (record_lines l.records.key.now l.records.width (length l.words / l.records.width) l.words)
