use Rattle.text.proofs.Taking.{Still}
use Rattle.text.specs.Found.{pairs}
use Rattle.std.specs.Slice.Iter.{chunks_rest, chunks_size}
use lib.ListN.{length, drop}
use Prim.Native.Nat.{◌+◌, ◌≤◌}
use mathlib.Core.Path.{◌≡◌}
use Rattle.text.proofs.read_hex.Given as goal

abbrev pub invariant-loop-pair : goal.invariant-loop-pair
invariant-loop-pair l = (chunks_size l.pair-iterator ≡ 2) × (l.p + length (chunks_rest l.pair-iterator) ≡ length l.text) × (l.n ≤ l.p) × Still (pairs l.n l.p (chunks_rest l.pair-iterator)) l.bytes l.n (pairs 0 l.at (drop l.at l.text)) l.initial.bytes 0
