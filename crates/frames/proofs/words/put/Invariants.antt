use Rattle.frames.specs.Frames.{stored}
use lib.ListN.{length}
use Prim.Native.Nat.{◌-◌, ◌≤◌}
use mathlib.Core.Path.{◌≡◌}
use Rattle.frames.proofs.words.put.Given as goal

abbrev pub invariant-loop-j : goal.invariant-loop-j
invariant-loop-j l = (l.j ≤ 32) × (l.words ≡ stored l.initial.words l.to l.slots l.j) × (length l.words ≡ length l.initial.words)

abbrev pub decreases-loop-j : goal.decreases-loop-j
decreases-loop-j l = 32 - l.j
