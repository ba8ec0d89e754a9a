use lib.ListN.{length, get_or}
use Prim.Native.Nat.{ℕ, ◌-◌, ◌≤◌, ◌<◌, ◌+◌}
use mathlib.Core.Path.{◌≡◌}
use Rattle.frames.proofs.words.taken.Given as goal

abbrev pub invariant-loop-i : goal.invariant-loop-i
invariant-loop-i l = (l.i ≤ 32) × (length l.slots ≡ 32) × ((j : ℕ) → j < l.i → get_or l.slots j 0 ≡ get_or l.words (l.from + j) 0)

abbrev pub decreases-loop-i : goal.decreases-loop-i
decreases-loop-i l = 32 - l.i
