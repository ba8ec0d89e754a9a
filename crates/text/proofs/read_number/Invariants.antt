use Rattle.text.specs.Found.{number, number_from}
use lib.ListN.{drop}
use Prim.Native.Nat.{◌≤◌}
use mathlib.Core.Path.{◌≡◌}
use Rattle.text.proofs.read_number.Given as goal

abbrev pub invariant-loop-i : goal.invariant-loop-i
invariant-loop-i l = (l.value ≤ l.limit) × (number_from l.end l.limit l.value l.i (drop l.i l.text) ≡ number l.end l.limit l.at (drop l.at l.text))
