use Prim.Native.Nat.{◌^◌, ◌≤◌, ◌<◌}
use lib.ListN.{length, drop}
use mathlib.Core.Path.{◌≡◌}
use mathlib.Core.List.{◌++◌}
use Rattle.text.specs.Written.{decimal}
use Rattle.text.proofs.decimal_in.Given as goal

abbrev pub invariant-loop-rest : goal.invariant-loop-rest
invariant-loop-rest l = (length l.digits ≡ 10) × (0 < l.first) × (l.first ≤ 10) × (l.rest < 10 ^ l.first) × (decimal l.rest ++ drop l.first l.digits ≡ decimal l.n) × (l.rest ≤ l.n)

abbrev pub decreases-loop-rest : goal.decreases-loop-rest
decreases-loop-rest l = l.rest
