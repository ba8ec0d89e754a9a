-- Signed 32-bit numbers by their size. Assumes nothing.
use mathlib.Core.Path.{◌≡◌}
use mathlib.Core.Bool.{true, false}
use Prim.Native.Nat.{◌+◌, ◌≤◌, ◌<◌}
use native.Mathlib.Omega.{arith}
use lib.IntN.{ℤ, pos, negsuc}
use lib.Signed.{mag}
use borrow.Author.Tests.{le-leb, lt-leb}
use Rattle.grammar.specs.Values.{signed32}

pub signed32_fits : (z : ℤ) → mag z < 2147483648 → signed32 z ≡ true
signed32_fits (pos n) h = le-leb n 2147483647 (omega arith)
signed32_fits (negsuc n) h = le-leb (n + 1) 2147483648 (omega arith)

pub signed32_not : (z : ℤ) → 2147483648 ≤ mag z → signed32 z ≡ false
signed32_not (pos n) h = lt-leb n 2147483647 (omega arith)
signed32_not (negsuc n) h = lt-leb (n + 1) 2147483648 (omega arith)
