use native.Mathlib.Omega.{arith}
use Rattle.expressions.proofs.levels_of.Goals as goal

pub returns-then-k-lt1024 : goal.returns-then-k-lt1024
returns-then-k-lt1024 c = (omega arith, omega arith, omega arith)

pub returns-else-k-lt1024 : goal.returns-else-k-lt1024
returns-else-k-lt1024 c = (omega arith, omega arith, omega arith)
