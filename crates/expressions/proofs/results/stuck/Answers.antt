use native.Mathlib.Omega.{arith}
use Rattle.expressions.proofs.Givens.{stuck_is}
use Rattle.expressions.proofs.results.stuck.Goals as goal

pub returns : goal.returns
returns c = rw c.from.ensures (stuck_is c.args.k (omega arith))
