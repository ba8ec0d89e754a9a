use Rattle.text.proofs.Writing.{left_step}
use Rattle.laws.specs.Parts.{drop_one}
use native.Mathlib.Omega.{arith}
use Rattle.text.proofs.put_bytes.Goals as goal

pub loop-byte-preserved : goal.loop-byte-preserved
loop-byte-preserved c = left_step (omega arith) c.loop-byte.invariant (drop_one _ _ 0 c.loop-byte-test.true) c.put-next.ensures
