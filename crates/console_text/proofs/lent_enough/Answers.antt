use Rattle.std.proofs.lemmas.Bool.Decides.{nat_tests}
use native.Mathlib.Omega.{arith}
use Rattle.grammar.specs.Form.{every}
use Rattle.console_text.specs.Lent.{enough}
use Rattle.console_text.proofs.lent_enough.Goals as goal

pub returns-then-work-ge9760 : goal.returns-then-work-ge9760
unfolding enough every
returns-then-work-ge9760 c = grind (arith, nat_tests)

pub returns-else-work-ge9760 : goal.returns-else-work-ge9760
unfolding enough every
returns-else-work-ge9760 c = grind (arith, nat_tests)
