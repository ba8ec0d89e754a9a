use Rattle.text.specs.Found.{digit, hex_value}
use Rattle.std.proofs.lemmas.Bool.Decides.{nat_tests}
use native.Mathlib.Omega.{arith}
use Rattle.text.proofs.hex_value.Goals as goal

pub returns-in-48-to-57 : goal.returns-in-48-to-57
unfolding digit hex_value
returns-in-48-to-57 c = grind (arith, nat_tests)

pub returns-in-97-to-102 : goal.returns-in-97-to-102
unfolding digit hex_value
returns-in-97-to-102 c = grind (arith, nat_tests)

pub returns-in_default : goal.returns-in_default
unfolding digit hex_value
returns-in_default c = grind (arith, nat_tests)

pub returns-in_default-2 : goal.returns-in_default-2
unfolding digit hex_value
returns-in_default-2 c = grind (arith, nat_tests)

pub returns-in_default-3 : goal.returns-in_default-3
unfolding digit hex_value
returns-in_default-3 c = grind (arith, nat_tests)
