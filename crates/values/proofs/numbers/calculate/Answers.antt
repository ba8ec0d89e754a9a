use mathlib.Core.Path.{◌∙◌}
use mir.Facts.{to_z-of_z}
use Rattle.grammar.specs.Values.{calculated}
use Rattle.values.proofs.Integers.{checked}
use Rattle.values.proofs.numbers.calculate.Goals as goal

pub returns-in-Add : goal.returns-in-Add
unfolding calculated
returns-in-Add c = rw c.in-Add.is (c.ok_or.ensures.value ∙ checked _ _ (rw (to_z-of_z c.ranges.a, to_z-of_z c.ranges.b) at c.checked_add.ensures))

pub returns-in-Subtract : goal.returns-in-Subtract
unfolding calculated
returns-in-Subtract c = rw c.in-Subtract.is (c.ok_or-in-Subtract.ensures.value ∙ checked _ _ (rw (to_z-of_z c.ranges.a, to_z-of_z c.ranges.b) at c.checked_sub.ensures))

pub returns-in-Multiply : goal.returns-in-Multiply
unfolding calculated
returns-in-Multiply c = rw c.in-Multiply.is (c.ok_or-in-Multiply.ensures.value ∙ checked _ _ (rw (to_z-of_z c.ranges.a, to_z-of_z c.ranges.b) at c.checked_mul.ensures))

pub returns-in-Divide : goal.returns-in-Divide
unfolding calculated
returns-in-Divide c = rw c.in-Divide.is (rw (to_z-of_z c.ranges.a, to_z-of_z c.ranges.b) at c.divide.ensures)
