use Rattle.expressions.proofs.Givens.{number_is, number_overflow, number_zero_divisor, calculated_fits}
use mir.Facts.{to_z-of_z}
use mathlib.Core.Path.{sym, ◌∙◌}
use native.Mathlib.Omega.{arith}
use Rattle.expressions.proofs.results.calculated.Goals as goal

pub returns-in-Ok : goal.returns-in-Ok
returns-in-Ok c =
    let gives = rw (to_z-of_z c.ranges.a, to_z-of_z c.ranges.b) at c.calculate.ensures in
    let same = sym gives ∙ c.in-Ok.is in
    let fits = calculated_fits _ _ _ _ same in
    number_is c.args.k _ fits same (rw (to_z-of_z fits) at c.word_of.ensures)

pub returns-in-Overflow : goal.returns-in-Overflow
returns-in-Overflow c =
    let gives = rw (to_z-of_z c.ranges.a, to_z-of_z c.ranges.b) at c.calculate.ensures in
    rw c.from.ensures (number_overflow c.args.k (omega arith) (sym gives ∙ c.in-Err.is) c.in-Overflow.is)

pub returns-in-ZeroDivisor : goal.returns-in-ZeroDivisor
returns-in-ZeroDivisor c =
    let gives = rw (to_z-of_z c.ranges.a, to_z-of_z c.ranges.b) at c.calculate.ensures in
    rw c.from-in-ZeroDivisor.ensures (number_zero_divisor c.args.k (omega arith) (sym gives ∙ c.in-Err.is) c.in-ZeroDivisor.is)
