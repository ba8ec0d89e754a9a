use Rattle.text.specs.Found.{grown}
use Rattle.text.proofs.Decimals.{digit_byte}
use borrow.Author.Tests.{eq-eqb, ne_eqb}
use mathlib.Core.Path.{sym, ◌∙◌}
use native.Mathlib.Omega.{arith}
use Rattle.text.proofs.grow.Goals as goal

pub returns-then-value-eq0 : goal.returns-then-value-eq0
unfolding grown
returns-then-value-eq0 c = rw (eq-eqb _ _ c.if-value-eq0.true)

pub returns-in_err-digit_of : goal.returns-in_err-digit_of
unfolding grown
returns-in_err-digit_of c = rw (ne_eqb _ _ c.if-value-eq0.false, sym c.digit_of.ensures ∙ c.in_err-digit_of.was) c.from_residual.ensures

pub overflow_add-result : goal.overflow_add-result
overflow_add-result c = omega (arith, (digit_byte c.args.byte c.in_ok-digit_of.field-0 (sym c.digit_of.ensures ∙ c.in_ok-digit_of.was)).small)

pub returns : goal.returns
unfolding grown
returns c = rw (ne_eqb _ _ c.if-value-eq0.false, sym c.digit_of.ensures ∙ c.in_ok-digit_of.was)
