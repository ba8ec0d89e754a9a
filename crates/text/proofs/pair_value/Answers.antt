use Rattle.text.specs.Found.{pair_value}
use Rattle.text.proofs.Pairs.{value_byte}
use mathlib.Core.Path.{sym, ◌∙◌}
use native.Mathlib.Omega.{arith}
use Rattle.text.proofs.pair_value.Goals as goal

pub overflow_mul-result : goal.overflow_mul-result
overflow_mul-result c = omega (arith, (value_byte c.args.first c.in_ok-high.high (sym c.hex_value.ensures ∙ c.in_ok-high.was)).small)

pub overflow_add-result : goal.overflow_add-result
overflow_add-result c =
    omega (arith, (value_byte c.args.first c.in_ok-high.high (sym c.hex_value.ensures ∙ c.in_ok-high.was)).small, (value_byte c.args.second c.in_ok-low.low (sym c.hex_value-2.ensures ∙ c.in_ok-low.was)).small)

pub returns-in_err-high : goal.returns-in_err-high
unfolding pair_value
returns-in_err-high c = rw (sym c.hex_value.ensures ∙ c.in_err-high.was) c.from_residual.ensures

pub returns-in_err-low : goal.returns-in_err-low
unfolding pair_value
returns-in_err-low c = rw (sym c.hex_value.ensures ∙ c.in_ok-high.was, sym c.hex_value-2.ensures ∙ c.in_err-low.was) c.from_residual-in_err-low.ensures

pub returns : goal.returns
unfolding pair_value
returns c = rw (sym c.hex_value.ensures ∙ c.in_ok-high.was, sym c.hex_value-2.ensures ∙ c.in_ok-low.was)
