use native.Mathlib.Omega.{arith}
use lib.ListN.{length-set}
use mathlib.Core.Path.{sym, ◌∙◌}
use Rattle.text.proofs.Decimals.{digit_none, digit_room, digit_more, digit_first}
use Rattle.text.proofs.decimal_in.Goals as goal

pub loop-rest-init : goal.loop-rest-init
loop-rest-init c = (c.requires, omega arith, omega arith, omega arith, digit_none c.args.digits.now c.args.n c.requires, omega arith)

pub overflow_sub-first : goal.overflow_sub-first
overflow_sub-first c = omega (arith, c.loop-rest.invariant.1)

pub overflow_add-digits : goal.overflow_add-digits
overflow_add-digits c = omega arith

pub overflow_cast-digits : goal.overflow_cast-digits
overflow_cast-digits c = omega arith

pub bounds-digits-first : goal.bounds-digits-first
bounds-digits-first c = omega (arith, c.loop-rest.invariant.0, c.loop-rest.invariant.1, c.loop-rest.invariant.2)

pub loop-rest-smaller : goal.loop-rest-smaller
loop-rest-smaller c = omega arith

pub loop-rest-preserved : goal.loop-rest-preserved
loop-rest-preserved c = let i = c.loop-rest.invariant in let r = digit_room c.loop-rest.first c.loop-rest.rest c.loop-rest-test.true i.3 in (length-set c.loop-rest.digits _ _ ∙ i.0, r.0, omega (arith, i.2), r.1, digit_more c.loop-rest.digits c.loop-rest.first c.args.n c.loop-rest.rest i.1 (omega (arith, i.0, i.2)) i.4 c.loop-rest-test.true (omega (arith, i.5)), omega (arith, i.5))

pub overflow_sub-first-2 : goal.overflow_sub-first-2
overflow_sub-first-2 c = omega (arith, c.loop-rest.invariant.1)

pub overflow_add-digits-2 : goal.overflow_add-digits-2
overflow_add-digits-2 c = omega arith

pub overflow_cast-digits-2 : goal.overflow_cast-digits-2
overflow_cast-digits-2 c = omega arith

pub bounds-digits-first-2 : goal.bounds-digits-first-2
bounds-digits-first-2 c = omega (arith, c.loop-rest.invariant.0, c.loop-rest.invariant.1, c.loop-rest.invariant.2)

pub shape_of-digits : goal.shape_of-digits
shape_of-digits c = length-set c.loop-rest.digits _ _ ∙ c.loop-rest.invariant.0 ∙ sym c.requires

pub returns : goal.returns
returns c = let i = c.loop-rest.invariant in (omega (arith, i.2), digit_first c.loop-rest.digits c.loop-rest.first c.args.n c.loop-rest.rest i.1 (omega (arith, i.0, i.2)) i.4 (omega (arith, c.loop-rest-test.false)))
