use Rattle.text.proofs.Numbers.{number_past, number_none, number_wrong, number_first, from_past, from_end, from_none, from_wrong, from_more}
use native.Mathlib.Omega.{arith}
use mathlib.Core.Path.{sym, ap, ◌∙◌}
use Prim.Native.Nat.{◌≤◌}
use Rattle.text.specs.Found.{digit}
use Rattle.text.proofs.read_number.Goals as goal

pub returns-in_err-get : goal.returns-in_err-get
returns-in_err-get c = c.from_residual.ensures ∙ sym (number_past _ _ _ _ c.in_err-get.ensures.lookup.3)

pub returns-in_err-value : goal.returns-in_err-value
returns-in_err-value c =
    let a = c.in_ok-get.ensures.lookup.3 in
    c.from_residual-in_err-value.ensures ∙ sym (number_none _ _ _ _ a.0 (ap digit (sym (a.1 0)) ∙ sym c.digit_of.ensures ∙ c.in_err-value.was))

pub returns-then-most-value : goal.returns-then-most-value
returns-then-most-value c =
    let a = c.in_ok-get.ensures.lookup.3 in
    sym (number_wrong _ _ _ _ a.0 _ (ap digit (sym (a.1 0)) ∙ sym c.digit_of.ensures ∙ c.in_ok-value.was) (omega (arith, c.from-most.ensures)))

pub loop-i-init : goal.loop-i-init
loop-i-init c =
    let a = c.in_ok-get.ensures.lookup.3 in
    let within : c.in_ok-value.value ≤ c.args.limit = omega (arith, c.from-most.ensures) in
    (within, sym (number_first _ _ _ _ a.0 _ (ap digit (sym (a.1 0)) ∙ sym c.digit_of.ensures ∙ c.in_ok-value.was) within))

pub returns-then-byte-end : goal.returns-then-byte-end
returns-then-byte-end c = sym (from_end _ _ _ _ _ (c.loop-i-test.true) c.if-byte-end.true) ∙ c.loop-i.invariant.1

pub returns-in_err-longer : goal.returns-in_err-longer
returns-in_err-longer c =
    c.from_residual-in_err-longer.ensures ∙ sym (from_none _ _ _ _ _ c.loop-i-test.true c.if-byte-end.false (sym c.grow.ensures ∙ c.in_err-longer.was)) ∙ c.loop-i.invariant.1

pub returns-then-most-longer : goal.returns-then-most-longer
returns-then-most-longer c =
    sym (from_wrong _ _ _ _ _ c.loop-i-test.true c.if-byte-end.false _ (sym c.grow.ensures ∙ c.in_ok-longer.was) (omega (arith, c.from-most.ensures)))
    ∙ c.loop-i.invariant.1

pub loop-i-preserved : goal.loop-i-preserved
loop-i-preserved c = (
  omega (arith, c.from-most.ensures),
  sym (from_more _ _ _ _ _ c.loop-i-test.true c.if-byte-end.false _ (sym c.grow.ensures ∙ c.in_ok-longer.was) (omega (arith, c.from-most.ensures)))
      ∙ c.loop-i.invariant.1,
)

pub returns : goal.returns
returns c = sym (from_past _ _ _ _ _ c.loop-i-test.false) ∙ c.loop-i.invariant.1
