use mathlib.Core.Path.{sym, ◌∙◌}
use native.Mathlib.Omega.{arith}
use Rattle.typing.proofs.Whole.{rule_fails, rules_pass}
use Rattle.typing.proofs.rules.first_untyped.Goals as goal

pub returns-then-not-rule_typed : goal.returns-then-not-rule_typed
returns-then-not-rule_typed c =
    rule_fails c.args.words.now c.loop-r.r (omega (arith, c.loop-r-test.true, c.rule_count-r-end.ensures)) c.loop-r.invariant.1 (sym c.rule_typed.ensures ∙ c.if-not-rule_typed.true)

pub returns : goal.returns
returns c = rules_pass c.args.words.now (λ i l. c.loop-r.invariant.1 i (omega (arith, c.loop-r-test.false, c.rule_count-r-end.ensures)))
