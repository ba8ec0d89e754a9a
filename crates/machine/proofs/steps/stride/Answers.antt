use lib.ListN.{length}
use mathlib.Core.Path.{sym, ◌∙◌}
use native.Mathlib.Omega.{arith}
use Rattle.machine.proofs.ThreeSteps.{two_facts, strode_step, strode_both}
use Rattle.machine.proofs.steps.stride.Goals as goal

pub both_visits-requires : goal.both_visits-requires
both_visits-requires c = let a = c.args in let f = two_facts a.budget (length a.work.now) a.run (sym c.two_left.ensures ∙ c.if-two_left.true) in (f.1, omega (arith, f.2))

pub returns-then-two_left : goal.returns-then-two_left
returns-then-two_left c = let a = c.args in rw c.both_visits.ensures (strode_both a.inputs.words.now a.inputs.literals.now a.inputs.message.now a.budget _ a.run a.work.now c.in-Enter.is (sym c.terminal_first.ensures ∙ c.if-terminal_first.true) (sym c.two_left.ensures ∙ c.if-two_left.true) (omega arith) (omega arith) c.requires)

pub returns-else-terminal_first : goal.returns-else-terminal_first
returns-else-terminal_first c = let a = c.args in rw c.step.ensures (strode_step a.inputs.words.now a.inputs.literals.now a.inputs.message.now a.budget a.run a.work.now c.requires)

pub returns-in_default : goal.returns-in_default
returns-in_default c = let a = c.args in rw c.step-in_default.ensures (strode_step a.inputs.words.now a.inputs.literals.now a.inputs.message.now a.budget a.run a.work.now c.requires)
