use Rattle.machine.specs.Drive.{weight, driven}
use Rattle.stages.specs.Stages.{with}
use lib.ListN.{length}
use mathlib.Core.Path.{◌≡◌}
use Rattle.machine.proofs.steps.drive.Given as goal

abbrev pub invariant-loop-inputs : goal.invariant-loop-inputs
invariant-loop-inputs l = (driven l.inputs.words.now l.inputs.literals.now l.inputs.message.now l.budget (with l.now l.work) ≡ driven l.inputs.words.now l.inputs.literals.now l.inputs.message.now l.budget (with l.initial.now l.initial.work)) × (length l.work ≡ length l.initial.work)

abbrev pub decreases-loop-inputs : goal.decreases-loop-inputs
decreases-loop-inputs l = weight l.budget l.now
