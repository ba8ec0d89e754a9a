use Rattle.returns.proofs.Arms.{choice_first, choice_second}
use Rattle.frames.specs.Frames.{phase_in}
use mathlib.Core.Path.{sym, ◌∙◌}
use Rattle.returns.proofs.choice_failed.Goals as goal

pub returns-then-phase-eq0 : goal.returns-then-phase-eq0
returns-then-phase-eq0 c = cc (choice_first c.args.b c.args.d c.args.run c.args.work.now (phase_in c.args.work.now c.args.d) (sym c.phase_in-phase.ensures ∙ c.if-phase-eq0.true))

pub returns : goal.returns
returns c = cc (choice_second c.args.b c.args.d c.args.run c.args.work.now (phase_in c.args.work.now c.args.d) (λ e. c.if-phase-eq0.false (c.phase_in-phase.ensures ∙ e)))
