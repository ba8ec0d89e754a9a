use Rattle.returns.proofs.Arms.{sequence_first, sequence_second}
use Rattle.frames.specs.Frames.{phase_in}
use mathlib.Core.Path.{sym, ◌∙◌}
use Rattle.returns.proofs.sequence_matched.Goals as goal

pub returns-then-phase_in-eq0 : goal.returns-then-phase_in-eq0
returns-then-phase_in-eq0 c = cc (sequence_first c.args.b c.args.d c.args.run c.args.work.now (phase_in c.args.work.now c.args.d) (sym c.phase_in.ensures ∙ c.if-phase_in-eq0.true))

pub returns : goal.returns
returns c = cc (sequence_second c.args.b c.args.d c.args.run c.args.work.now (phase_in c.args.work.now c.args.d) (λ e. c.if-phase_in-eq0.false (c.phase_in.ensures ∙ e)))
