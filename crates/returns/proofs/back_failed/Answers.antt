use Rattle.returns.proofs.Arms.{failed_rests, failed_top}
use Rattle.returns.proofs.back_failed.Goals as goal

pub returns-then-run-eq0 : goal.returns-then-run-eq0
returns-then-run-eq0 c = cc (failed_rests c.args.inputs.words.now c.args.inputs.literals.now c.args.inputs.message.now c.args.run c.args.work.now c.args.run.frames c.if-run-eq0.true)

pub returns : goal.returns
returns c = let a = c.args in cc (failed_top a.inputs.words.now a.inputs.literals.now a.inputs.message.now a.run a.work.now a.run.frames c.if-run-eq0.false)
