use Rattle.runs.proofs.Answering.{assembled}
use Rattle.runs.proofs.whole.run_table.Goals as goal

pub returns : goal.returns
returns c = assembled c.args.inputs.words.now c.args.inputs.literals.now c.args.inputs.message.now c.args.budget c.args.work.now _ _ _ _ _ (cc) c.drive-last.ensures c.conclude-answer.ensures c.clear_work.ensures
