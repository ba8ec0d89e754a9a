use Rattle.grammar.specs.Answer.{refusal}
use Rattle.runs.proofs.answers.refuse.Goals as goal

pub returns : goal.returns
unfolding refusal
returns c = cc
