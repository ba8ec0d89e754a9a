use Rattle.grammar.specs.Answer.{setting_of}
use Rattle.grammar.specs.Tree.{expr_at}
use Rattle.frames.specs.Frames.{slots_in}
use Rattle.calls.proofs.Gathering.{Gathers}
use Rattle.calls.proofs.evaluate_four.Given as goal

abbrev pub invariant-loop-i : goal.invariant-loop-i
invariant-loop-i l =
    Gathers (setting_of l.inputs.words.now l.inputs.literals.now l.inputs.message.now) (slots_in l.work) (expr_at l.inputs.words.now) l.count l.nodes l.i l.values
