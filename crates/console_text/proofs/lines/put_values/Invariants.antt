use Rattle.text.proofs.Writing.{Left}
use Rattle.console_text.proofs.Putting.{left_of, line_at}
use Rattle.console_text.proofs.lines.put_values.Given as goal

abbrev pub invariant-loop-value : goal.invariant-loop-value
invariant-loop-value l = Left l.output l.next (left_of (line_at l.message l.literals l.value-items) l.value-index) l.initial.output l.at (left_of (line_at l.message l.literals l.value-items) 0)
