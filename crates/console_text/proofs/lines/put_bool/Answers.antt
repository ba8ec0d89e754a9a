use Rattle.text.proofs.Writing.{wrote_as}
use Rattle.console_text.proofs.Putting.{bool_true, bool_false}
use Rattle.console_text.proofs.lines.put_bool.Goals as goal

pub returns-then-truth : goal.returns-then-truth
returns-then-truth c = wrote_as (bool_true _ c.if-truth.true) c.put_bytes.ensures

pub returns : goal.returns
returns c = wrote_as (bool_false _ c.if-truth.false) c.put_bytes-2.ensures
