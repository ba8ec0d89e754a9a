use Rattle.frames.proofs.Laws.{written_slot, written_none}
use mathlib.Core.Path.{sym, ◌∙◌}
use Rattle.frames.proofs.write_slot.Goals as goal

pub returns-then-s-lt16 : goal.returns-then-s-lt16
returns-then-s-lt16 c = c.write_slot.ensures ∙ sym (written_slot _ _ _ c.if-s-lt16.true)

pub returns-else-s-lt16 : goal.returns-else-s-lt16
returns-else-s-lt16 c = sym (written_none c.args.work.now _ _ c.if-s-lt16.false)
