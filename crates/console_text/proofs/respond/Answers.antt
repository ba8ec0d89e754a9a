use mathlib.Core.Path.{sym, ◌∙◌}
use Rattle.text.proofs.Writing.{wrote_as}
use Rattle.console_text.proofs.Responding.{enough_facts, respond_none, respond_short, respond_input}
use Rattle.console_text.proofs.Putting.{input_line}
use Rattle.console_text.proofs.respond.Goals as goal

pub returns-then-output-lt10 : goal.returns-then-output-lt10
returns-then-output-lt10 c = respond_none _ _ _ _ _ _ c.if-output-lt10.true

pub returns-then-input-gt65536 : goal.returns-then-input-gt65536
returns-then-input-gt65536 c = respond_input _ _ _ _ _ _ c.if-output-lt10.false c.if-input-gt65536.true (wrote_as input_line c.put_bytes.ensures)

pub returns-then-not-lent_enough : goal.returns-then-not-lent_enough
returns-then-not-lent_enough c = respond_short _ _ _ _ _ _ c.if-input-gt65536.false (sym c.lent_enough.ensures ∙ c.if-not-lent_enough.true)

pub answer_lines-requires : goal.answer_lines-requires
answer_lines-requires c = record { input_len_bound = c.if-input-gt65536.false; roomy = enough_facts _ _ _ _ _ (sym c.lent_enough.ensures ∙ c.if-not-lent_enough.false) }
