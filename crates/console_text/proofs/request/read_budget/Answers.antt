use mathlib.Core.Path.{◌∙◌}
use Rattle.console_text.proofs.Reading.{budget_wrong, budget_key_lem}
use Rattle.console_text.proofs.request.read_budget.Goals as goal

pub returns-in_err-p : goal.returns-in_err-p
returns-in_err-p c = c.from_residual.ensures ∙ budget_wrong _ _ _ c.after_key.ensures c.in_err-p.was

pub returns : goal.returns
returns c = c.read_number.ensures ∙ budget_key_lem _ _ _ _ c.after_key.ensures c.in_ok-p.was
