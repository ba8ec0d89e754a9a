use mathlib.Core.Path.{◌∙◌}
use Rattle.console_text.proofs.Reading.{mode_bench, mode_display, mode_wrong}
use Rattle.console_text.proofs.request.read_mode.Goals as goal

pub returns-in-Some : goal.returns-in-Some
returns-in-Some c = mode_bench _ _ _ c.after_key.ensures c.in-Some.is

pub returns-in_err-p : goal.returns-in_err-p
returns-in_err-p c = c.from_residual.ensures ∙ mode_wrong _ _ _ c.after_key.ensures c.in_default.is c.after_key-2.ensures c.in_err-p.was

pub returns : goal.returns
returns c = mode_display _ _ _ _ c.after_key.ensures c.in_default.is c.after_key-2.ensures c.in_ok-p.was
