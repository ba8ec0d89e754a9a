use Rattle.text.proofs.Taking.{took_as, took_none}
use Rattle.console_text.proofs.Reading.{message_wrong, message_key_lem}
use Rattle.console_text.proofs.request.read_message.Goals as goal

pub returns-in_err-p : goal.returns-in_err-p
returns-in_err-p c = rw c.from_residual.ensures (took_as (message_wrong _ _ _ c.after_key.ensures c.in_err-p.was) (took_none _ _ _))

pub returns : goal.returns
returns c = took_as (message_key_lem _ _ _ _ c.after_key.ensures c.in_ok-p.was) c.read_hex.ensures
