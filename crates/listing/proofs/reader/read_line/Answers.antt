use Rattle.listing.proofs.Steps.{line_at_wrong, line_at_key}
use Rattle.text.proofs.Taking.{took_as, took_none}
use Rattle.listing.proofs.reader.read_line.Goals as goal

pub returns-in_err-p : goal.returns-in_err-p
returns-in_err-p c = rw c.from_residual.ensures (took_as (line_at_wrong _ _ _ _ _ c.after_key.ensures c.in_err-p.was) (took_none _ _ _))

pub returns : goal.returns
returns c = took_as (line_at_key _ _ _ _ _ c.after_key.ensures _ c.in_ok-p.was) c.read_numbers.ensures
