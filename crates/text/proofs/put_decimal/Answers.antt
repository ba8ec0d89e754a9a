use Rattle.text.proofs.Decimals.{digits_part}
use Rattle.text.proofs.Writing.{wrote_as}
use Rattle.text.proofs.put_decimal.Goals as goal

pub returns : goal.returns
returns c = wrote_as (digits_part c.decimal_in-first.new.digits c.decimal_in-first.result _ c.decimal_in-first.auto.digits c.decimal_in-first.ensures.1) c.put_bytes.ensures
