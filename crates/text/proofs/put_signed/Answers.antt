use Rattle.text.proofs.Writing.{wrote_then, wrote_as}
use Rattle.text.proofs.Decimals.{signed_negative, signed_other}
use Rattle.text.specs.Written.{decimal}
use mir.Facts.{to_z-of_z}
use native.Mathlib.Omega.{arith}
use mathlib.Core.Path.{sym, ap, ◌∙◌}
use Rattle.text.proofs.put_signed.Goals as goal

pub returns-then-n-lt0 : goal.returns-then-n-lt0
returns-then-n-lt0 c =
    wrote_as (sym (signed_negative _ (rw (to_z-of_z c.ranges.n) at c.if-n-lt0.true)))
    (wrote_then (omega arith) c.put-next.ensures (wrote_as (ap decimal (rw (to_z-of_z c.ranges.n) at c.unsigned_abs-size.ensures.value)) c.put_decimal.ensures))

pub returns : goal.returns
returns c =
    wrote_as (ap decimal (rw (to_z-of_z c.ranges.n) at c.unsigned_abs-size.ensures.value) ∙ sym (signed_other _ (rw (to_z-of_z c.ranges.n) at c.if-n-lt0.false)))
    c.put_decimal-2.ensures
