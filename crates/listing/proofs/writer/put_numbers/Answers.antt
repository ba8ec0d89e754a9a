use Rattle.listing.proofs.Lines.{numbers_one, numbers_none}
use Rattle.text.proofs.Writing.{wrote_then, wrote_as, left_step, left_done}
use Rattle.text.specs.Written.{decimal}
use native.Mathlib.Omega.{arith}
use Prim.Native.Nat.{ℕ}
use mathlib.Core.List.{[], ◌∷◌}
use mathlib.Core.Path.{refl, ap}
use Rattle.listing.proofs.writer.put_numbers.Goals as goal

pub loop-i-preserved : goal.loop-i-preserved
loop-i-preserved c =
    left_step (omega arith) c.loop-i.invariant (numbers_one _ _ _ c.loop-i-test.true refl)
    (wrote_then (omega (arith, c.loop-i.auto.text)) (wrote_as (ap decimal c.from.ensures) c.put_decimal-end.ensures) (wrote_as (ap (λ (x : ℕ). x ∷ []) c.ending_of.ensures) c.put-next.ensures))

pub returns : goal.returns
returns c = left_done c.loop-i.invariant (numbers_none _ _ c.loop-i-test.false)
