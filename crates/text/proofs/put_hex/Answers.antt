use Rattle.text.proofs.Pairs.{hex_one, hex_none}
use Rattle.text.proofs.Writing.{wrote_then, wrote_as, left_step, left_done, left_length}
use native.Mathlib.Omega.{arith}
use mathlib.Core.List.{[], ◌∷◌}
use mathlib.Core.Path.{ap}
use Prim.Native.Nat.{ℕ}
use Rattle.text.proofs.put_hex.Goals as goal

pub loop-byte-preserved : goal.loop-byte-preserved
loop-byte-preserved c =
    left_step (omega arith) c.loop-byte.invariant (hex_one _ _ c.loop-byte-test.true)
    (wrote_then (omega (arith, left_length c.loop-byte.invariant)) (wrote_as (ap (λ (x : ℕ). x ∷ []) c.hex_digit.ensures) c.put-next.ensures)
    (wrote_as (ap (λ (x : ℕ). x ∷ []) c.hex_digit-in-loop-byte.ensures) c.put-next-in-loop-byte.ensures))

pub returns : goal.returns
returns c = left_done c.loop-byte.invariant (hex_none _ _ c.loop-byte-test.false)
