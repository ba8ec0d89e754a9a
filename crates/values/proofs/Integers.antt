-- Signed numbers in code: what the library's operators give, and what tests of bits say of the numbers. Assumes nothing.
use mathlib.Core.Path.{◌≡◌, refl, sym, ap, ◌∙◌}
use mathlib.Core.Bool.{Bool, true, false}
use Prim.Native.Nat.{ℕ, zero, suc, ◌-◌, ◌<◌}
use native.Mathlib.Nat.{pos_of_ne-zero}
use native.Mathlib.Omega.{arith}
use borrow.Author.Tests.{eqb-true, eqb-false, ltb-true, ltb-false, eq-eqb, ne_eqb}
use lib.Dec.{eqb, ltb}
use lib.IntN.{ℤ, pos, negsuc}
use lib.Signed.{mag, quot_z}
use mir.Syntax.{w32, w64}
use mir.Val.{SFits, to_z, of_z}
use mir.Facts.{to_z-of_z, sfits_widen}
use Rattle.std.specs.Prelude.{Option, Some, None, Err}
use Rattle.std.specs.Int.{CanDivide}
use Rattle.std.specs.Option.{SomeIff, ok_or}
use Rattle.grammar.specs.declared.Fault.TheVariants.{Overflow, ZeroDivisor}
use Rattle.grammar.proofs.Integers.{signed32_fits, signed32_not}
use Rattle.grammar.specs.Values.{fitting, quotient, same_integer}

-- ════ Numbers that fit ════

-- what is there just where the number fits
pub checked : (z : ℤ) (o : Option ℤ) → SomeIff o (SFits w32 z) z → ok_or o Overflow ≡ fitting z
unfolding fitting
checked z None none = by_size (ltb (mag z) 2147483648) refl
  where
    by_size : (t : Bool) → ltb (mag z) 2147483648 ≡ t → ok_or None Overflow ≡ fitting z
    by_size true e = absurd (none (record { sfits = ltb-true (mag z) 2147483648 e }))
    by_size false e = rw (signed32_not z (ltb-false (mag z) 2147483648 e))
checked z (Some x) fits = rw (signed32_fits z fits.0.sfits, fits.1)

-- ════ Division ════

-- the number that has these bits
from_bits : {z : ℤ} {n : ℕ} → SFits w32 z → of_z w32 z ≡ n → z ≡ to_z w32 n
from_bits f e = sym (to_z-of_z f) ∙ ap (to_z w32) e

pub no_divisor : (a b : ℤ) → SFits w32 b → of_z w32 b ≡ 0 → Err ZeroDivisor ≡ quotient a b
unfolding quotient
no_divisor a b f e = rw (from_bits f e)

quotient_is : (a b : ℤ) → (of_z w32 b ≡ 0 → ⊥) → fitting (quot_z a b) ≡ quotient a b
unfolding quotient
quotient_is a (pos zero) h = absurd (h refl)
quotient_is a (pos (suc b)) h = refl
quotient_is a (negsuc b) h = refl

-- the library's quotient, behind the guard
pub divided : (a b : ℤ) (o : Option ℤ) → (of_z w32 b ≡ 0 → ⊥) → SomeIff o (CanDivide w32 a b) (quot_z a b) → ok_or o Overflow ≡ quotient a b
divided a b None h none = checked (quot_z a b) None (λ f. none (pos_of_ne-zero h, f)) ∙ quotient_is a b h
divided a b (Some x) h can = checked (quot_z a b) (Some x) (can.0.1, can.1) ∙ quotient_is a b h

-- ════ A 32-bit number widened ════

-- its bits, widened to 64 and read back
abbrev pub widened : ℤ → ℤ
widened z = to_z w64 (of_z w64 (to_z w32 (of_z w32 z)))

pub widened_is : {z : ℤ} → SFits w32 z → widened z ≡ z
widened_is {z} f = rw (to_z-of_z f) (to_z-of_z {w = w64} (sfits_widen {w = w32} {w' = w64} tt f))

-- ════ Equality ════

same_negative : (t : Bool) (a b : ℕ) → a < 2147483648 → b < 2147483648 → eqb a b ≡ t → eqb (4294967296 - suc a) (4294967296 - suc b) ≡ t
same_negative true a b p q e = eq-eqb (4294967296 - suc a) (4294967296 - suc b) (omega (arith, eqb-true a b e))
same_negative false a b p q e = ne_eqb (4294967296 - suc a) (4294967296 - suc b) (λ h. eqb-false a b e (omega arith))

-- the test of two numbers' bits
pub same_bits : (a b : ℤ) → SFits w32 a → SFits w32 b → eqb (of_z w32 a) (of_z w32 b) ≡ same_integer a b
same_bits (pos a) (pos b) f g = refl
same_bits (pos a) (negsuc b) f g = let p = f.sfits in let q = g.sfits in ne_eqb a (4294967296 - suc b) (omega arith)
same_bits (negsuc a) (pos b) f g = let p = f.sfits in let q = g.sfits in ne_eqb (4294967296 - suc a) b (omega arith)
same_bits (negsuc a) (negsuc b) f g = same_negative (eqb a b) a b f.sfits g.sfits refl
