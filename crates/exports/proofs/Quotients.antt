-- Which quotients of 32-bit numbers are 32-bit numbers: all but that of the smallest number by -1, which is Overflow. (Laws about the written meaning of division alone;
-- the code asks the library, whose contract says that a quotient is there where it fits.) Assumes nothing.
use mathlib.Core.Path.{◌≡◌, refl, sym, ap, ◌∙◌}
use Prim.Native.Nat.{ℕ, zero, suc, ◌-◌, ◌/◌, ◌≤◌, ◌<◌}
use native.Mathlib.Omega.{arith}
use native.Mathlib.Nat.{div-le_self, div-lt_self}
use lib.IntN.{ℤ, pos, negsuc, neg_ℤ}
use lib.Signed.{quot_z}
use mir.Syntax.{w32}
use mir.Val.{SFits, to_z, of_z}
use mir.Facts.{to_z-of_z}
use Rattle.std.specs.Prelude.{Err}
use Rattle.grammar.specs.declared.Fault.TheVariants.{Overflow}
use Rattle.grammar.specs.Values.{fitting, quotient}

-- a 32-bit number, from its bits
from_bits : {z : ℤ} {n : ℕ} → SFits w32 z → of_z w32 z ≡ n → z ≡ to_z w32 n
from_bits {z} f e = sym (to_z-of_z f) ∙ ap (to_z w32) e

-- the smallest number by -1
pub smallest_negated : {a b : ℤ} → SFits w32 a → SFits w32 b → of_z w32 a ≡ 2147483648 → of_z w32 b ≡ 4294967295 → Err Overflow ≡ quotient a b
unfolding quotient fitting
smallest_negated fa fb p q = rw (from_bits fa p, from_bits fb q)

negative_fits : (n : ℕ) → n ≤ 2147483648 → SFits w32 (neg_ℤ (pos n))
negative_fits zero h = record { sfits = omega arith }
negative_fits (suc n) h = record { sfits = omega arith }

-- no other quotient is too large
pub quotient_fits : (a b : ℤ) → SFits w32 a → (of_z w32 a ≡ 2147483648 → of_z w32 b ≡ 4294967295 → ⊥) → SFits w32 (quot_z a b)
quotient_fits (pos a) (pos b) f h = let g = f.sfits in record { sfits = omega (arith, div-le_self a b) }
quotient_fits (pos a) (negsuc b) f h = let g = f.sfits in negative_fits (a / suc b) (omega (arith, div-le_self a (suc b)))
quotient_fits (negsuc a) (pos b) f h = let g = f.sfits in negative_fits (suc a / b) (omega (arith, div-le_self (suc a) b))
quotient_fits (negsuc a) (negsuc zero) f h =
    let g = f.sfits in
    let k : (4294967296 - suc a ≡ 2147483648) → ⊥ = λ e. h e refl in
    record { sfits = omega arith }
quotient_fits (negsuc a) (negsuc (suc b)) f h =
    let g = f.sfits in
    let k : suc a / suc (suc b) < suc a = div-lt_self (omega arith) (omega arith) in
    record { sfits = omega arith }
