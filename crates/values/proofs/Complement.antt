-- Two's complement: there and back. Assumes nothing.
use mathlib.Core.Path.{◌≡◌, refl, ap, ◌∙◌}
use mathlib.Core.Bool.{Bool, true, false}
use Prim.Native.Nat.{ℕ, suc, ◌+◌, ◌*◌, ◌≤◌, ◌<◌}
use native.Mathlib.Omega.{arith}
use borrow.Author.Tests.{lt-ltb, le-ltb, ltb-true}
use lib.Dec.{T, ltb}
use lib.IntN.{ℤ, pos, negsuc, nat_abs, ◌+ℤ◌, ◌-ℤ◌}
use lib.Signed.{lt_z, non_neg}
use mir.Syntax.{w32, w64}
use mir.Val.{Fits, SFits, of_z, to_z}
use mir.Facts.{to_z-of_z, of_z-to_z, sfits_to_z, Fits-of_z, to_z_pos}
use Rattle.grammar.specs.Words.{signed}
use Rattle.values.specs.Words.{word_of, integer_of}

-- the words are the bits that code has
pub word_bits : (z : ℤ) → word_of z ≡ of_z w32 z
unfolding word_of
word_bits (pos n) = refl
word_bits (negsuc n) = omega arith

pub integer_bits : (word : ℕ) → integer_of word ≡ to_z w32 word
unfolding integer_of
integer_bits word = by_test (ltb word 2147483648) refl
  where
    by_test : (t : Bool) → ltb word 2147483648 ≡ t → integer_of word ≡ to_z w32 word
    by_test true e = rw e
    by_test false e = rw e (ap negsuc (omega arith))

-- a number's word stands for the number, and a word's number has that word
pub integer_word : (z : ℤ) → SFits w32 z → integer_of (word_of z) ≡ z
integer_word z f = integer_bits (word_of z) ∙ rw (word_bits z) (to_z-of_z f)

pub word_integer : (word : ℕ) → Fits w32 word → word_of (integer_of word) ≡ word
word_integer word f = word_bits (integer_of word) ∙ rw (integer_bits word) (of_z-to_z f)

-- each stays in its range
pub integer_fits : (word : ℕ) → Fits w32 word → SFits w32 (integer_of word)
integer_fits word f = rw (integer_bits word) (sfits_to_z f)

pub word_fits : (z : ℤ) → SFits w32 z → Fits w32 (word_of z)
word_fits z f = rw (word_bits z) (Fits-of_z f)

-- a table's two words
pub signed_is : (high low : ℕ) → integer_of (high * 65536 + low) ≡ signed high low
unfolding integer_of signed
signed_is high low = refl

-- ════ As code comes to them ════

-- a negative number and 4294967296 are its word
pub negative_word : (z : ℤ) → SFits w32 z → lt_z z (pos 0) ≡ true → z +ℤ pos 4294967296 ≡ pos (word_of z)
unfolding word_of
negative_word (pos n) f t = absurd (omega (arith, ltb-true n 0 t))
negative_word (negsuc n) f t = let h = f.sfits in rw (le-ltb 4294967296 (suc n) (omega arith)) (ap pos (omega arith))

-- any other is its word
pub other_word : (z : ℤ) → lt_z z (pos 0) ≡ false → (T (non_neg z)) × (nat_abs z ≡ word_of z)
unfolding word_of
other_word (pos n) t = (tt, refl)
other_word (negsuc n) t = let z : ◌≡◌ {A = ℕ} 0 1 = cc in absurd (omega arith)

-- a word from 2147483648 on, less 4294967296, is its number
pub high_integer : (word : ℕ) → 2147483648 ≤ word → word < 4294967296 → to_z w64 word -ℤ pos 4294967296 ≡ integer_of word
unfolding integer_of
high_integer word low high = rw (to_z_pos w64 {n = word} (omega arith), lt-ltb word 4294967296 high, le-ltb word 2147483648 low) (ap negsuc (omega arith))
