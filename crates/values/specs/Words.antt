-- Two's complement of signed 32-bit numbers, both ways. Assumes nothing.
use Rattle.std.specs.Prelude.{cond, ℕ, ◌-◌, ltb, ℤ, pos, negsuc}

-- the word of a number: itself, or 4294967296 more than it if it is negative
unfoldable pub word_of : ℤ → ℕ
word_of (pos n) = n
word_of (negsuc n) = 4294967295 - n

-- the number of a word: itself, or 4294967296 less than it from 2147483648 on
unfoldable pub integer_of : ℕ → ℤ
integer_of word = cond (ltb word 2147483648) (pos word) (negsuc (4294967295 - word))
