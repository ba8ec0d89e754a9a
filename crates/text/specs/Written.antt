-- How numbers and bytes are written (document 01, 'Listing and console'). Assumes nothing.
use Rattle.std.specs.Prelude.{List, [], ◌∷◌, ◌++◌, cond, ℕ, zero, suc, ◌+◌, ◌-◌, ◌/◌, ◌%◌, ltb, ℤ, pos, negsuc}

-- 'no leading zero': the decimal digits of n, at most f + 1 of them
unfoldable pub digits : (f n : ℕ) → List ℕ
digits zero n = (48 + n) ∷ []
digits (suc f) n = cond (ltb n 10) ((48 + n) ∷ []) (digits f (n / 10) ++ ((48 + n % 10) ∷ []))

-- the decimal of a 32-bit number, which has at most ten digits
unfoldable pub decimal : ℕ → List ℕ
decimal n = digits 9 n

-- the decimal of a signed 32-bit number: a minus sign before a negative one
unfoldable pub signed_decimal : ℤ → List ℕ
signed_decimal (pos n) = decimal n
signed_decimal (negsuc n) = 45 ∷ decimal (suc n)

-- 'all hex is lower-case pairs': the digits 0 to 9 and a to f
unfoldable pub hex_digit : ℕ → ℕ
hex_digit n = cond (ltb n 10) (48 + n) (97 + (n - 10))

unfoldable pub hex : List ℕ → List ℕ
hex [] = []
hex (b ∷ bytes) = hex_digit (b / 16) ∷ hex_digit (b % 16) ∷ hex bytes
