-- Numbers, pairs and keys byte by byte: cases that the prover computes, written out by hand from document 01, 'Listing and console'. The laws of Numbers, Pairs and Keys
-- tie reading to writing; a slip made alike in both is refused here alone. Assumes nothing.
use mathlib.Core.Path.{◌≡◌, refl}
use mathlib.Core.List.{List, [], ◌∷◌, map}
use Prim.Native.Nat.{ℕ}
use lib.IntN.{pos, negsuc}
use Rattle.std.specs.declared.option.Option.{Option}
use Rattle.std.specs.declared.option.Option.TheVariants.{Some, None}
use Rattle.text.specs.Stored.{Taken, taking}
use Rattle.text.specs.Written.{digits, decimal, signed_decimal, hex_digit, hex}
use Rattle.text.specs.Found.{after_key, digit, grown, number_from, number, hex_value, pair_value, pairs}

-- ════ What is written ════

-- `0`, `7`, `10`, `65535`, `4294967295`
pub decimals :
    map decimal (0 ∷ 7 ∷ 10 ∷ 65535 ∷ 4294967295 ∷ [])
    ≡ (48 ∷ [])
    ∷ (55 ∷ [])
    ∷ (49 ∷ 48 ∷ [])
    ∷ (54 ∷ 53 ∷ 53 ∷ 51 ∷ 53 ∷ [])
    ∷ (52 ∷ 50 ∷ 57 ∷ 52 ∷ 57 ∷ 54 ∷ 55 ∷ 50 ∷ 57 ∷ 53 ∷ [])
    ∷ []
unfolding decimal digits
decimals = refl

-- `3`, `-3`, `-10`
pub signed_decimals :
    map signed_decimal (pos 3 ∷ negsuc 2 ∷ negsuc 9 ∷ []) ≡ (51 ∷ []) ∷ (45 ∷ 51 ∷ []) ∷ (45 ∷ 49 ∷ 48 ∷ []) ∷ []
unfolding signed_decimal decimal digits
signed_decimals = refl

-- bytes 10, 255, 48, 159: `0aff309f`
pub pairs_written : hex (10 ∷ 255 ∷ 48 ∷ 159 ∷ []) ≡ 48 ∷ 97 ∷ 102 ∷ 102 ∷ 51 ∷ 48 ∷ 57 ∷ 102 ∷ []
unfolding hex hex_digit
pairs_written = refl

-- ════ Decimals that are read ════

-- up to byte 10, at place 3 of a text
abbrev read : (limit : ℕ) → List ℕ → Option (ℕ × ℕ)
read limit l = number 10 limit 3 l

-- `0`, `7`, `10`, `65535`, with a byte behind the line
pub numbers_read :
    map (read 65535) ((48 ∷ 10 ∷ []) ∷ (55 ∷ 10 ∷ 55 ∷ []) ∷ (49 ∷ 48 ∷ 10 ∷ []) ∷ (54 ∷ 53 ∷ 53 ∷ 51 ∷ 53 ∷ 10 ∷ []) ∷ [])
    ≡ Some (0, 5) ∷ Some (7, 5) ∷ Some (10, 6) ∷ Some (65535, 9) ∷ []
unfolding number number_from grown digit
numbers_read = refl

-- 'no leading zero': `01`, `00`
pub leading_zeros : map (read 65535) ((48 ∷ 49 ∷ 10 ∷ []) ∷ (48 ∷ 48 ∷ 10 ∷ []) ∷ []) ≡ None ∷ None ∷ []
unfolding number number_from grown digit
leading_zeros = refl

-- the greatest 32-bit number, and one more; one more than 65535
pub above_the_limit :
    map (read 4294967295) ((52 ∷ 50 ∷ 57 ∷ 52 ∷ 57 ∷ 54 ∷ 55 ∷ 50 ∷ 57 ∷ 53 ∷ 10 ∷ []) ∷ (52 ∷ 50 ∷ 57 ∷ 52 ∷ 57 ∷ 54 ∷ 55 ∷ 50 ∷ 57 ∷ 54 ∷ 10 ∷ []) ∷ [])
    ≡ Some (4294967295, 14) ∷ None ∷ []
unfolding number number_from grown digit
above_the_limit = refl

pub above_16_bits : read 65535 (54 ∷ 53 ∷ 53 ∷ 51 ∷ 54 ∷ 10 ∷ []) ≡ None
unfolding number number_from grown digit
above_16_bits = refl

-- no digit, none before the end, no end; the bytes on both sides of the digits, as first and as second byte; another byte than `end` ends it
pub no_numbers :
    map (read 65535)
    ([]
    ∷ (10 ∷ [])
    ∷ (49 ∷ [])
    ∷ (47 ∷ 10 ∷ [])
    ∷ (58 ∷ 10 ∷ [])
    ∷ (49 ∷ 47 ∷ 10 ∷ [])
    ∷ (49 ∷ 58 ∷ 10 ∷ [])
    ∷ (49 ∷ 32 ∷ [])
    ∷ [])
    ≡ None ∷ None ∷ None ∷ None ∷ None ∷ None ∷ None ∷ None ∷ []
unfolding number number_from grown digit
no_numbers = refl

-- ════ Hex pairs that are read ════

-- `0` to `9`, `a` to `f`, and the bytes beside them; 'all hex is lower-case': `A`, `F`
pub hex_digits :
    map hex_value (47 ∷ 48 ∷ 57 ∷ 58 ∷ 65 ∷ 70 ∷ 96 ∷ 97 ∷ 102 ∷ 103 ∷ [])
    ≡ None ∷ Some 0 ∷ Some 9 ∷ None ∷ None ∷ None ∷ None ∷ Some 10 ∷ Some 15 ∷ None ∷ []
unfolding hex_value digit
hex_digits = refl

-- at place 3 of a text
abbrev read_pairs : List ℕ → Taken (Option (ℕ × ℕ))
read_pairs l = pairs 0 3 l

-- no pair; `0aff309f`, with a byte behind the line
pub pairs_read :
    map read_pairs ((10 ∷ []) ∷ (48 ∷ 97 ∷ 102 ∷ 102 ∷ 51 ∷ 48 ∷ 57 ∷ 102 ∷ 10 ∷ 55 ∷ []) ∷ [])
    ≡ taking [] (Some (0, 4)) ∷ taking (10 ∷ 255 ∷ 48 ∷ 159 ∷ []) (Some (4, 12)) ∷ []
unfolding pairs pair_value hex_value digit
pairs_read = refl

-- no line's end: `` and `0a`; half a pair: `0`, `0a0`; 'lower-case': `0A`, `A0`; no hex digit: `0g`
pub no_pairs :
    map (λ (l : List ℕ). (read_pairs l).found)
    ([]
    ∷ (48 ∷ 97 ∷ [])
    ∷ (48 ∷ 10 ∷ [])
    ∷ (48 ∷ 97 ∷ 48 ∷ 10 ∷ [])
    ∷ (48 ∷ 65 ∷ 10 ∷ [])
    ∷ (65 ∷ 48 ∷ 10 ∷ [])
    ∷ (48 ∷ 103 ∷ 10 ∷ [])
    ∷ [])
    ≡ None ∷ None ∷ None ∷ None ∷ None ∷ None ∷ None ∷ []
unfolding pairs pair_value hex_value digit
no_pairs = refl

-- ════ A key ════

-- the key `a=` in `a=7`, in `a=`, in `a`, in `a7` and in `b=`
pub keys :
    map (after_key (97 ∷ 61 ∷ []) 3)
    ((97 ∷ 61 ∷ 55 ∷ []) ∷ (97 ∷ 61 ∷ []) ∷ (97 ∷ []) ∷ (97 ∷ 55 ∷ []) ∷ (98 ∷ 61 ∷ []) ∷ [])
    ≡ Some 5 ∷ Some 5 ∷ None ∷ None ∷ None ∷ []
unfolding after_key
keys = refl
