-- What reading finds from a place p of a text on, l being the text from there (document 01, 'Listing and console'). Assumes nothing.
use Rattle.std.specs.Prelude.{List, [], ◌∷◌, cond, ℕ, ◌+◌, ◌-◌, ◌*◌, ltb, eqb, Option, Some, None, option_map, option_and_then}
use Rattle.std.specs.Option.{option_map_or}
use Rattle.text.specs.Stored.{Taken, taking, also}

-- what to do with a finding: none where something is wrong; a place, or a number (also of bytes) and the place after it
abbrev pub on_place : {A : Type 0} → A → (ℕ → A) → Option ℕ → A
on_place wrong at (Some q) = at q
on_place wrong at None = wrong

abbrev pub on_number : {A : Type 0} → A → (ℕ → ℕ → A) → Option (ℕ × ℕ) → A
on_number wrong is (Some (n, q)) = is n q
on_number wrong is None = wrong

-- ════ A key ════

-- the place after the key, where it stands
unfoldable pub after_key : (key : List ℕ) (p : ℕ) → List ℕ → Option ℕ
after_key [] p l = Some p
after_key (k ∷ key) p [] = None
after_key (k ∷ key) p (b ∷ l) = cond (eqb b k) (after_key key (p + 1) l) None

-- ════ A decimal ════

-- the value of a digit's byte
unfoldable pub digit : ℕ → Option ℕ
digit b = cond (ltb b 48) None (cond (ltb 57 b) None (Some (b - 48)))

-- the value of the digits so far with one more; 'no leading zero': after a 0 none may come
unfoldable pub grown : (value b : ℕ) → Option ℕ
grown value b = cond (eqb value 0) None (option_map (λ d. value * 10 + d) (digit b))

-- digits up to the byte `end`, after digits that say a value: the number that they say together, at most a limit, and the place after `end`
unfoldable pub number_from : (end limit value p : ℕ) → List ℕ → Option (ℕ × ℕ)
number_from end limit value p [] = None
number_from end limit value p (b ∷ l) =
    cond (eqb b end) (Some (value, p + 1))
    (option_and_then (λ longer. cond (ltb limit longer) None (number_from end limit longer (p + 1) l)) (grown value b))

-- a decimal up to the byte `end`; `limit` is a 32-bit number
unfoldable pub number : (end limit p : ℕ) → List ℕ → Option (ℕ × ℕ)
number end limit p [] = None
number end limit p (b ∷ l) = option_and_then (λ value. cond (ltb limit value) None (number_from end limit value (p + 1) l)) (digit b)

-- ════ Hex pairs ════

-- the value of a hex digit's byte: 'all hex is lower-case'
unfoldable pub hex_value : ℕ → Option ℕ
hex_value b = cond (ltb b 97) (digit b) (cond (ltb 102 b) None (Some (10 + (b - 97))))

-- the byte of a pair of hex digits
unfoldable pub pair_value : (b c : ℕ) → Option ℕ
pair_value b c = option_and_then (λ high. option_map (λ low. high * 16 + low) (hex_value c)) (hex_value b)

-- pairs up to byte 10, after n of them: their bytes, how many pairs there are, and the place after byte 10
unfoldable pub pairs : (n p : ℕ) → List ℕ → Taken (Option (ℕ × ℕ))
pairs n p [] = taking [] None
pairs n p (b ∷ []) = cond (eqb b 10) (taking [] (Some (n, p + 1))) (taking [] None)
pairs n p (b ∷ c ∷ l) =
    cond (eqb b 10) (taking [] (Some (n, p + 1)))
    (option_map_or (λ byte. also (byte ∷ []) (pairs (n + 1) (p + 2) l)) (pair_value b c) (taking [] None))
