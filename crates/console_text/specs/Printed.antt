-- How the console prints an answer record (document 01, 'Listing and console'), byte by byte. Assumes nothing.
use Rattle.std.specs.Prelude.{List, [], ◌∷◌, ◌++◌, Bool, cond, ℕ, ℤ, get_or}
use Rattle.grammar.specs.declared.Value.{Value}
use Rattle.grammar.specs.declared.Value.TheVariants as Val
use Rattle.grammar.specs.declared.Answer.{Answer}
use Rattle.grammar.specs.Values.{text_bytes}
use Rattle.text.specs.Written.{decimal, signed_decimal, hex}

-- the bytes of `answer=`, `place=`, `consumed=`, `visits=`, `value=`
abbrev pub answer_key : List ℕ
answer_key = 97 ∷ 110 ∷ 115 ∷ 119 ∷ 101 ∷ 114 ∷ 61 ∷ []

abbrev pub place_key : List ℕ
place_key = 112 ∷ 108 ∷ 97 ∷ 99 ∷ 101 ∷ 61 ∷ []

abbrev pub consumed_key : List ℕ
consumed_key = 99 ∷ 111 ∷ 110 ∷ 115 ∷ 117 ∷ 109 ∷ 101 ∷ 100 ∷ 61 ∷ []

abbrev pub visits_key : List ℕ
visits_key = 118 ∷ 105 ∷ 115 ∷ 105 ∷ 116 ∷ 115 ∷ 61 ∷ []

abbrev pub value_key : List ℕ
value_key = 118 ∷ 97 ∷ 108 ∷ 117 ∷ 101 ∷ 61 ∷ []

-- 'each line ended by byte 10'
unfoldable pub number_line : (key : List ℕ) (n : ℕ) → List ℕ
number_line key n = key ++ (decimal n ++ (10 ∷ []))

-- 'A value is its type, then 0 or 1, a decimal, or hex (nothing after `3` if empty). 0 is absent': the bytes 48 to 51 are 0 to 3, and 32 is a space
abbrev pub bool_text : Bool → List ℕ
bool_text b = 49 ∷ 32 ∷ cond b 49 48 ∷ []

abbrev pub integer_text : ℤ → List ℕ
integer_text z = 50 ∷ 32 ∷ signed_decimal z

unfoldable pub text_text : List ℕ → List ℕ
text_text [] = 51 ∷ []
text_text (b ∷ bytes) = 51 ∷ 32 ∷ hex (b ∷ bytes)

unfoldable pub value_text : (message literals : List ℕ) → Value → List ℕ
value_text message literals Val.Absent = 48 ∷ []
value_text message literals (Val.Bool b) = bool_text b
value_text message literals (Val.Integer z) = integer_text z
value_text message literals (Val.Text s) = text_text (text_bytes message literals (Val.Text s))

unfoldable pub value_line : (message literals : List ℕ) → Value → List ℕ
value_line message literals v = value_key ++ (value_text message literals v ++ (10 ∷ []))

-- 'number, place, consumed, visits, four values': the eight lines
unfoldable pub number_lines : Answer → List ℕ
number_lines a =
    number_line answer_key a.number
    ++ (number_line place_key a.place ++ (number_line consumed_key a.consumed ++ number_line visits_key a.visits))

unfoldable pub value_lines : (message literals : List ℕ) → Answer → List ℕ
value_lines message literals a =
    value_line message literals (get_or a.values 0 Val.Absent)
    ++ (value_line message literals (get_or a.values 1 Val.Absent)
    ++ (value_line message literals (get_or a.values 2 Val.Absent) ++ value_line message literals (get_or a.values 3 Val.Absent)))

unfoldable pub answer_lines : (message literals : List ℕ) → Answer → List ℕ
answer_lines message literals a = number_lines a ++ value_lines message literals a
