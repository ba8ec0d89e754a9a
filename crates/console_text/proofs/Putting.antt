-- The lines of an answer record, as they are put one after another. Assumes nothing.
use mathlib.Core.Path.{◌≡◌, refl, sym, ap, ◌∙◌}
use mathlib.Core.List.{List, [], ◌∷◌, ◌++◌, append_assoc, append-nil}
use mathlib.Core.Bool.{Bool, true, false}
use Prim.Native.Nat.{ℕ, zero, suc, ◌+◌, ◌≤◌, ◌<◌}
use native.Mathlib.Omega.{arith}
use lib.IntN.{ℤ}
use lib.ListN.{length, get_or}
use Rattle.grammar.specs.declared.Span.{Span}
use Rattle.grammar.specs.declared.Value.{Value}
use Rattle.grammar.specs.declared.Value.TheVariants as Val
use Rattle.grammar.specs.Values.{text_bytes}
use Rattle.grammar.specs.declared.Answer.{Answer}
use Rattle.text.specs.Written.{decimal, digits, hex}
use Rattle.console_text.specs.Printed.{answer_key, place_key, consumed_key, visits_key, value_key, number_line, bool_text, integer_text, text_text, value_text, value_line, number_lines, value_lines, answer_lines}
use Rattle.console_text.specs.Console.{INPUT}

pub number_line_is : (key : List ℕ) (n : ℕ) → (key ++ decimal n) ++ (10 ∷ []) ≡ number_line key n
unfolding number_line
number_line_is key n = append_assoc key (decimal n) (10 ∷ [])

pub bool_true : (b : Bool) → b ≡ true → 49 ∷ 32 ∷ 49 ∷ [] ≡ bool_text b
bool_true b e = rw e

pub bool_false : (b : Bool) → b ≡ false → 49 ∷ 32 ∷ 48 ∷ [] ≡ bool_text b
bool_false b e = rw e

pub text_empty : (bytes : List ℕ) → length bytes ≡ 0 → 51 ∷ [] ≡ text_text bytes
unfolding text_text
text_empty [] h = refl
text_empty (b ∷ bytes) h = absurd (omega arith)

pub text_some : (bytes : List ℕ) → (length bytes ≡ 0 → ⊥) → (51 ∷ 32 ∷ []) ++ hex bytes ≡ text_text bytes
unfolding text_text
text_some [] h = absurd (h refl)
text_some (b ∷ bytes) h = refl

module _ (message literals : List ℕ) (v : Value) where
  pub value_absent : v ≡ Val.Absent → 48 ∷ [] ≡ value_text message literals v
  unfolding value_text
  value_absent e = rw e

  pub value_bool : (b : Bool) → v ≡ Val.Bool b → bool_text b ≡ value_text message literals v
  unfolding value_text
  value_bool b e = rw e

  pub value_integer : (z : ℤ) → v ≡ Val.Integer z → integer_text z ≡ value_text message literals v
  unfolding value_text
  value_integer z e = rw e

  pub value_text_lem : (s : Span) (bytes : List ℕ) → v ≡ Val.Text s → bytes ≡ text_bytes message literals v → text_text bytes ≡ value_text message literals v
  unfolding value_text
  value_text_lem s bytes e f = ap text_text (f ∙ ap (text_bytes message literals) e) ∙ ap (value_text message literals) (sym e)

pub value_line_is : (message literals : List ℕ) (v : Value) → (value_key ++ value_text message literals v) ++ (10 ∷ []) ≡ value_line message literals v
unfolding value_line
value_line_is message literals v = append_assoc value_key (value_text message literals v) (10 ∷ [])

-- four lists, one after another
four : (a b c d : List ℕ) → ((a ++ b) ++ c) ++ d ≡ a ++ (b ++ (c ++ d))
four a b c d = simp append_assoc

pub number_lines_are : (a : Answer)
    → ((number_line answer_key a.number ++ number_line place_key a.place) ++ number_line consumed_key a.consumed) ++ number_line visits_key a.visits ≡ number_lines a
unfolding number_lines
number_lines_are a =
    four (number_line answer_key a.number) (number_line place_key a.place) (number_line consumed_key a.consumed) (number_line visits_key a.visits)

-- what of four lists is left from the i-th on
unfoldable pub left_of : (ℕ → List ℕ) → ℕ → List ℕ
left_of f zero = f 0 ++ (f 1 ++ (f 2 ++ f 3))
left_of f (suc zero) = f 1 ++ (f 2 ++ f 3)
left_of f (suc (suc zero)) = f 2 ++ f 3
left_of f (suc (suc (suc zero))) = f 3
left_of f (suc (suc (suc (suc i)))) = []

pub left_one : (f : ℕ → List ℕ) (i : ℕ) → i < 4 → left_of f i ≡ f i ++ left_of f (i + 1)
unfolding left_of
left_one f zero h = refl
left_one f (suc zero) h = refl
left_one f (suc (suc zero)) h = refl
left_one f (suc (suc (suc zero))) h = sym (append-nil (f 3))
left_one f (suc (suc (suc (suc i)))) h = absurd (omega arith)

pub left_none : (f : ℕ → List ℕ) (i : ℕ) → 4 ≤ i → left_of f i ≡ []
unfolding left_of
left_none f zero h = absurd (omega arith)
left_none f (suc zero) h = absurd (omega arith)
left_none f (suc (suc zero)) h = absurd (omega arith)
left_none f (suc (suc (suc zero))) h = absurd (omega arith)
left_none f (suc (suc (suc (suc i)))) h = refl

-- the line of the i-th value
abbrev pub line_at : (message literals : List ℕ) (values : List Value) → ℕ → List ℕ
line_at message literals values i = value_line message literals (get_or values i Val.Absent)

pub value_lines_are : (message literals : List ℕ) (a : Answer) → left_of (line_at message literals a.values) 0 ≡ value_lines message literals a
unfolding left_of value_lines
value_lines_are message literals a = refl

pub answer_lines_are : (message literals : List ℕ) (a : Answer) → number_lines a ++ value_lines message literals a ≡ answer_lines message literals a
unfolding answer_lines
answer_lines_are message literals a = refl

-- the one line of INPUT
pub input_line : 97 ∷ 110 ∷ 115 ∷ 119 ∷ 101 ∷ 114 ∷ 61 ∷ 50 ∷ 51 ∷ 10 ∷ [] ≡ number_line answer_key INPUT
unfolding number_line decimal digits
input_line = refl
