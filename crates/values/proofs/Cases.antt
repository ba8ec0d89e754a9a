-- Where the bytes of values are handed out: cases that the prover computes. Assumes nothing.
use mathlib.Core.Path.{◌≡◌, refl}
use mathlib.Core.Bool.{Bool, true, false}
use mathlib.Core.List.{List, [], ◌∷◌, map}
use Prim.Native.Nat.{ℕ}
use lib.IntN.{pos}
use denote.Ref.{Bor}
use Rattle.grammar.specs.declared.Value.{Value}
use Rattle.grammar.specs.declared.Value.TheVariants as Val
use Rattle.values.specs.Texts.{span_place, text_place}

-- a message of three bytes at place 40 of block 3, literals of two bytes at place 8 of block 5
abbrev message : Bor (List ℕ)
message = record { ref_ptr = (3, 40); now = 65 ∷ 66 ∷ 67 ∷ [] }

abbrev literals : Bor (List ℕ)
literals = record { ref_ptr = (5, 8); now = 97 ∷ 98 ∷ [] }

abbrev text : (literal : Bool) (start length : ℕ) → Value
text literal start length = Val.Text (record { literal = literal; start = start; length = length })

-- 'a part of the message or of the literals, never a copy': parts that just fit, and an empty one at the message's end
pub parts_that_fit : map (text_place message literals) (text false 1 2 ∷ text true 1 1 ∷ text false 3 0 ∷ []) ≡ (3, 41) ∷ (5, 9) ∷ (3, 43) ∷ []
unfolding text_place span_place
parts_that_fit = refl

-- 'of a part that doesn't fit the slice it names .. an empty part at the start of the message': a byte past each end. One fits the message, and names the literals
pub parts_that_dont_fit : map (text_place message literals) (text false 1 3 ∷ text true 1 2 ∷ text true 0 3 ∷ []) ≡ (3, 40) ∷ (3, 40) ∷ (3, 40) ∷ []
unfolding text_place span_place
parts_that_dont_fit = refl

-- 'of an absent or other value .. an empty part at the start of the message'
pub no_texts : map (text_place message literals) (Val.Absent ∷ Val.Bool true ∷ Val.Integer (pos 1) ∷ []) ≡ (3, 40) ∷ (3, 40) ∷ (3, 40) ∷ []
unfolding text_place
no_texts = refl
