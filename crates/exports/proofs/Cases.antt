-- What crosses the boundary, word by word: cases that the prover computes. Assumes nothing.
use mathlib.Core.Path.{◌≡◌, refl}
use mathlib.Core.Bool.{Bool, true, false}
use mathlib.Core.List.{List, [], ◌∷◌, map}
use Prim.Native.Nat.{ℕ}
use lib.IntN.{pos, negsuc}
use lib.ListN.{replicate}
use Rattle.std.specs.Prelude.{Ok, Err}
use Rattle.grammar.specs.declared.Refusal.TheVariants.{Size, Field, Use, Start, Untyped, Long, Work}
use Rattle.grammar.specs.Form.{passed}
use Rattle.grammar.specs.declared.Answer.{Answer}
use Rattle.grammar.specs.declared.Value.{Value}
use Rattle.grammar.specs.declared.Value.TheVariants as Val
use Rattle.grammar.specs.Answer.{number, place, refusal_number, refusal_place}
use Rattle.values.specs.Words.{word_of}
use Rattle.values.specs.Slots.{tag_of, payload_of}
use Rattle.listing.specs.declared.Unread.TheVariants as R
use Rattle.listing.specs.declared.Unwritten.TheVariants as W
use Rattle.listing.specs.Answers.{reading_number, reading_place, reading_words, reading_literals, writing_number, writing_place, writing_length}
use Rattle.exports.specs.Boundary.{verdict_word, with_record, with_reading, with_writing, part_word}

-- lent slices: other numbers stand in them
abbrev lent : ℕ → List ℕ
lent n = replicate n 9

-- 'Numbers that come back': 0 passed, 1 SIZE, 2 FIELD at word 7, 3 USE of node 3, 4 START, 5 TYPE of rule 2, 6 LONG, 7 WORK
pub verdicts :
    map verdict_word (passed ∷ Err Size ∷ Err (Field 7) ∷ Err (Use 3) ∷ Err Start ∷ Err (Untyped 2) ∷ Err Long ∷ Err Work ∷ [])
    ≡ 0 ∷ 65536 ∷ 131079 ∷ 196611 ∷ 262144 ∷ 327682 ∷ 393216 ∷ 458752 ∷ []
unfolding verdict_word number place refusal_number refusal_place
verdicts = refl

abbrev text : (literal : Bool) (start length : ℕ) → Value
text literal start length = Val.Text (record { literal = literal; start = start; length = length })

-- 'The answer record: number, place, consumed, visits, four values': true, -3, a Text of the message and one of the literals
abbrev answer : Answer
answer =
    record {
      number = 1;
      place = 2;
      consumed = 3;
      visits = 4;
      values = Val.Bool true ∷ Val.Integer (negsuc 2) ∷ text false 5 6 ∷ text true 7 8 ∷ [];
    }

-- in a slice of two words more, which stay; in one of two words
pub records :
    map (λ (l : List ℕ). with_record l answer) (lent 14 ∷ lent 2 ∷ [])
    ≡ (1 ∷ 2 ∷ 3 ∷ 4 ∷ 1 ∷ 1 ∷ 2 ∷ 4294967293 ∷ 3 ∷ 327686 ∷ 4 ∷ 458760 ∷ lent 2) ∷ (1 ∷ 2 ∷ []) ∷ []
unfolding with_record tag_of payload_of word_of
records = refl

-- DONE with both lengths, LINE with its number, ROOM
pub readings :
    map (with_reading (lent 5)) (Ok (record { words = 5; literals = 6 }) ∷ Err (R.Line 7) ∷ Err R.Room ∷ [])
    ≡ (0 ∷ 0 ∷ 5 ∷ 6 ∷ 9 ∷ []) ∷ (20 ∷ 7 ∷ 0 ∷ 0 ∷ 9 ∷ []) ∷ (21 ∷ 0 ∷ 0 ∷ 0 ∷ 9 ∷ []) ∷ []
unfolding with_reading reading_number reading_place reading_words reading_literals
readings = refl

-- DONE with its length, SIZE, OUT
pub writings :
    map (with_writing (lent 5)) (Ok 5 ∷ Err W.Size ∷ Err W.Out ∷ [])
    ≡ (0 ∷ 0 ∷ 5 ∷ 0 ∷ 9 ∷ []) ∷ (1 ∷ 0 ∷ 0 ∷ 0 ∷ 9 ∷ []) ∷ (22 ∷ 0 ∷ 0 ∷ 0 ∷ 9 ∷ []) ∷ []
unfolding with_writing writing_number writing_place writing_length
writings = refl

-- in a message of 20 bytes and literals of 10: absent and other values; parts that just fit; parts that end a byte too far
pub parts :
    map (part_word 20 10)
    (Val.Absent
    ∷ Val.Bool true
    ∷ Val.Integer (pos 5)
    ∷ text false 5 15
    ∷ text true 7 3
    ∷ text false 5 16
    ∷ text true 7 4
    ∷ [])
    ≡ 0 ∷ 0 ∷ 0 ∷ 327695 ∷ 4295426051 ∷ 0 ∷ 0 ∷ []
unfolding part_word
parts = refl
