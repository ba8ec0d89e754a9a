-- What crosses the boundary to C and Rust: numbers, and words of lent slices; a word past a slice's end is not stored. Assumes nothing.
use Rattle.std.specs.Prelude.{List, cond, ℕ, ◌+◌, ◌*◌, leb, set}
use Rattle.grammar.specs.Form.{Verdict}
use Rattle.grammar.specs.declared.Answer.{Answer}
use Rattle.grammar.specs.declared.Value.{Value}
use Rattle.grammar.specs.declared.Value.TheVariants as Val
use Rattle.grammar.specs.Answer.{number, place}
use Rattle.grammar.specs.Demand.{value_at}
use Rattle.values.specs.Slots.{with_slot}
use Rattle.listing.specs.Reading.{Reading}
use Rattle.listing.specs.Writing.{Writing}
use Rattle.listing.specs.Answers.{reading_number, reading_place, reading_words, reading_literals, writing_number, writing_place, writing_length}

-- the version of all this: one more wherever a function's parameters, an answer's words or the meaning of a number change
abbrev pub version : ℕ
version = 1

-- a check's answer: 65536 times its number, and its place
unfoldable pub verdict_word : Verdict → ℕ
verdict_word v = number v * 65536 + place v

-- the answer record as twelve words: number, place, consumed, visits; then each value's tag and payload, as slots 2 to 5 (docs/WORK.md)
unfoldable pub with_record : List ℕ → Answer → List ℕ
with_record words a =
    let head = set (set (set (set words 0 a.number) 1 a.place) 2 a.consumed) 3 a.visits in
    with_slot (with_slot (with_slot (with_slot head 2 (value_at a 0)) 3 (value_at a 1)) 4 (value_at a 2)) 5 (value_at a 3)

-- four words in a row
abbrev pub with_four : {T : Type 0} → List T → (a b c d : T) → List T
with_four words a b c d = set (set (set (set words 0 a) 1 b) 2 c) 3 d

-- the listing reader's answer: number, line, words, literals
unfoldable pub with_reading : List ℕ → Reading → List ℕ
with_reading answer r = with_four answer (reading_number r) (reading_place r) (reading_words r) (reading_literals r)

-- the listing writer's answer: number, place, length, 0
unfoldable pub with_writing : List ℕ → Writing → List ℕ
with_writing answer w = with_four answer (writing_number w) (writing_place w) (writing_length w) 0

-- where a value's bytes stand, in a message and literals of these lengths: 4294967296 for the literals, 65536 times the start, and the length;
-- 0, an empty part at the start of the message, for an absent or other value and for a part that doesn't fit
unfoldable pub part_word : (message literals : ℕ) → Value → ℕ
part_word message literals Val.Absent = 0
part_word message literals (Val.Bool b) = 0
part_word message literals (Val.Integer z) = 0
part_word message literals (Val.Text s) =
    cond (leb (s.start + s.length) (cond s.literal literals message))
    (cond s.literal 4294967296 0 + s.start * 65536 + s.length)
    0
