-- Values as words of the work area: two words a slot, a tag and a payload. Assumes nothing.
use Rattle.std.specs.Prelude.{Bool, true, false, cond, List, [], ◌∷◌, ℕ, ◌+◌, ◌*◌, ◌/◌, ◌%◌, ◌<◌, eqb, ℤ, get_or, set}
use Rattle.std.specs.Int.{w32}
use Rattle.std.proofs.Common.{SFits}
use Rattle.grammar.specs.declared.Span.{Span}
use Rattle.grammar.specs.declared.Value.{Value}
use Rattle.grammar.specs.declared.Value.TheVariants as Val
use Rattle.values.specs.Words.{word_of, integer_of}

-- ════ A value as two words ════

-- 0 Absent, 1 Bool, 2 Integer, 3 Text in the message, 4 Text in the literals
unfoldable pub tag_of : Value → ℕ
tag_of Val.Absent = 0
tag_of (Val.Bool b) = 1
tag_of (Val.Integer z) = 2
tag_of (Val.Text s) = cond s.literal 4 3

unfoldable pub payload_of : Value → ℕ
payload_of Val.Absent = 0
payload_of (Val.Bool b) = cond b 1 0
payload_of (Val.Integer z) = word_of z
payload_of (Val.Text s) = s.start * 65536 + s.length

abbrev pub text_of : (literal : Bool) → ℕ → Value
text_of literal payload = Val.Text (record { literal = literal; start = payload / 65536; length = payload % 65536 })

-- what a payload stands for, a line to a tag, 0 to 4. Of the payloads of a Bool 1 is true and every other false
abbrev pub values_of : ℕ → List Value
values_of payload =
    Val.Absent
    ∷ Val.Bool (eqb payload 1)
    ∷ Val.Integer (integer_of payload)
    ∷ text_of false payload
    ∷ text_of true payload
    ∷ []

-- a tag that has no line stands for Absent
unfoldable pub value_of : (tag payload : ℕ) → Value
value_of tag payload = get_or (values_of payload) tag Val.Absent

-- a value that code can hold: a signed 32-bit number, a part whose start and length are 16-bit numbers
pub data InRange : Value → Type 0 where
  absent : InRange Val.Absent
  bool : (b : Bool) → InRange (Val.Bool b)
  integer : {z : ℤ} → SFits w32 z → InRange (Val.Integer z)
  text : {s : Span} → s.start < 65536 → s.length < 65536 → InRange (Val.Text s)

-- ════ Slots ════

-- the slots that words stand for; a single word at the end is none
unfoldable pub slots_of : List ℕ → List Value
slots_of [] = []
slots_of (tag ∷ []) = []
slots_of (tag ∷ payload ∷ words) = value_of tag payload ∷ slots_of words

-- slot s; past the last one, Absent
abbrev pub slot_at : List ℕ → ℕ → Value
slot_at words s = get_or (slots_of words) s Val.Absent

-- the words with a value's two in slot s; a word past the end is none
abbrev pub with_slot : List ℕ → ℕ → Value → List ℕ
with_slot words s v = set (set words (2 * s) (tag_of v)) (2 * s + 1) (payload_of v)
