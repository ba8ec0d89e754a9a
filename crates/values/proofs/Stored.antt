-- A value and its two words: there and back, and the range they keep. Assumes nothing.
use mathlib.Core.Path.{◌≡◌, refl, ap}
use mathlib.Core.Bool.{Bool, true, false, cond}
use Prim.Native.Nat.{ℕ, zero, suc, ◌+◌, ◌*◌, ◌/◌, ◌%◌, ◌<◌}
use native.Mathlib.Omega.{arith}
use Rattle.grammar.specs.declared.Value.{Value}
use Rattle.grammar.specs.declared.Value.TheVariants as Val
use Rattle.values.specs.Slots.{tag_of, payload_of, text_of, value_of, InRange, absent, bool, integer, text}
use Rattle.values.proofs.Complement.{integer_word}

-- a part's start and length, out of their payload
text_again : (literal : Bool) (start length : ℕ) → length < 65536 → text_of literal (start * 65536 + length) ≡ Val.Text (record { literal = literal; start = start; length = length })
text_again literal start length h =
    let d : (start * 65536 + length) / 65536 ≡ start = omega arith in
    let r : (start * 65536 + length) % 65536 ≡ length = omega arith in
    rw (d, r)

-- a value's two words stand for it
pub stored : {v : Value} → InRange v → value_of (tag_of v) (payload_of v) ≡ v
unfolding value_of tag_of payload_of
stored absent = refl
stored (bool true) = refl
stored (bool false) = refl
stored (integer {z} f) = ap Val.Integer (integer_word z f)
stored (text {s} p q) = part s.literal s.start s.length q
  where
    part : (literal : Bool) (start length : ℕ) → length < 65536 → value_of (cond literal 4 3) (start * 65536 + length) ≡ Val.Text (record { literal = literal; start = start; length = length })
    part true start length h = text_again true start length h
    part false start length h = text_again false start length h

-- a tag that has no line
pub no_line : (tag payload : ℕ) → (tag ≡ 1 → ⊥) → (tag ≡ 2 → ⊥) → (tag ≡ 3 → ⊥) → (tag ≡ 4 → ⊥) → Val.Absent ≡ value_of tag payload
unfolding value_of
no_line zero payload a b c d = refl
no_line (suc zero) payload a b c d = absurd (a refl)
no_line (suc (suc zero)) payload a b c d = absurd (b refl)
no_line (suc (suc (suc zero))) payload a b c d = absurd (c refl)
no_line (suc (suc (suc (suc zero)))) payload a b c d = absurd (d refl)
no_line (suc (suc (suc (suc (suc tag))))) payload a b c d = refl
