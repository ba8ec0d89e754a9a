-- The word that tells where a value's bytes stand, tied to the meaning: the part that it tells has the bytes of `text_bytes` and stands at `text_place`. Assumes nothing.
use mathlib.Core.Path.{◌≡◌, refl, sym, ap, ◌∙◌, subst}
use mathlib.Core.Bool.{Bool, true, false, cond}
use mathlib.Core.List.{List, []}
use Prim.Native.Nat.{ℕ, zero, suc, ◌+◌, ◌*◌, ◌/◌, ◌%◌, ◌≤◌, ◌<◌}
use native.Mathlib.Omega.{arith}
use native.Mathlib.Nat.{zero-add}
use lib.Dec.{leb, eqb}
use lib.ListN.{length, take, drop}
use borrow.Author.Tests.{le-leb, lt-leb, leb-true}
use denote.Ref.{Bor}
use Rattle.grammar.specs.declared.Span.{Span}
use Rattle.grammar.specs.declared.Value.{Value}
use Rattle.grammar.specs.declared.Value.TheVariants as Val
use Rattle.grammar.specs.Values.{span_bytes, text_bytes}
use Rattle.values.specs.Texts.{into, span_place, text_place}
use Rattle.values.specs.Words.{integer_of}
use Rattle.values.specs.Slots.{InRange, absent, bool, text, text_of, value_of}
use Rattle.exports.specs.Boundary.{part_word}

-- ════ What a word says ════

abbrev span : (literal : Bool) (start length : ℕ) → Span
span literal start length = record { literal = literal; start = start; length = length }

-- the part that a word tells: of the literals from 4294967296 on, else of the message; its start and its length are 16-bit numbers
abbrev pub part_of : (word : ℕ) → Span
part_of word = span (leb 4294967296 word) (word / 65536 % 65536) (word % 65536)

module _ (message literals : Bor (List ℕ)) where
  abbrev pub slice_of : Span → Bor (List ℕ)
  slice_of part = cond part.literal literals message

  -- a part tells a value's bytes: it lies inside its slice, its bytes are the value's, and it stands where they are handed out
  pub record Tells (part : Span) (v : Value) : Type 0 where
    pub inside : part.start + part.length ≤ length (slice_of part).now
    pub bytes : take part.length (drop part.start (slice_of part).now) ≡ text_bytes message.now literals.now v
    pub place : into (slice_of part) part.start ≡ text_place message literals v

-- ════ It is the part that is handed out ════

-- the word of a part of 16-bit numbers says that part
decoded : (literal : Bool) (start length : ℕ) → start < 65536 → length < 65536
    → part_of (cond literal 4294967296 0 + start * 65536 + length) ≡ span literal start length
decoded true start length h g =
    let w : ℕ = 4294967296 + start * 65536 + length in
    let a : leb 4294967296 w ≡ true = le-leb 4294967296 w (omega arith) in
    let b : w / 65536 % 65536 ≡ start = omega arith in
    let c : w % 65536 ≡ length = omega arith in
    rw (a, b, c)
decoded false start length h g =
    let w : ℕ = 0 + start * 65536 + length in
    let a : leb 4294967296 w ≡ false = lt-leb 4294967296 w (omega arith) in
    let b : w / 65536 % 65536 ≡ start = omega arith in
    let c : w % 65536 ≡ length = omega arith in
    rw (a, b, c)

module _ (m l : Bor (List ℕ)) where
  -- the empty part at the start of the message
  none : (v : Value) → text_bytes m.now l.now v ≡ [] → text_place m l v ≡ m.ref_ptr → Tells m l (span false 0 0) v
  none v b p =
      record { inside = omega arith; bytes = sym b; place = ap (λ (k : ℕ). (m.ref_ptr.0, k)) (zero-add m.ref_ptr.1) ∙ sym p }

  -- the slices' lengths, as the word's definition takes them
  abbrev room : Bool → ℕ
  room literal = cond literal (length l.now) (length m.now)

  fits : (literal : Bool) (start n : ℕ) → leb (start + n) (room literal) ≡ true → Tells m l (span literal start n) (Val.Text (span literal start n))
  unfolding text_bytes span_bytes text_place span_place
  fits true start n e = record { inside = leb-true (start + n) (length l.now) e; bytes = rw e; place = rw e }
  fits false start n e = record { inside = leb-true (start + n) (length m.now) e; bytes = rw e; place = rw e }

  past : (literal : Bool) (start n : ℕ) → leb (start + n) (room literal) ≡ false → Tells m l (span false 0 0) (Val.Text (span literal start n))
  unfolding text_bytes span_bytes text_place span_place
  past true start n e = none (Val.Text (span true start n)) (rw e) (rw e)
  past false start n e = none (Val.Text (span false start n)) (rw e) (rw e)

  by_test : (literal : Bool) (start n : ℕ) → start < 65536 → n < 65536 → (t : Bool) → leb (start + n) (room literal) ≡ t
      → Tells m l (part_of (cond t (cond literal 4294967296 0 + start * 65536 + n) 0)) (Val.Text (span literal start n))
  by_test literal start n h g true e =
      subst (λ (part : Span). Tells m l part (Val.Text (span literal start n))) (sym (decoded literal start n h g)) (fits literal start n e)
  by_test literal start n h g false e = past literal start n e

  -- of every value that code can hold, whatever the message and the literals are
  pub part_told : (v : Value) → InRange v → Tells m l (part_of (part_word (length m.now) (length l.now) v)) v
  unfolding part_word text_bytes text_place
  part_told Val.Absent r = none Val.Absent refl refl
  part_told (Val.Bool b) r = none (Val.Bool b) refl refl
  part_told (Val.Integer z) r = none (Val.Integer z) refl refl
  part_told (Val.Text s) (text h g) =
      by_test s.literal s.start s.length h g (leb (s.start + s.length) (room s.literal)) refl

  -- so of every tag and every payload that `styrmflo_text` is given, which are 32-bit numbers
  pub text_told : (tag payload : ℕ) → payload < 4294967296
      → Tells m l (part_of (part_word (length m.now) (length l.now) (value_of tag payload))) (value_of tag payload)
  unfolding value_of part_word text_bytes text_place
  text_told zero payload h = part_told Val.Absent absent
  text_told (suc zero) payload h = part_told (Val.Bool (eqb payload 1)) (bool (eqb payload 1))
  text_told (suc (suc zero)) payload h = none (Val.Integer (integer_of payload)) refl refl
  text_told (suc (suc (suc zero))) payload h = part_told (text_of false payload) (text (omega arith) (omega arith))
  text_told (suc (suc (suc (suc zero)))) payload h = part_told (text_of true payload) (text (omega arith) (omega arith))
  text_told (suc (suc (suc (suc (suc tag))))) payload h = part_told Val.Absent absent
