-- Slots as values and as words: reading a slot is reading the list of values, and writing one is setting it there. Assumes nothing.
use mathlib.Core.Path.{◌≡◌, refl, sym, ap, ◌∙◌}
use mathlib.Core.List.{List, [], ◌∷◌}
use Prim.Native.Nat.{ℕ, zero, suc, ◌+◌, ◌-◌, ◌*◌, ◌≤◌, ◌<◌}
use native.Mathlib.Omega.{arith}
use lib.ListN.{get_or, set, length, take, drop}
use Rattle.std.proofs.lemmas.List.{get_or-take, get_or-drop}
use Rattle.grammar.specs.declared.Value.{Value}
use Rattle.grammar.specs.declared.Value.TheVariants as Val
use Rattle.values.specs.Slots.{value_of, InRange, slots_of, slot_at, with_slot}
use Rattle.values.proofs.Stored.{stored}

-- slot s is what words 2 s and 2 s + 1 stand for
pub slot_read : (words : List ℕ) (s : ℕ) → 2 * s + 1 < length words → slot_at words s ≡ value_of (get_or words (2 * s) 0) (get_or words (2 * s + 1) 0)
unfolding slots_of
slot_read [] s h = absurd (omega arith)
slot_read (a ∷ []) s h = absurd (omega arith)
slot_read (a ∷ b ∷ words) zero h = refl
slot_read (a ∷ b ∷ words) (suc s) h =
    let e : 2 * suc s ≡ suc (suc (2 * s)) = omega arith in
    let f : suc (suc (2 * s)) + 1 ≡ suc (suc (2 * s + 1)) = omega arith in
    rw (e, f) (slot_read words s (omega arith))

-- and what the two words of a part stand for, where the part is those words
pub slot_cut : (words : List ℕ) (s : ℕ) {part : List ℕ} → 2 * s + 2 ≤ length words → part ≡ take (2 * s + 2 - 2 * s) (drop (2 * s) words)
    → value_of (get_or part 0 0) (get_or part 1 0) ≡ slot_at words s
slot_cut words s h e =
    let k : 2 * s + 2 - 2 * s ≡ 2 = omega arith in
    let z : 2 * s + 0 ≡ 2 * s = omega arith in
    let a = rw z at (get_or-take 2 (drop (2 * s) words) 0 0 (omega arith) ∙ get_or-drop (2 * s) words 0 0) in
    let b = get_or-take 2 (drop (2 * s) words) 1 0 (omega arith) ∙ get_or-drop (2 * s) words 1 0 in
    rw (e, k, a, b) (sym (slot_read words s (omega arith)))

pub slot_past : (words : List ℕ) (s : ℕ) → length words ≤ 2 * s + 1 → slot_at words s ≡ Val.Absent
unfolding slots_of
slot_past [] s h = refl
slot_past (a ∷ []) s h = refl
slot_past (a ∷ b ∷ words) zero h = absurd (omega arith)
slot_past (a ∷ b ∷ words) (suc s) h = slot_past words s (omega arith)

-- slot s of the first n is slot s
pub slot_among_first : (n : ℕ) (words : List ℕ) (s : ℕ) → s < n → slot_at (take (2 * n) words) s ≡ slot_at words s
unfolding slots_of
slot_among_first zero words s h = absurd (omega arith)
slot_among_first (suc n) words s h =
    let e : 2 * suc n ≡ suc (suc (2 * n)) = omega arith in
    rw e (two_more (slot_among_first n) words s h)
  where
    two_more : ((words : List ℕ) (s : ℕ) → s < n → slot_at (take (2 * n) words) s ≡ slot_at words s) → (words : List ℕ) (s : ℕ) → s < suc n → slot_at (take (suc (suc (2 * n))) words) s ≡ slot_at words s
    two_more again [] s h = refl
    two_more again (a ∷ []) s h = refl
    two_more again (a ∷ b ∷ words) zero h = refl
    two_more again (a ∷ b ∷ words) (suc s) h = again words s (omega arith)

-- a value's words in the place of a slot's are the value in that slot
pub slot_written : (words : List ℕ) (s : ℕ) {v : Value} → InRange v → slots_of (with_slot words s v) ≡ set (slots_of words) s v
unfolding slots_of
slot_written [] s r = refl
slot_written (a ∷ []) zero r = refl
slot_written (a ∷ []) (suc s) r =
    let e : 2 * suc s ≡ suc (suc (2 * s)) = omega arith in
    let f : suc (suc (2 * s)) + 1 ≡ suc (suc (2 * s + 1)) = omega arith in
    rw (e, f)
slot_written (a ∷ b ∷ words) zero r = ap (λ (x : Value). x ∷ slots_of words) (stored r)
slot_written (a ∷ b ∷ words) (suc s) r =
    let e : 2 * suc s ≡ suc (suc (2 * s)) = omega arith in
    let f : suc (suc (2 * s)) + 1 ≡ suc (suc (2 * s + 1)) = omega arith in
    rw (e, f) (ap (λ (x : List Value). value_of a b ∷ x) (slot_written words s r))
