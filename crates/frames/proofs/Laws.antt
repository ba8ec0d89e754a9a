-- Copies and zeros, word by word: one word more, and zeros past the end; a slot that there is, and one that there isn't. Assumes nothing.
use mathlib.Core.Path.{◌≡◌, refl, sym, ap, ◌∙◌}
use mathlib.Core.List.{List, ◌++◌}
use mathlib.Core.Logic.{⊎_elim}
use Prim.Native.Nat.{ℕ, zero, suc, ◌+◌, ◌-◌, ◌≤◌, ◌<◌, min}
use native.Mathlib.Nat.{eq-or-lt_of_le}
use native.Mathlib.Numerals.{add-one}
use native.Mathlib.Omega.{arith}
use lib.ListN.{length, get_or, set, drop, replicate, length-set}
use lib.Seq.{paste, paste-zero, paste-suc, get_or-set_same, set_out, get_or-set_other}
use borrow.Author.Tests.{lt-ltb, le-ltb}
use Rattle.std.proofs.lemmas.List.{get_or-replicate, length-replicate}
use Rattle.std.proofs.lemmas.Bool.{cases_lt}
use Rattle.std.proofs.lemmas.List.Edits.{paste_all}
use Rattle.grammar.specs.declared.Value.{Value}
use Rattle.values.specs.Slots.{with_slot}
use Rattle.frames.specs.Frames.{Taken, stored, copied, cleared, written}

pub copied_more : (w : List ℕ) (from to n : ℕ) → copied w from to (n + 1) ≡ set (copied w from to n) (to + n) (get_or (copied w from to n) (from + n) 0)
unfolding copied
copied_more w from to n = rw add-one

pub stored_more : (w : List ℕ) (to : ℕ) (slots : List ℕ) (n : ℕ) → stored w to slots (n + 1) ≡ set (stored w to slots n) (to + n) (get_or slots n 0)
unfolding stored
stored_more w to slots n = rw add-one

-- one word more is taken
pub taken_more : (w slots : List ℕ) (from i x : ℕ) → i < length slots → x ≡ get_or w (from + i) 0 → ((j : ℕ) → j < i → get_or slots j 0 ≡ get_or w (from + j) 0)
    → (j : ℕ) → j < i + 1 → get_or (set slots i x) j 0 ≡ get_or w (from + j) 0
taken_more w slots from i x h e before j hj =
    ⊎_elim
    (λ (same : j ≡ i). rw same (get_or-set_same slots i x 0 h ∙ e))
    (λ (less : j < i).
    let other : j ≡ i → ⊥ = λ q. absurd (omega arith) in
    get_or-set_other slots i j x 0 other ∙ before j less)
    (eq-or-lt_of_le (omega arith))

-- a word that lies outside stays
stored_other : (w : List ℕ) (to : ℕ) (slots : List ℕ) (n i : ℕ) → (to ≤ i → to + n ≤ i) → get_or (stored w to slots n) i 0 ≡ get_or w i 0
unfolding stored
stored_other w to slots zero i past = refl
stored_other w to slots (suc n) i past =
    let other : i ≡ to + n → ⊥ = λ e. absurd (omega (arith, past (omega arith))) in
    get_or-set_other (stored w to slots n) (to + n) i (get_or slots n 0) 0 other ∙ stored_other w to slots n i (λ h. omega (arith, past h))

-- where the ranges lie apart, a copy is what was taken, stored
pub copied_apart : (w : List ℕ) (from to : ℕ) (slots : List ℕ) → Taken w from slots → 32 ≤ (from - to) + (to - from) → (n : ℕ) → n ≤ 32 → stored w to slots n ≡ copied w from to n
unfolding stored copied
copied_apart w from to slots taken apart zero h = refl
copied_apart w from to slots taken apart (suc n) h =
    let before = copied_apart w from to slots taken apart n (omega arith) in
    rw (← before, stored_other w to slots n (from + n) (λ g. omega arith), ← taken.at n (omega arith))

-- words stored one by one are words pasted
stored_paste : (w : List ℕ) (to : ℕ) (slots : List ℕ) (n : ℕ) → to + n ≤ length w → n ≤ length slots → stored w to slots n ≡ paste w to slots n
unfolding stored
stored_paste w to slots zero h k = paste-zero w to slots
stored_paste w to slots (suc n) h k =
    let before = stored_paste w to slots n (omega arith) (omega arith) in
    rw before (paste-suc w to slots n 0 (omega arith) (omega arith))

zeros_stored : (w : List ℕ) (m n : ℕ) → n ≤ m → cleared w n ≡ stored w 0 (replicate m 0) n
unfolding stored cleared
zeros_stored w m zero h = refl
zeros_stored w m (suc n) h =
    let z : 0 + n ≡ n = omega arith in
    rw (zeros_stored w m n (omega arith), z, get_or-replicate {A = ℕ} m n 0 0 (omega arith))

pub cleared_part : (w : List ℕ) (n : ℕ) → n ≤ length w → replicate n 0 ++ drop n w ≡ cleared w n
cleared_part w n h =
    let z : 0 + n ≡ n = omega arith in
    let k : length (replicate {A = ℕ} n 0) ≡ n = length-replicate {A = ℕ} n 0 in
    sym (rw z at (zeros_stored w n n (omega arith) ∙ stored_paste w 0 (replicate {A = ℕ} n 0) n (omega arith) (omega (arith, k)) ∙ paste_all w 0 (replicate n 0) n (sym k)))

pub cleared_length : (w : List ℕ) (n : ℕ) → length (cleared w n) ≡ length w
unfolding cleared
cleared_length w zero = refl
cleared_length w (suc n) = length-set (cleared w n) n 0 ∙ cleared_length w n

-- there is no word past the end to clear
beyond : (w : List ℕ) (k : ℕ) → cleared w (length w + k) ≡ cleared w (length w)
unfolding cleared
beyond w zero = let e : length w + 0 ≡ length w = omega arith in ap (cleared w) e
beyond w (suc k) =
    let e : length w + suc k ≡ suc (length w + k) = omega arith in
    let l : length (cleared w (length w + k)) ≤ length w + k = rw (cleared_length w (length w + k)) (omega arith) in
    rw e (set_out (cleared w (length w + k)) (length w + k) 0 l ∙ beyond w k)

cleared_all : (w : List ℕ) (n : ℕ) → length w ≤ n → cleared w n ≡ cleared w (length w)
cleared_all w n h = let e : n ≡ length w + (n - length w) = omega arith in ap (cleared w) e ∙ beyond w (n - length w)

-- as many as there are
pub cleared_there : (w : List ℕ) (n there : ℕ) → there ≡ min n (length w) → cleared w there ≡ cleared w n
cleared_there w n there e = ⊎_elim
    (λ (h : length w < n). let q : there ≡ length w = omega arith in rw q (sym (cleared_all w n (omega arith))))
    (λ (h : n ≤ length w). let q : there ≡ n = omega arith in rw q)
    (cases_lt (length w) n)

module _ (w : List ℕ) (s : ℕ) (v : Value) where
  pub written_slot : s < 16 → written w s v ≡ with_slot w s v
  unfolding written
  written_slot h = rw (lt-ltb s 16 h)

  pub written_none : 16 ≤ s → written w s v ≡ w
  unfolding written
  written_none h = rw (le-ltb s 16 h)
