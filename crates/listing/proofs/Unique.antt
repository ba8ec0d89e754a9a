-- Any two results that a promise of this crate allows are equal. Assumes nothing.
use mathlib.Core.Path.{◌≡◌, sym, ap, ◌∙◌}
use mathlib.Core.List.{List}
use Prim.Native.Nat.{ℕ}
use Rattle.listing.specs.Reading.{Reading, Filled, filled, read_from}
use Rattle.listing.specs.Writing.{Writing, Written, written, write}

-- `read_from`, and `read`, its case at place 0 and line 1: the answer and what the two slices hold then
pub read_unique : (text : List ℕ) (at first : ℕ) (words literals : List ℕ) {r₁ r₂ : Reading} {w₁ w₂ l₁ l₂ : List ℕ}
    → filled r₁ w₁ l₁ ≡ read_from text at first words literals → filled r₂ w₂ l₂ ≡ read_from text at first words literals
    → (r₁ ≡ r₂) × ((w₁ ≡ w₂) × (l₁ ≡ l₂))
read_unique text at first words literals p q =
    let e = p ∙ sym q in
    (ap (λ (z : Filled). z.answer) e, (ap (λ (z : Filled). z.words) e, ap (λ (z : Filled). z.literals) e))

-- `write`: the answer and what the text's slice holds then
pub write_unique : (words literals text : List ℕ) {r₁ r₂ : Writing} {t₁ t₂ : List ℕ}
    → written r₁ t₁ ≡ write words literals text → written r₂ t₂ ≡ write words literals text → (r₁ ≡ r₂) × (t₁ ≡ t₂)
write_unique words literals text p q =
    let e = p ∙ sym q in
    (ap (λ (z : Written). z.answer) e, ap (λ (z : Written). z.text) e)
