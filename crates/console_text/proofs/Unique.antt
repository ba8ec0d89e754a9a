-- Any two results that the promise of `respond` allows are equal. Assumes nothing.
use Rattle.std.specs.Prelude.{Option}
use mathlib.Core.Path.{◌≡◌, sym, ap, ◌∙◌}
use mathlib.Core.List.{List}
use Prim.Native.Nat.{ℕ}
use Rattle.console_text.specs.Lent.{Lent, Responded, responded, respond}

-- the answer, and what the lent slices hold then
pub respond_unique : (input : List ℕ) (slices : Lent) {r₁ r₂ : Option ℕ} {l₁ l₂ : Lent}
    → responded r₁ l₁ ≡ respond input slices → responded r₂ l₂ ≡ respond input slices → (r₁ ≡ r₂) × (l₁ ≡ l₂)
respond_unique input slices p q =
    let e = p ∙ sym q in
    (ap (λ (z : Responded). z.response) e, ap (λ (z : Responded). z.after) e)
