-- Any two results that a promise of this crate allows are equal. Where the promise is an equation of the result, that is plain. Assumes nothing.
use mathlib.Core.Path.{◌≡◌, sym, ◌∙◌}
use mathlib.Core.List.{List}
use Prim.Native.Nat.{ℕ}
use Rattle.text.specs.Stored.{Wrote, Taken, Took}

-- a writer's next place, and what its slice holds then
pub wrote_unique : {A : Type 0} {l a l₁ l₂ : List A} {at r₁ r₂ : ℕ} → Wrote l at a r₁ l₁ → Wrote l at a r₂ l₂ → (r₁ ≡ r₂) × (l₁ ≡ l₂)
wrote_unique x y = (x.next_is ∙ sym y.next_is, x.stored ∙ sym y.stored)

-- a reader's finding, and what its slice holds then
pub took_unique : {F : Type 0} {t : Taken F} {l l₁ l₂ : List ℕ} {at : ℕ} {f₁ f₂ : F} → Took t l at f₁ l₁ → Took t l at f₂ l₂ → (f₁ ≡ f₂) × (l₁ ≡ l₂)
took_unique x y = (x.found_is ∙ sym y.found_is, x.stored ∙ sym y.stored)
