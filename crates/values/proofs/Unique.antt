-- Any two results that a promise of this crate allows are equal. Where the promise is an equation of the result, that is plain. Assumes nothing.
use mathlib.Core.Path.{◌≡◌, sym, ◌∙◌}
use mathlib.Core.List.{List}
use Prim.Native.Nat.{ℕ}
use denote.Ref.{Bor}
use Rattle.grammar.specs.declared.Value.{Value}
use Rattle.values.proofs.HandedOut.{HandedOut}

-- `text_bytes`: a part is its bytes and its place
pub text_bytes_unique : (message literals : Bor (List ℕ)) (v : Value) {b₁ b₂ : List ℕ} {p₁ p₂ : ℕ × ℕ}
    → HandedOut message literals v b₁ p₁ → HandedOut message literals v b₂ p₂ → (b₁ ≡ b₂) × (p₁ ≡ p₂)
text_bytes_unique message literals v x y = (x.0 ∙ sym y.0, x.1 ∙ sym y.1)
