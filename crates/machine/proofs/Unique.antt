-- Any two results that a promise of a run record and a work area allows are equal: of `step` and `drive` here, of visits' `enter`, of returns' `back_matched` and
-- `back_failed`. Each promise is an equation of the pair of both. Assumes nothing.
use mathlib.Core.Path.{◌≡◌, sym, ap, ◌∙◌}
use mathlib.Core.List.{List}
use Prim.Native.Nat.{ℕ}
use Rattle.stages.specs.declared.Run.{Run}
use Rattle.stages.specs.Stages.{Stepped, with}

pub with_unique : {both : Stepped} {r₁ r₂ : Run} {w₁ w₂ : List ℕ} → with r₁ w₁ ≡ both → with r₂ w₂ ≡ both → (r₁ ≡ r₂) × (w₁ ≡ w₂)
with_unique p q =
    let e = p ∙ sym q in
    (ap (λ (z : Stepped). z.run) e, ap (λ (z : Stepped). z.work) e)
