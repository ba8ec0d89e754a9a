-- Stages that an arm `_` of the code stands for. Assumes nothing.
use mathlib.Core.Path.{◌≡◌, refl}
use mathlib.Core.Bool.{false}
use mathlib.Core.List.{List}
use Prim.Native.Nat.{ℕ}
use Rattle.stages.specs.declared.Stage.{Stage}
use Rattle.stages.specs.declared.Stage.TheVariants as S
use Rattle.stages.specs.declared.Run.{Run}
use Rattle.stages.specs.Stages.{with}
use Rattle.machine.specs.Step.{step_in}
use Rattle.machine.specs.Drive.{goes_on_in}

module _ (B : ℕ) (r : Run) where
  pub step_other : (words literals message w : List ℕ) (t : Stage) → ((k : ℕ) → t ≡ S.Enter k → ⊥) → (t ≡ S.Matched → ⊥) → (t ≡ S.Failed → ⊥) → step_in words literals message B t r w ≡ with r w
  unfolding step_in
  step_other words literals message w (S.Enter k) e m f = absurd (e k refl)
  step_other words literals message w S.Matched e m f = absurd (m refl)
  step_other words literals message w S.Failed e m f = absurd (f refl)
  step_other words literals message w (S.Deep k) e m f = refl
  step_other words literals message w (S.Stuck k) e m f = refl
  step_other words literals message w (S.Overflow k) e m f = refl
  step_other words literals message w (S.ZeroDivisor k) e m f = refl

  pub goes_other : (t : Stage) → ((k : ℕ) → t ≡ S.Enter k → ⊥) → (t ≡ S.Matched → ⊥) → (t ≡ S.Failed → ⊥) → goes_on_in t B r ≡ false
  unfolding goes_on_in
  goes_other (S.Enter k) e m f = absurd (e k refl)
  goes_other S.Matched e m f = absurd (m refl)
  goes_other S.Failed e m f = absurd (f refl)
  goes_other (S.Deep k) e m f = refl
  goes_other (S.Stuck k) e m f = refl
  goes_other (S.Overflow k) e m f = refl
  goes_other (S.ZeroDivisor k) e m f = refl
