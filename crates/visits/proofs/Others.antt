-- Nodes and values that an arm `_` of the code stands for. Assumes nothing.
use mathlib.Core.Path.{◌≡◌, refl}
use Prim.Native.Nat.{ℕ}
use mathlib.Core.Bool.{Bool}
use Rattle.grammar.specs.declared.Value.{Value}
use Rattle.grammar.specs.declared.Value.TheVariants as Val
use Rattle.stages.specs.declared.Stage.TheVariants as S
use Rattle.visits.specs.Visits.{judged}

-- all but Bool
pub judged_other : (v : Value) (k : ℕ) → ((b : Bool) → v ≡ Val.Bool b → ⊥) → judged v k ≡ S.Stuck k
unfolding judged
judged_other Val.Absent k h = refl
judged_other (Val.Bool b) k h = absurd (h b refl)
judged_other (Val.Integer z) k h = refl
judged_other (Val.Text s) k h = refl
