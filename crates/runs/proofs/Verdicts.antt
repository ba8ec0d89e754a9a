-- Refusals that an arm `_` of the code stands for. Assumes nothing.
use mathlib.Core.Path.{◌≡◌, refl}
use Prim.Native.Nat.{ℕ}
use Rattle.grammar.specs.declared.Refusal.{Refusal}
use Rattle.grammar.specs.declared.Refusal.TheVariants.{Size, Field, Use, Start, Untyped, Long, Work}
use Rattle.grammar.specs.Answer.{refusal_place}

-- those without a place of their own
pub place_other : (why : Refusal) → ((i : ℕ) → why ≡ Field i → ⊥) → ((k : ℕ) → why ≡ Use k → ⊥) → ((r : ℕ) → why ≡ Untyped r → ⊥) → refusal_place why ≡ 0
unfolding refusal_place
place_other Size f u r = refl
place_other (Field i) f u r = absurd (f i refl)
place_other (Use k) f u r = absurd (u k refl)
place_other Start f u r = refl
place_other (Untyped x) f u r = absurd (r x refl)
place_other Long f u r = refl
place_other Work f u r = refl
