-- Elements of a list by their numbers. Assumes nothing.
use Rattle.std.specs.Prelude.{List, [], ◌∷◌, ◌≡◌, refl, ℕ, zero, suc, ◌<◌, length, get_or}
use Rattle.std.proofs.Common.{not-suc-le-zero, le_of_suc-le-suc}

-- within a list it makes no difference what is given past its end
pub get_d_either {ℓ} : {A : Type ℓ} (l : List A) (i : ℕ) (d e : A) → i < length l → get_or l i d ≡ get_or l i e
get_d_either [] i d e h = absurd (not-suc-le-zero h)
get_d_either (x ∷ l) zero d e h = refl
get_d_either (x ∷ l) (suc i) d e h = get_d_either l i d e (le_of_suc-le-suc h)
