-- Two lists of numbers are the same, number by number. Assumes nothing.
use Rattle.std.specs.Prelude.{List, [], ◌∷◌, Bool, true, false, ◌&&◌, ◌≡◌, refl, ℕ, suc, ◌≤◌, eqb, length, drop}
use Rattle.std.proofs.Common.{ap, eqb-true}
use Rattle.std.proofs.Math.ListN.{drop_of_length-le}
use Rattle.laws.specs.Tests.{never, both_left, both_right}

unfoldable pub same : List ℕ → List ℕ → Bool
same [] [] = true
same [] (n ∷ ns) = false
same (m ∷ ms) [] = false
same (m ∷ ms) (n ∷ ns) = eqb m n && same ms ns

-- the test says what its name says
pub same_equal : (ms ns : List ℕ) → same ms ns ≡ true → ms ≡ ns
unfolding same
same_equal [] [] e = refl
same_equal [] (n ∷ ns) e = never e
same_equal (m ∷ ms) [] e = never e
same_equal (m ∷ ms) (n ∷ ns) e =
    let p : m ≡ n = eqb-true m n (both_left (eqb m n) (same ms ns) e) in
    let q : ms ≡ ns = same_equal ms ns (both_right (eqb m n) (same ms ns) e) in
    cc

no_both : (b : Bool) {c : Bool} → false ≡ c → false ≡ b && c
no_both true h = h
no_both false h = refl

-- lists of two lengths
pub same_unlike : (ms ns : List ℕ) → (length ms ≡ length ns → ⊥) → false ≡ same ms ns
unfolding same
same_unlike [] [] h = absurd (h refl)
same_unlike [] (n ∷ ns) h = refl
same_unlike (m ∷ ms) [] h = refl
same_unlike (m ∷ ms) (n ∷ ns) h = no_both (eqb m n) (same_unlike ms ns (λ e. h (ap suc e)))

module _ (ms ns : List ℕ) (i : ℕ) where
  -- nothing is left
  pub same_end : length ms ≤ i → length ns ≤ i → true ≡ same (drop i ms) (drop i ns)
  unfolding same
  same_end p q = rw (drop_of_length-le ms, drop_of_length-le ns)
