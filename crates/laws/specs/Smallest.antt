-- Laws of `smallest_failing`: which number it gives, and what it says where it gives none. Assumes nothing.
use Rattle.std.specs.Prelude.{Bool, true, false, cond, ◌≡◌, refl, ℕ, zero, suc, ◌+◌, ◌≤◌, ◌<◌}
use Rattle.std.proofs.Common.{⊎_elim, eq-or-lt_of_le, arith}
use Rattle.std.proofs.Math.Option.{none, some}
use Rattle.laws.specs.Counting.{smallest_failing}

-- all from `from` up to i pass, and i fails: it is i
pub smallest_at : (test : ℕ → Bool) (from count i : ℕ) → from ≤ i → i < from + count
    → ((k : ℕ) → from ≤ k → k < i → test k ≡ true) → test i ≡ false → smallest_failing test from count ≡ some i
unfolding smallest_failing
smallest_at test from zero i low high passed failed = absurd (omega arith)
smallest_at test from (suc count) i low high passed failed =
    ⊎_elim
    (λ (e : from ≡ i). rw (e, failed))
    (λ (less : from < i).
    rw (
      passed from (omega arith) less,
      smallest_at test (from + 1) count i (omega arith) (omega arith) (λ k l h. passed k (omega arith) h) failed,
    ))
    (eq-or-lt_of_le low)

-- all pass: there is none
pub smallest_none : (test : ℕ → Bool) (from count : ℕ) → ((k : ℕ) → from ≤ k → k < from + count → test k ≡ true)
    → smallest_failing test from count ≡ none
unfolding smallest_failing
smallest_none test from zero passed = refl
smallest_none test from (suc count) passed =
    rw (passed from (omega arith) (omega arith), smallest_none test (from + 1) count (λ k low high. passed k (omega arith) (omega arith)))

-- there is none: all pass
pub smallest_all : (test : ℕ → Bool) (from count : ℕ) → smallest_failing test from count ≡ none
    → (k : ℕ) → from ≤ k → k < from + count → test k ≡ true
unfolding smallest_failing
smallest_all test from zero e k low high = absurd (omega arith)
smallest_all test from (suc count) e k low high = go (test from) refl e (smallest_all test (from + 1) count)
  where
    go : (b : Bool) → test from ≡ b → cond b (smallest_failing test (from + 1) count) (some from) ≡ none
        → (smallest_failing test (from + 1) count ≡ none → (j : ℕ) → from + 1 ≤ j → j < from + 1 + count → test j ≡ true) → test k ≡ true
    go true first e later =
        ⊎_elim (λ (same : from ≡ k). rw (← same) first) (λ (less : from < k). later e k (omega arith) (omega arith)) (eq-or-lt_of_le low)
    go false first e later = absurd (let z : ◌≡◌ {A = ℕ} 0 1 = cc in omega arith)

-- tests that agree on these numbers give the same
pub smallest_same : (f g : ℕ → Bool) (from count : ℕ) → ((k : ℕ) → from ≤ k → k < from + count → f k ≡ g k)
    → smallest_failing f from count ≡ smallest_failing g from count
unfolding smallest_failing
smallest_same f g from zero same = refl
smallest_same f g from (suc count) same =
    rw (same from (omega arith) (omega arith), smallest_same f g (from + 1) count (λ k low high. same k (omega arith) (omega arith)))

-- what holds below n and at n holds below n + 1
pub below_more : (P : ℕ → Type 0) (n : ℕ) → ((i : ℕ) → i < n → P i) → P n → (i : ℕ) → i < n + 1 → P i
below_more P n below here i h =
    let l : i ≤ n = omega arith in
    ⊎_elim (λ (e : i ≡ n). rw e here) (λ (less : i < n). below i less) (eq-or-lt_of_le l)
