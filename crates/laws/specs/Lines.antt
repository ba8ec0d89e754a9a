-- Two tables that lie side by side, line by line: a fact of each line is a fact of the line at any number. Assumes nothing.
use Rattle.std.specs.Prelude.{List, [], ◌∷◌, ◌≡◌, ℕ, zero, suc, ◌+◌, ◌≤◌, get_or, length}
use Rattle.std.proofs.Common.{arith}

-- the lines from number n on
pub data Lines {A B : Type 0} (P : ℕ → A → B → Type 0) : ℕ → List A → List B → Type 0 where
  done : {n : ℕ} → Lines P n [] []
  ◌then◌ : {n : ℕ} {a : A} {b : B} {as₁ : List A} {bs : List B} → P n a b → Lines P (suc n) as₁ bs → Lines P n (a ∷ as₁) (b ∷ bs)

infixr 5 ◌then◌
-- line i, and past the last line what is said of every number there
pub line : {A B : Type 0} {P : ℕ → A → B → Type 0} {n : ℕ} {as₁ : List A} {bs : List B} (a : A) (b : B) → Lines P n as₁ bs
    → ((i : ℕ) → n + length as₁ ≤ i → P i a b) → (i j : ℕ) → j ≡ n + i → P j (get_or as₁ i a) (get_or bs i b)
line a b done past i j e = past j (omega arith)
line a b (◌then◌ {n = n} p ps) past zero j e = let same : j ≡ n = omega arith in rw same p
line a b (p then ps) past (suc i) j e = line a b ps (λ k h. past k (omega arith)) i j (omega arith)
