-- Numbers from a place on: f of each of them, the smallest that fails a test, how many pass it. Assumes nothing.
use Rattle.std.specs.Prelude.{List, [], ◌∷◌, Bool, cond, ℕ, zero, suc, ◌+◌}
use Rattle.std.proofs.Math.Option.{Option, none, some}

-- f at `from`, from + 1, .., count of them
unfoldable pub tabulate : {A : Type 0} → (ℕ → A) → (from count : ℕ) → List A
tabulate f from zero = []
tabulate f from (suc count) = f from ∷ tabulate f (from + 1) count

-- the smallest of the count numbers from `from` on that fails the test
unfoldable pub smallest_failing : (ℕ → Bool) → (from count : ℕ) → Option ℕ
smallest_failing test from zero = none
smallest_failing test from (suc count) = cond (test from) (smallest_failing test (from + 1) count) (some from)

-- how many of the count numbers from `from` on pass the test
unfoldable pub how_many : (ℕ → Bool) → (from count : ℕ) → ℕ
how_many test from zero = 0
how_many test from (suc count) = cond (test from) 1 0 + how_many test (from + 1) count
