-- Laws of `how_many`: one number more, and how many at most. Assumes nothing.
use Rattle.std.specs.Prelude.{Bool, true, false, cond, ◌≡◌, ℕ, zero, suc, ◌+◌, ◌≤◌}
use Rattle.std.proofs.Common.{arith}
use Rattle.laws.specs.Counting.{how_many}

-- one number more at the end
pub how_many_more : (test : ℕ → Bool) (from count : ℕ) → how_many test from (count + 1) ≡ how_many test from count + cond (test (from + count)) 1 0
unfolding how_many
how_many_more test from zero = let here : from + 0 ≡ from = omega arith in rw here (omega arith)
how_many_more test from (suc count) =
    let one_more : suc count + 1 ≡ suc (count + 1) = omega arith in
    let last : from + suc count ≡ from + 1 + count = omega arith in
    rw (one_more, how_many_more test (from + 1) count, last) (omega arith)

one : (b : Bool) → cond b 1 0 ≤ 1
one true = omega arith
one false = omega arith

pub how_many_most : (test : ℕ → Bool) (from count : ℕ) → how_many test from count ≤ count
unfolding how_many
how_many_most test from zero = omega arith
how_many_most test from (suc count) = omega (arith, one (test from), how_many_most test (from + 1) count)
