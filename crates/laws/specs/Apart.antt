-- A number told apart from others, one at a time. Assumes nothing.
use Rattle.std.specs.Prelude.{◌≢◌, ℕ, suc, ◌≤◌}
use Rattle.std.proofs.Common.{arith}

-- k or more, and not k
pub past : (k : ℕ) {n : ℕ} → k ≤ n → n ≢ k → suc k ≤ n
past k h other = omega arith
