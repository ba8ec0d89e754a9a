-- A number within a range, both ends included. Assumes nothing.
use Rattle.std.specs.Prelude.{Bool, true, ◌&&◌, ◌≡◌, ℕ, ◌≤◌, leb}
use Rattle.std.proofs.Common.{leb-true, le-leb}
use Rattle.laws.specs.Tests.{both_left, both_right}

abbrev pub within : (low high n : ℕ) → Bool
within low high n = leb low n && leb n high

pub within_facts : (low high n : ℕ) → within low high n ≡ true → (low ≤ n) × (n ≤ high)
within_facts low high n e =
    (leb-true low n (both_left (leb low n) (leb n high) e), leb-true n high (both_right (leb low n) (leb n high) e))

pub within_right : (low high n : ℕ) → low ≤ n → n ≤ high → within low high n ≡ true
within_right low high n h g = rw (le-leb low n h, le-leb n high g)
