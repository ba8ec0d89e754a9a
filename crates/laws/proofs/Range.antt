-- Of a test that found a number outside its range. Assumes nothing.
use Rattle.std.specs.Prelude.{Bool, true, false, ◌≡◌, ℕ, ◌≤◌}
use Rattle.std.proofs.Common.{true≢false, arith}
use Rattle.laws.specs.Range.{within, within_right}

-- a number that the test found outside its range is not within it
pub outside : (low high m n : ℕ) (t : Bool) → t ≡ within low high m → m ≡ n → t ≡ false → low ≤ n → n ≤ high → ⊥
outside low high m n t e f g h k =
    let r : within low high m ≡ true = within_right low high m (omega arith) (omega arith) in
    let z : true ≡ false = cc in
    true≢false z
