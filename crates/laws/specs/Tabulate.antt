-- Laws of `tabulate`: how long it is, and what stands at each place. Assumes nothing.
use Rattle.std.specs.Prelude.{◌≡◌, refl, ℕ, zero, suc, ◌+◌, ◌<◌, get_or, length}
use Rattle.std.proofs.Common.{ap, arith}
use Rattle.laws.specs.Counting.{tabulate}

pub length_tabulate : {A : Type 0} (f : ℕ → A) (from count : ℕ) → length (tabulate f from count) ≡ count
unfolding tabulate
length_tabulate f from zero = refl
length_tabulate f from (suc count) = ap suc (length_tabulate f (from + 1) count)

pub at_tabulate : {A : Type 0} (f : ℕ → A) (from count i : ℕ) (d : A) → i < count → get_or (tabulate f from count) i d ≡ f (from + i)
unfolding tabulate
at_tabulate f from zero i d h = absurd (omega arith)
at_tabulate f from (suc count) zero d h = let e : from + 0 ≡ from = omega arith in rw e
at_tabulate f from (suc count) (suc i) d h =
    let e : from + suc i ≡ (from + 1) + i = omega arith in
    rw e (at_tabulate f (from + 1) count i d (omega arith))
