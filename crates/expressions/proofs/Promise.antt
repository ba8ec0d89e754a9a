-- What follows from the promise of `evaluate`: two answers that it allows are one. Assumes nothing.
use mathlib.Core.Path.{◌≡◌, ap}
use Prim.Native.Nat.{ℕ}
use native.Mathlib.Omega.{arith}
use Rattle.std.specs.Prelude.{Result, Ok, Err}
use Rattle.grammar.specs.declared.Ended.{Ended}
use Rattle.grammar.specs.declared.Ending.{Ending}
use Rattle.grammar.specs.declared.Value.{Value}
use Rattle.expressions.specs.Meant.{meant}

abbrev ended : Ending → ℕ → Ended
ended why k = record { why = why; node = k }

pub one_answer : (x y : Result Value Ended) → meant x ≡ meant y → x ≡ y
unfolding meant
one_answer (Ok v) (Ok w) h = cc
one_answer (Ok v) (Err e) h = let z : ◌≡◌ {A = ℕ} 0 1 = cc in absurd (omega arith)
one_answer (Err e) (Ok v) h = let z : ◌≡◌ {A = ℕ} 0 1 = cc in absurd (omega arith)
one_answer (Err e) (Err f) h = let same : ended e.why e.node ≡ ended f.why f.node = cc in ap Err same
