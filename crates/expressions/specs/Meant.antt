-- What the answers of code stand for in the written meaning, and an operator at two Integers. Assumes nothing.
use Rattle.std.specs.Prelude.{ℕ, ℤ, Result, Ok, Err}
use Rattle.std.specs.Int.Signed.{lt_z}
use Rattle.grammar.specs.declared.Operator.{Operator}
use Rattle.grammar.specs.declared.Operator.TheVariants.{Calculate, Equal, Greater, And, Or}
use Rattle.grammar.specs.declared.Ended.{Ended}
use Rattle.grammar.specs.declared.Value.{Value}
use Rattle.grammar.specs.Values.{Evaluated, value, ends, stuck, number_at, truth, calculated}

-- what code answers, as the written meaning says it
unfoldable pub meant : Result Value Ended → Evaluated Value
meant (Ok v) = value v
meant (Err e) = ends e.why e.node

-- operator k at two Integers; an operator that takes no Integers, or takes others too, is not asked
unfoldable pub of_integers : Operator → ℕ → ℤ → ℤ → Evaluated Value
of_integers (Calculate op) k a b = number_at k (calculated op a b)
of_integers Equal k a b = stuck k
of_integers Greater k a b = truth (lt_z b a)
of_integers And k a b = stuck k
of_integers Or k a b = stuck k
