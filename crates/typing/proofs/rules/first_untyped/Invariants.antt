use Prim.Native.Nat.{ℕ, ◌<◌}
use mathlib.Core.Path.{◌≡◌}
use mathlib.Core.Bool.{true}
use lib.ListN.{length}
use Rattle.grammar.specs.Tree.{grammar_of, rule_of}
use Rattle.grammar.specs.Types.{typed_rule}
use Rattle.typing.proofs.rules.first_untyped.Given as goal

abbrev pub invariant-loop-r : goal.invariant-loop-r
invariant-loop-r l = (length l.pile ≡ length l.initial.pile) × ((i : ℕ) → i < l.r → typed_rule (grammar_of l.words) (rule_of (grammar_of l.words) i) ≡ true)
