-- Whole rules of a checked table. Assumes nothing.
use mathlib.Core.Path.{◌≡◌, sym, ap, ◌∙◌}
use mathlib.Core.Bool.{Bool, true, false}
use mathlib.Core.Option.{Option}
use mathlib.Core.List.{List}
use Prim.Native.Nat.{ℕ, ◌+◌, ◌<◌, ◌≤◌}
use native.Mathlib.Omega.{arith}
use Rattle.laws.specs.Smallest.{smallest_at, smallest_none}
use Rattle.grammar.specs.declared.Refusal.TheVariants.{Untyped}
use Rattle.grammar.specs.Words.{node_count, rule_count, returned_count, rule_word}
use Rattle.grammar.specs.Tree.{parsing_at, grammar_of, rule_of, rule_at}
use Rattle.grammar.specs.Types.{Env, start_env, type_of, typed_after, typed_rule, untyped}
use Rattle.grammar.specs.Form.{passed}
use Rattle.grammar.specs.Answer.{type_rules}
use Rattle.grammar.proofs.Records.{rule_right}
use Rattle.grammar.proofs.Decode.{rule_tree, grammar_length}
use Rattle.std.specs.Prelude.{Option as Optional, None, Some, Err}
use Rattle.typing.specs.declared.slots.Slots.{Slots}
use Rattle.typing.specs.Checked.{CheckedNode, CheckedRule}
use Rattle.typing.specs.Slots.{types_in, told}
use Rattle.typing.specs.Places.{inherited_types, returned_typed}
use Rattle.typing.proofs.Walks.{sound}

module _ {words : List ℕ} {r : ℕ} (rule : CheckedRule words r) where
  module _ {room : ℕ} (enough : node_count words ≤ room) where
    pub body_there : {b : ℕ} → b ≡ rule_word words r 0 → CheckedNode words room b
    body_there e =
        let p = (rule_right words rule.table.literals (sound rule.table) r rule.there).body.below in
        record { table = rule.table; there = omega arith; fits = omega arith }

    pub returned_there : {a i : ℕ} → i < returned_count words r → a ≡ rule_word words r (7 + i) → CheckedNode words room a
    returned_there {i = i} l e =
        let p = ((rule_right words rule.table.literals (sound rule.table) r rule.there).returned i l).below in
        record { table = rule.table; there = omega arith; fits = omega arith }

  abbrev body_leaves : Option Env
  body_leaves = type_of (grammar_of words) (start_env (inherited_types words r)) (parsing_at words (rule_word words r 0))

  meaning : typed_after (rule_at words r) body_leaves ≡ typed_rule (grammar_of words) (rule_of (grammar_of words) r)
  unfolding typed_rule rule_at
  meaning = sym (ap (typed_rule (grammar_of words)) (rule_tree words r rule.there))

  module _ (slots : Slots) (after : Optional Slots) {b : ℕ} (s : types_in slots ≡ start_env (inherited_types words r)) (e : b ≡ rule_word words r 0)
      (f : told after ≡ type_of (grammar_of words) (types_in slots) (parsing_at words b)) where
    leaving : told after ≡ body_leaves
    leaving = f ∙ rw (s, e)

    pub rule_broken : after ≡ None → false ≡ typed_rule (grammar_of words) (rule_of (grammar_of words) r)
    unfolding typed_after told
    rule_broken g = ap (typed_after (rule_at words r)) (sym (ap told g) ∙ leaving) ∙ meaning

    pub rule_kept : {left : Slots} → after ≡ Some left → returned_typed words (types_in left) r ≡ typed_rule (grammar_of words) (rule_of (grammar_of words) r)
    unfolding typed_after told returned_typed rule_at
    rule_kept g = ap (typed_after (rule_at words r)) (sym (ap told g) ∙ leaving) ∙ meaning

module _ (words : List ℕ) where
  abbrev typed : ℕ → Bool
  typed r = typed_rule (grammar_of words) (rule_of (grammar_of words) r)

  pub rule_fails : (r : ℕ) → r < rule_count words → ((i : ℕ) → i < r → typed i ≡ true) → typed r ≡ false → Err (Untyped r) ≡ type_rules words
  unfolding type_rules untyped
  rule_fails r there kept failed =
      sym (rw (grammar_length words, smallest_at typed 0 (rule_count words) r (omega arith) (omega arith) (λ k _ l. kept k l) failed))

  pub rules_pass : ((i : ℕ) → i < rule_count words → typed i ≡ true) → passed ≡ type_rules words
  unfolding type_rules untyped
  rules_pass kept = sym (rw (grammar_length words, smallest_none typed 0 (rule_count words) (λ k _ l. kept k (omega arith))))
