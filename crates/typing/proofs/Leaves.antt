-- Nodes without parsing parts, and the arguments and receiving slots of calls. Assumes nothing.
use mathlib.Core.Path.{◌≡◌, sym, ap, ◌∙◌}
use mathlib.Core.List.{List}
use mathlib.Core.Bool.{Bool, true, false}
use mathlib.Core.Option.{Option, some}
use Prim.Native.Nat.{ℕ, ◌+◌, ◌<◌, ◌≤◌}
use native.Mathlib.Omega.{arith}
use lib.Dec.{ltb, leb}
use borrow.Author.Tests.{leb-true}
use Rattle.std.specs.Prelude.{Result, IsOk}
use Rattle.laws.specs.Tests.{both_left, both_right}
use Rattle.grammar.specs.Words.{node_word, inherited_count, returned_count, rule_word}
use Rattle.grammar.specs.Tree.{expr_at, expr_of, parsing_at, parsing_of, grammar_of, rule_at}
use Rattle.grammar.specs.Types.{Env, provided, has, assign, expr_type, type_of}
use Rattle.grammar.specs.Form.{is_type}
use Rattle.grammar.proofs.Records.{RuleRight, rule_right}
use Rattle.grammar.proofs.Decode.{rule_tree}
use Rattle.table.specs.declared.kinds.Kind.{Kind}
use Rattle.table.specs.declared.kinds.Kind.TheVariants as K
use Rattle.typing.specs.declared.value_type.NoType.{NoType}
use Rattle.typing.specs.declared.value_type.ValueType.{ValueType}
use Rattle.typing.specs.Checked.{CheckedNode, CheckedKind, CheckedRule}
use Rattle.typing.specs.Types.{Decodes}
use Rattle.typing.specs.Places.{arguments_typed, received_all}
use Rattle.typing.specs.Walk.{has_parts}
use Rattle.typing.proofs.Walks.{sound, holds, smaller, expr_is, parsing_is}
use Rattle.typing.specs.Expressions.{is_operator}
use Rattle.typing.proofs.NodeKinds.{made, read, bools, plain}
use Rattle.typing.proofs.Types.{is_type as is_declared}
use Rattle.typing.proofs.Fours.{place}

-- ════ Types that a rule declares ════

module _ {w n : ℕ} (r : Result ValueType NoType) (d : Decodes n r) (e : n ≡ w) where
  declared : is_type w ≡ true → IsOk r
  declared right =
      let low = leb-true 1 w (both_left (leb 1 w) (leb w 3) right) in
      let high = leb-true w 3 (both_right (leb 1 w) (leb w 3) right) in
      is_declared r d (omega arith) (omega arith)

module _ {words : List ℕ} {r : ℕ} (rule : CheckedRule words r) where
  right : RuleRight words r
  right = rule_right words rule.table.literals (sound rule.table) r rule.there

  pub returned_few : returned_count words r ≤ 4
  returned_few = right.returned_most

  pub inherited_few : inherited_count words r ≤ 4
  inherited_few = right.inherited_most

  module _ {n : ℕ} (o : Result ValueType NoType) (d : Decodes n o) (i : ℕ) where
    pub returned_declared : n ≡ rule_word words r (11 + i) → i < returned_count words r → IsOk o
    returned_declared e h = declared o d e (right.returned_type_lem i h)

    pub inherited_declared : n ≡ rule_word words r (2 + i) → i < inherited_count words r → IsOk o
    inherited_declared e h = declared o d e (right.inherited_type_lem i h)

-- ════ Expressions that are no operators ════

module _ {words : List ℕ} {room k : ℕ} {kind : Kind} (node : CheckedKind words room k kind) (env : Env) where
  pub no_operator : is_operator kind ≡ false → (kind ≡ K.Integer → ⊥) → (kind ≡ K.Text → ⊥) → (kind ≡ K.Slot → ⊥) → 1 ≡ expr_type env (expr_at words k)
  no_operator e p q r = bools words k kind e p q r env (expr_at words) ∙ ap (expr_type env) (sym (expr_is node.node (read words k node.is)))

  -- the type of what the kind makes of the fields
  pub type_by : {known : Kind} → kind ≡ known → expr_type env (expr_of (expr_at words) k (made words k known)) ≡ expr_type env (expr_at words k)
  type_by e = sym (ap (expr_type env) (expr_is node.node (read words k (sym e ∙ node.is))))

-- ════ Parsing nodes without parsing parts ════

abbrev leaves_of : List ℕ → Env → ℕ → Option Env
leaves_of words env k = type_of (grammar_of words) env (parsing_at words k)

module _ {words : List ℕ} {room k : ℕ} (env : Env) where
  pub plain_leaves : {kind : Kind} → CheckedKind words room k kind → has_parts kind ≡ false → (kind ≡ K.Call → ⊥) → (kind ≡ K.Update → ⊥) → (kind ≡ K.Constraint → ⊥)
      → some env ≡ leaves_of words env k
  plain_leaves {kind} node p q r s = plain words k kind p q r s env ∙ ap (type_of (grammar_of words) env) (sym (parsing_is node.node (read words k node.is)))

  module _ (node : CheckedKind words room k K.Update) where
    pub update_part : CheckedNode words room (node_word words k 2)
    update_part = smaller node.node (holds node.node (read words k node.is)).1.below

    pub update_leaves : {a t : ℕ} → a ≡ node_word words k 2 → t ≡ expr_type env (expr_at words a) → provided (ltb 0 t) (assign env (node_word words k 1) t) ≡ leaves_of words env k
    unfolding type_of parsing_of
    update_leaves p e = rw (e, p) (sym (ap (type_of (grammar_of words) env) (parsing_is node.node (read words k node.is))))

  module _ (node : CheckedKind words room k K.Constraint) where
    pub constraint_part : CheckedNode words room (node_word words k 1)
    constraint_part = smaller node.node (holds node.node (read words k node.is)).below

    pub constraint_leaves : {a : ℕ} {b : Bool} → a ≡ node_word words k 1 → has env (expr_at words a) 1 ≡ b → provided b (some env) ≡ leaves_of words env k
    unfolding type_of parsing_of
    constraint_leaves p e = sym (ap (type_of (grammar_of words) env) (parsing_is node.node (read words k node.is)) ∙ rw (← p, e))

  module _ (node : CheckedKind words room k K.Call) {r : ℕ} (is_rule : r ≡ node_word words k 1) where
    pub callee : CheckedRule words r
    callee = let h = (holds node.node (read words k node.is)).callee in record { table = node.node.table; there = omega arith }

    pub call_argument : {a i : ℕ} → i < inherited_count words r → a ≡ node_word words k (2 + i) → CheckedNode words room a
    call_argument {i = i} l e =
        let few = inherited_few callee in
        let below : node_word words k (2 + i) < k =
        rw (← place (λ j. node_word words k (2 + j)) i (omega arith)) ((holds node.node (read words k node.is)).argument i (rw is_rule at l)).below in
        smaller node.node (rw e below)

    called : leaves_of words env k ≡ provided (arguments_typed words env k r) (received_all words env k r)
    unfolding type_of parsing_of arguments_typed received_all rule_at
    called =
        ap (type_of (grammar_of words) env) (parsing_is node.node (read words k node.is))
        ∙ rw (← is_rule, rule_tree words r callee.there)

    pub call_leaves : {b : Bool} → arguments_typed words env k r ≡ b → provided b (received_all words env k r) ≡ leaves_of words env k
    call_leaves e = sym (called ∙ rw e)
