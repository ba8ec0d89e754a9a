-- Which fields a kind's node is made of, and which numbers are no kind. Assumes nothing.
use mathlib.Core.Bool.{Bool, true, false, ◌||◌}
use mathlib.Core.List.{List}
use mathlib.Core.Logic.{◌≢◌}
use mathlib.Core.Option.{none}
use mathlib.Core.Path.{◌≡◌, refl, sym}
use Prim.Native.Nat.{ℕ, zero, suc}
use native.Mathlib.Omega.{arith}
use lib.Dec.{T, ltb}
use lib.ListN.{get_or-eq_default}
use denote.Enum.Declared.{tag_of}
use mir.Val.{has_key}
use types.Run.{OneOf, hit}
use borrow.Author.Tests.{ltb-true, ltb-false}
use Rattle.laws.specs.Counting.{smallest_failing}
use Rattle.laws.specs.Smallest.{smallest_all}
use Rattle.laws.specs.Tests.{never}
use Rattle.grammar.specs.declared.Node.TheVariants as N
use Rattle.grammar.specs.contracts.Node as node
use Rattle.grammar.specs.Words.{kind_at, node_at, node_for, node_start, node_word, nodes, word}
use Rattle.table.specs.Fields.{call_at, node_of_two, head_in, head_at, place_from}

-- only a call has more than two fields
pub two_fields : (kind a b c d e f g h i : ℕ) → kind ≢ 7 → node_for kind a b c d e f g h i ≡ node_of_two kind a b
unfolding node_for nodes node_of_two
two_fields zero a b c d e f g h i other = refl
two_fields (suc zero) a b c d e f g h i other = refl
two_fields (suc (suc zero)) a b c d e f g h i other = refl
two_fields (suc (suc (suc zero))) a b c d e f g h i other = refl
two_fields (suc (suc (suc (suc zero)))) a b c d e f g h i other = refl
two_fields (suc (suc (suc (suc (suc zero))))) a b c d e f g h i other = refl
two_fields (suc (suc (suc (suc (suc (suc zero)))))) a b c d e f g h i other = refl
two_fields (suc (suc (suc (suc (suc (suc (suc zero))))))) a b c d e f g h i other = absurd (other refl)
two_fields (suc (suc (suc (suc (suc (suc (suc (suc kind)))))))) a b c d e f g h i other = refl

told : (b : Bool) → b ≡ true → T b
told true e = tt
told false e = never e

module _ (words : List ℕ) (k : ℕ) where
  -- the kind that was read at the node's place
  pub kind_read : {place kind : ℕ} → place ≡ node_start words k → kind ≡ word words place → kind_at words k ≡ kind
  kind_read at read = rw (← at) (sym read)

  -- what a reader of many nodes sees is node k
  pub head_of : {first : ℕ} → first ≡ node_start words 0 → head_in words (place_from first k) ≡ head_at words k
  head_of {first} e = let p : place_from first k ≡ node_start words k = omega arith in rw p

  -- a node whose kind is known: its fields are read, and no others matter
  pub node_of : (kind : ℕ) → kind_at words k ≡ kind
      → let field : ℕ → ℕ = node_word words k in
      node_at words k ≡ node_for kind (field 1) (field 2) (field 3) (field 4) (field 5) (field 6) (field 7) (field 8) (field 9)
  unfolding node_at
  node_of kind e = rw e

  -- where every kind but some makes a node with one of these tags, so does a kind that is none of those; a number without a line is Unknown
  pub other_kinds : (but : ℕ → Bool) (tags : List ℕ) → T (has_key tags 0)
      → ((a b c d e f g h i : ℕ) → smallest_failing (λ kind. but kind || has_key tags (tag_of node.the_type (node_for kind a b c d e f g h i))) 0 29 ≡ none)
      → but (kind_at words k) ≡ false → OneOf tags (tag_of node.the_type (node_at words k))
  unfolding node_at node_for nodes
  other_kinds but tags unknown all e = go (ltb (kind_at words k) 29) refl
    where
      field : ℕ → ℕ
      field = node_word words k

      go : (b : Bool) → ltb (kind_at words k) 29 ≡ b → OneOf tags (tag_of node.the_type (node_at words k))
      go true small =
          let found = smallest_all _ 0 29 (all (field 1) (field 2) (field 3) (field 4) (field 5) (field 6) (field 7) (field 8) (field 9)) (kind_at words k) (omega arith)
          (ltb-true _ _ small) in
          hit tags _ (told _ (rw e at found))
      go false large =
          let gone : node_at words k ≡ N.Unknown =
          get_or-eq_default (nodes (field 1) (field 2) (field 3) (field 4) (field 5) (field 6) (field 7) (field 8) (field 9)) N.Unknown
          (ltb-false (kind_at words k) 29 large) in
          rw gone (hit tags 0 unknown)

  pub node_call : kind_at words k ≡ 7 → call_at words k ≡ node_at words k
  unfolding node_at node_for nodes
  node_call e = rw e

  pub node_other : kind_at words k ≢ 7 → node_of_two (kind_at words k) (node_word words k 1) (node_word words k 2) ≡ node_at words k
  unfolding node_at
  node_other other = sym (two_fields _ _ _ _ _ _ _ _ _ _ other)
