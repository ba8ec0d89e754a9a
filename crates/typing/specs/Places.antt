-- Arguments, receiving slots and returned nodes with their types: all that are in use, of the four places that a record has. Assumes nothing.
use Rattle.std.specs.Prelude.{List, map, Bool, ℕ}
use Rattle.std.proofs.Math.Option.{Option}
use Rattle.grammar.specs.Words.{inherited_count, returned_count, rule_word, node_word}
use Rattle.grammar.specs.Tree.{expr_at, four}
use Rattle.grammar.specs.Types.{Env, have_all, assign_all}

-- the arguments of the call k of rule r, as far as the callee has them, have the types that it inherits
unfoldable pub arguments_typed : (words : List ℕ) → Env → (k r : ℕ) → Bool
arguments_typed words env k r =
    let n = inherited_count words r in
    have_all env
    (map (expr_at words) (four n (node_word words k 2) (node_word words k 3) (node_word words k 4) (node_word words k 5)))
    (four n (rule_word words r 2) (rule_word words r 3) (rule_word words r 4) (rule_word words r 5))

-- what the call k of rule r leaves, from its receiving slots
unfoldable pub received_all : (words : List ℕ) → Env → (k r : ℕ) → Option Env
received_all words env k r =
    let m = returned_count words r in
    assign_all env (four m (node_word words k 6) (node_word words k 7) (node_word words k 8) (node_word words k 9))
    (four m (rule_word words r 11) (rule_word words r 12) (rule_word words r 13) (rule_word words r 14))

-- the types that rule r inherits
abbrev pub inherited_types : (words : List ℕ) (r : ℕ) → List ℕ
inherited_types words r =
    four (inherited_count words r) (rule_word words r 2) (rule_word words r 3) (rule_word words r 4) (rule_word words r 5)

-- the returned nodes of rule r have their declared types
unfoldable pub returned_typed : (words : List ℕ) → Env → (r : ℕ) → Bool
returned_typed words env r =
    let m = returned_count words r in
    have_all env
    (map (expr_at words) (four m (rule_word words r 7) (rule_word words r 8) (rule_word words r 9) (rule_word words r 10)))
    (four m (rule_word words r 11) (rule_word words r 12) (rule_word words r 13) (rule_word words r 14))
