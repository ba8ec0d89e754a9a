-- What a checked table gives to the two walks over its nodes: a node's tree is made of its parts' trees, and parts have smaller numbers.
-- Assumes nothing.
use mathlib.Core.Path.{◌≡◌, ap, ◌∙◌}
use mathlib.Core.List.{List}
use Prim.Native.Nat.{ℕ, ◌+◌, ◌<◌}
use native.Mathlib.Omega.{arith}
use Rattle.grammar.specs.declared.Node.{Node}
use Rattle.grammar.specs.Words.{node_at, inherited_count, returned_count}
use Rattle.grammar.specs.Tree.{expr_at, expr_of, parsing_at, parsing_of}
use Rattle.grammar.proofs.Facts.{SoundTable, Sizes, sizes, sound_of_form}
use Rattle.grammar.proofs.Nodes.{NodeRight, node_holds}
use Rattle.grammar.proofs.Decode.{expr_tree, parsing_tree}
use Rattle.typing.specs.Checked.{Checked, CheckedNode, Placed}

pub sound : {words : List ℕ} (table : Checked words) → SoundTable words table.literals
sound {words} table = sound_of_form words table.literals table.passed

pub sized : {words : List ℕ} (table : Checked words) → Sizes words table.literals
sized {words} table = sizes words table.literals (sound table)

-- a node that is due is one of the table's, and so are its parts, which have smaller numbers
module _ {words : List ℕ} {room height k : ℕ} (p : Placed words room height k) where
  pub placed_node : Checked words → CheckedNode words room k
  placed_node table = record { table = table; there = omega arith; fits = omega arith }

  pub placed_part : {a : ℕ} → a < k → Placed words room (height + 1) a
  placed_part l = record { there = omega arith; fits = omega arith }

module _ {words : List ℕ} {room k : ℕ} (node : CheckedNode words room k) where
  -- what a node's fields hold, by the node that it is
  pub holds : {n : Node} → node_at words k ≡ n → NodeRight words k n
  holds {n} e = node_holds words node.table.literals (sound node.table) k n node.there e

  -- a node with a smaller number is one of the table too
  pub smaller : {a : ℕ} → a < k → CheckedNode words room a
  smaller l = let h = node.there in let i = node.fits in record { table = node.table; there = omega arith; fits = omega arith }

  -- a node's tree is made of its parts' trees
  pub expr_is : {n : Node} → node_at words k ≡ n → expr_at words k ≡ expr_of (expr_at words) k n
  expr_is e = expr_tree words node.table.literals (sound node.table) k node.there ∙ ap (expr_of (expr_at words) k) e

  pub parsing_is : {n : Node} → node_at words k ≡ n → parsing_at words k ≡ parsing_of (inherited_count words) (returned_count words) (expr_at words) (parsing_at words) k n
  parsing_is e =
      parsing_tree words node.table.literals (sound node.table) k node.there
      ∙ ap (parsing_of (inherited_count words) (returned_count words) (expr_at words) (parsing_at words) k) e

-- a node with a pile of the same length
pub longer : {words : List ℕ} {room later k : ℕ} → later ≡ room → CheckedNode words room k → CheckedNode words later k
longer e node = rw e node
