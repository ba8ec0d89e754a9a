-- What the code below the check may take for granted. Assumes nothing.
use Rattle.std.specs.Prelude.{◌≡◌, List, ℕ, ◌+◌, ◌<◌}
use Rattle.grammar.specs.Form.{passed}
use Rattle.grammar.specs.Words.{node_count, rule_count, kind_at}
use Rattle.grammar.specs.Form.{table_check}
use Rattle.table.specs.declared.kinds.Kind.{Kind}
use Rattle.table.specs.Kinds.{kind_of}

-- the words of a table that has passed the checks 1 to 4
pub record Checked (words : List ℕ) : Type 0 where
  pub literals : List ℕ
  pub passed : table_check words literals ≡ passed

-- a node of such a table, and room for a walk over it
pub record CheckedNode (words : List ℕ) (room k : ℕ) : Type 0 where
  pub table : Checked words
  pub there : k < node_count words
  pub fits : k < room

-- such a node and its kind
pub record CheckedKind (words : List ℕ) (room k : ℕ) (kind : Kind) : Type 0 where
  pub node : CheckedNode words room k
  pub is : kind ≡ kind_of (kind_at words k)

-- a node above `height` nodes at work, and so with room for its parts above it: each is at a height more and has a smaller number
pub record Placed (words : List ℕ) (room height k : ℕ) : Type 0 where
  pub there : height + k < node_count words
  pub fits : height + k < room

-- a rule of such a table
pub record CheckedRule (words : List ℕ) (r : ℕ) : Type 0 where
  pub table : Checked words
  pub there : r < rule_count words
