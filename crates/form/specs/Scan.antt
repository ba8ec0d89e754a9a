-- The scan of the table check: records in their order, and the uses that it counts. Assumes nothing.
use Rattle.std.specs.Prelude.{List, cond, ◌&&◌, ◌≡◌, ℕ, ◌+◌, ◌*◌, ◌-◌, ◌≤◌, ◌<◌, min, ltb, length, get_or, set, Option, Some, None}
use Rattle.std.proofs.Math.Option as M
use Rattle.std.proofs.Math.Option.{none, some}
use Rattle.laws.specs.Counting.{smallest_failing}
use Rattle.grammar.specs.Words.{rule_count, node_count}
use Rattle.grammar.specs.Form.{word_ok, uses}
use Rattle.form.specs.Sorts.{rule_numbers, in_row, is_node}

-- what a scan found: the number where it stopped, or nothing
abbrev pub found : Option ℕ → M.Option ℕ
found (Some i) = some i
found None = none

-- records, rules first and then nodes: how long record q is, where it starts, and below what number the nodes are that it may name
abbrev pub record_length : (rules q : ℕ) → ℕ
record_length rules q = cond (ltb q rules) 15 10

abbrev pub record_start : (rules q : ℕ) → ℕ
record_start rules q = 3 + 15 * min q rules + 10 * (q - rules)

abbrev pub record_bound : (rules nodes q : ℕ) → ℕ
record_bound rules nodes q = cond (ltb q rules) nodes (q - rules)

-- the sort of word j of record q, where this is its row if it is a node
abbrev pub record_sort : (rows : List (List ℕ)) (rules q row j : ℕ) → ℕ
record_sort rows rules q row j = cond (ltb q rules) (get_or rule_numbers j 0) (in_row rows row j)

-- the counts after the word w, whose sort in force is n: one use more of node w where such a word uses a node; a number from 1,024 on is no
-- node's, and counts nothing
abbrev pub one_more : (counts : List ℕ) (n w : ℕ) → List ℕ
one_more counts n w = cond (is_node n && ltb w 1024) (set counts w (get_or counts w 0 + 1)) counts

-- counts hold the uses of each node
pub record Counted (words counts : List ℕ) : Type 0 where
  pub at : (k : ℕ) → k < 1024 → get_or counts k 0 ≡ uses words k

-- what SIZE passed, as the later checks use it
pub record Sized (words : List ℕ) : Type 0 where
  pub few_rules : rule_count words ≤ 64
  pub few_nodes : node_count words ≤ 1024
  pub long : length words ≡ 3 + 15 * rule_count words + 10 * node_count words

-- the scan stopped at the first bad word, if there is one; and where there is none the counts are those of the uses
pub record Scanned (words counts : List ℕ) (bad : Option ℕ) : Type 0 where
  pub stopped : found bad ≡ smallest_failing (word_ok words) 3 (length words - 3)
  pub counted : bad ≡ None → Counted words counts
