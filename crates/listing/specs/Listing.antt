-- The listing of a table, byte by byte (document 01, 'Listing and console'). Assumes nothing.
use Rattle.std.specs.Prelude.{List, [], ◌∷◌, ◌++◌, cond, ℕ, zero, suc, eqb, length, take, drop}
use Rattle.grammar.specs.Words.{rule_count, node_count, rule_start}
use Rattle.text.specs.Written.{decimal, hex}

-- the bytes of `rules=`, `nodes=`, `literals=`, `rule=`, `node=`
abbrev pub rules_key : List ℕ
rules_key = 114 ∷ 117 ∷ 108 ∷ 101 ∷ 115 ∷ 61 ∷ []

abbrev pub nodes_key : List ℕ
nodes_key = 110 ∷ 111 ∷ 100 ∷ 101 ∷ 115 ∷ 61 ∷ []

abbrev pub literals_key : List ℕ
literals_key = 108 ∷ 105 ∷ 116 ∷ 101 ∷ 114 ∷ 97 ∷ 108 ∷ 115 ∷ 61 ∷ []

abbrev pub rule_key : List ℕ
rule_key = 114 ∷ 117 ∷ 108 ∷ 101 ∷ 61 ∷ []

abbrev pub node_key : List ℕ
node_key = 110 ∷ 111 ∷ 100 ∷ 101 ∷ 61 ∷ []

-- 'single spaces, each line ended by byte 10': what ends a number that so many others follow in its line
unfoldable pub ending : ℕ → ℕ
ending others = cond (eqb others 0) 10 32

-- the decimals of a line
unfoldable pub numbers : List ℕ → List ℕ
numbers [] = []
numbers (n ∷ ns) = decimal n ++ ending (length ns) ∷ numbers ns

unfoldable pub line : (key ns : List ℕ) → List ℕ
line key ns = key ++ numbers ns

-- a line to a record of `width` words
unfoldable pub record_lines : (key : List ℕ) (width count : ℕ) → List ℕ → List ℕ
record_lines key width zero words = []
record_lines key width (suc count) words = line key (take width words) ++ record_lines key width count (drop width words)

-- '`rules=`, `nodes=`, `literals=` (lower-case hex pairs, maybe none)'
unfoldable pub literals_line : List ℕ → List ℕ
literals_line literals = literals_key ++ (hex literals ++ (10 ∷ []))

unfoldable pub head_lines : (words literals : List ℕ) → List ℕ
head_lines words literals =
    line rules_key (rule_count words ∷ []) ++ (line nodes_key (node_count words ∷ []) ++ literals_line literals)

-- 'then R lines `rule=` with 15 numbers, K lines `node=` with 10'
unfoldable pub body_lines : (rules nodes : ℕ) → List ℕ → List ℕ
body_lines rules nodes words =
    record_lines rule_key 15 rules (drop (rule_start 0) words) ++ record_lines node_key 10 nodes (drop (rule_start rules) words)

-- 'nothing after'
unfoldable pub listing : (words literals : List ℕ) → List ℕ
listing words literals = head_lines words literals ++ body_lines (rule_count words) (node_count words) words
