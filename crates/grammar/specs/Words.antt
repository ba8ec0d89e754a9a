-- Words of a table (document 01, 'Words of a table'): where each record lies, and a node record as a `Node`.
-- A table is its words and its literal bytes, two lists of numbers. Assumes nothing.
use Rattle.std.specs.Prelude.{List, [], ◌∷◌, cond, ℕ, ◌+◌, ◌*◌, ◌-◌, ltb, eqb, ℤ, pos, negsuc, get_or}
use Rattle.grammar.specs.declared.Arithmetic.TheVariants.{Add, Subtract, Multiply, Divide}
use Rattle.grammar.specs.declared.Operator.TheVariants.{Calculate, Equal, Greater, And, Or}
use Rattle.grammar.specs.declared.Node.{Node}
use Rattle.grammar.specs.declared.Node.TheVariants as N

-- word i of the table, 0 past its end
abbrev pub word : List ℕ → ℕ → ℕ
word words i = get_or words i 0

-- Words 0 to 2: R rules, K nodes, L literal bytes
abbrev pub rule_count : List ℕ → ℕ
rule_count words = word words 0

abbrev pub node_count : List ℕ → ℕ
node_count words = word words 1

abbrev pub literal_count : List ℕ → ℕ
literal_count words = word words 2

-- Then R rule records of 15 words, then K node records of 10
abbrev pub rule_start : ℕ → ℕ
rule_start r = 3 + 15 * r

abbrev pub node_start : List ℕ → ℕ → ℕ
node_start words k = 3 + 15 * rule_count words + 10 * k

-- Rule record: body node; n inherited; four types; m returned; four returned nodes; four returned types
abbrev pub rule_word : List ℕ → ℕ → ℕ → ℕ
rule_word words r j = word words (rule_start r + j)

abbrev pub inherited_count : List ℕ → ℕ → ℕ
inherited_count words r = rule_word words r 1

abbrev pub returned_count : List ℕ → ℕ → ℕ
returned_count words r = rule_word words r 6

-- Node record: kind and nine fields, words 1 to 9 of the record
abbrev pub node_word : List ℕ → ℕ → ℕ → ℕ
node_word words k j = word words (node_start words k + j)

abbrev pub kind_at : List ℕ → ℕ → ℕ
kind_at words k = word words (node_start words k)

-- Integer: high word, low word, signed 32-bit two's complement
unfoldable pub signed : ℕ → ℕ → ℤ
signed high low =
    let n = high * 65536 + low in
    cond (ltb n 2147483648) (pos n) (negsuc (4294967295 - n))

-- the node that nine fields stand for, a line to a kind, 0 to 28
unfoldable pub nodes : (a b c d e f g h i : ℕ) → List Node
nodes a b c d e f g h i =
    N.Unknown
    ∷ N.Empty
    ∷ N.Terminal a
    ∷ N.Sequence a b
    ∷ N.Choice a b
    ∷ N.Repeat a
    ∷ N.Not a
    ∷ N.Call a b c d e f g h i
    ∷ N.Bind a b
    ∷ N.Update a b
    ∷ N.Constraint a
    ∷ N.Unknown ∷ N.Unknown ∷ N.Unknown ∷ N.Unknown ∷ N.Unknown
    ∷ N.Bool (eqb a 1)
    ∷ N.Integer (signed a b)
    ∷ N.Text a b
    ∷ N.Slot a
    ∷ N.Binary (Calculate Add) a b
    ∷ N.Binary (Calculate Subtract) a b
    ∷ N.Binary (Calculate Multiply) a b
    ∷ N.Binary (Calculate Divide) a b
    ∷ N.Binary Equal a b
    ∷ N.Binary Greater a b
    ∷ N.Binary And a b
    ∷ N.Binary Or a b
    ∷ N.Negation a
    ∷ []

-- the node of a kind with these fields; a number that is no kind is Unknown, with or without a line
unfoldable pub node_for : (kind a b c d e f g h i : ℕ) → Node
node_for kind a b c d e f g h i = get_or (nodes a b c d e f g h i) kind N.Unknown

unfoldable pub node_at : List ℕ → ℕ → Node
node_at words k =
    let field : ℕ → ℕ = node_word words k in
    node_for (kind_at words k) (field 1) (field 2) (field 3) (field 4) (field 5) (field 6) (field 7) (field 8) (field 9)
