-- A node from the fields that its kind uses: a call all nine, every other kind the first two. Assumes nothing.
use Rattle.std.specs.Prelude.{List, ℕ, ◌+◌, ◌*◌}
use Rattle.grammar.specs.declared.Node.{Node}
use Rattle.grammar.specs.declared.Node.TheVariants as N
use Rattle.grammar.specs.Words.{word, node_start, node_word, node_for}
use Rattle.table.specs.declared.records.Head.{Head}

unfoldable pub node_of_two : (kind a b : ℕ) → Node
node_of_two kind a b = node_for kind a b 0 0 0 0 0 0 0

abbrev pub call_at : List ℕ → ℕ → Node
call_at words k =
    let field : ℕ → ℕ = node_word words k in
    N.Call (field 1) (field 2) (field 3) (field 4) (field 5) (field 6) (field 7) (field 8) (field 9)

-- kind and fields a and b of the record at a place
abbrev pub head_in : List ℕ → ℕ → Head
head_in words place = record { kind = word words place; a = word words (place + 1); b = word words (place + 2) }

-- of node k
abbrev pub head_at : List ℕ → ℕ → Head
head_at words k = head_in words (node_start words k)

-- where the record of node k lies, from where that of node 0 does
abbrev pub place_from : (first k : ℕ) → ℕ
place_from first k = first + 10 * k
