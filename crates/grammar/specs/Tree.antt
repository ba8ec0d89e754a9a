-- The trees that a table stands for. A node's tree carries the node's number, which answers name as their place.
-- Assumes nothing.
use Rattle.std.specs.Prelude.{List, [], ◌∷◌, map, Bool, false, ℕ, zero, suc, min, ℤ, get_or, take}
use Rattle.grammar.specs.declared.Operator.{Operator}
use Rattle.grammar.specs.declared.Node.{Node}
use Rattle.grammar.specs.declared.Node.TheVariants as N
use Rattle.laws.specs.Counting.{tabulate}
use Rattle.grammar.specs.Words.{rule_count, rule_word, inherited_count, returned_count, node_at}

-- Expression: each begins with its node's number
pub data Expr : Type 0 where
  bool : ℕ → Bool → Expr
  integer : ℕ → ℤ → Expr
  text : ℕ → (start length : ℕ) → Expr
  slot : ℕ → (s : ℕ) → Expr
  binary : ℕ → Operator → Expr → Expr → Expr
  negation : ℕ → Expr → Expr

-- Parsing: each begins with its node's number
pub data Parsing : Type 0 where
  empty : ℕ → Parsing
  terminal : ℕ → (byte : ℕ) → Parsing
  sequence : ℕ → Parsing → Parsing → Parsing
  choice : ℕ → Parsing → Parsing → Parsing
  repeat : ℕ → Parsing → Parsing
  unless : ℕ → Parsing → Parsing
  call : ℕ → (rule : ℕ) → (arguments : List Expr) → (receiving : List ℕ) → Parsing
  bind : ℕ → (s : ℕ) → Parsing → Parsing
  update : ℕ → (s : ℕ) → Expr → Parsing
  constraint : ℕ → Expr → Parsing

-- the number of a parsing node
unfoldable pub node : Parsing → ℕ
node (empty k) = k
node (terminal k byte) = k
node (sequence k p q) = k
node (choice k p q) = k
node (repeat k p) = k
node (unless k p) = k
node (call k r es ss) = k
node (bind k s p) = k
node (update k s e) = k
node (constraint k e) = k

-- A rule: the types of its inherited slots 0 to n-1, its body, its m returned nodes and their types
pub record Rule : Type 0 where
  pub inherited : List ℕ
  pub body : Parsing
  pub returned : List Expr
  pub returned_types : List ℕ

abbrev pub Grammar : Type 0
Grammar = List Rule

-- rule r; past the last one, a rule that does nothing
abbrev pub rule_of : Grammar → ℕ → Rule
rule_of G r = get_or G r (record { inherited = []; body = empty 0; returned = []; returned_types = [] })

-- the four numbers, as far as they count
abbrev pub four : ℕ → ℕ → ℕ → ℕ → ℕ → List ℕ
four n a b c d = take n (a ∷ b ∷ c ∷ d ∷ [])

-- What a node stands for, from the trees of its parts. A node that is no expression stands for `false` where an expression is wanted,
-- and one that is no parsing node for `empty` where a parsing node is: the table check lets no such table through.
unfoldable pub expr_of : (ℕ → Expr) → ℕ → Node → Expr
expr_of part k N.Unknown = bool k false
expr_of part k N.Empty = bool k false
expr_of part k (N.Terminal a) = bool k false
expr_of part k (N.Sequence a b) = bool k false
expr_of part k (N.Choice a b) = bool k false
expr_of part k (N.Repeat a) = bool k false
expr_of part k (N.Not a) = bool k false
expr_of part k (N.Call r a b c d s t u v) = bool k false
expr_of part k (N.Bind s a) = bool k false
expr_of part k (N.Update s a) = bool k false
expr_of part k (N.Constraint a) = bool k false
expr_of part k (N.Bool b) = bool k b
expr_of part k (N.Integer z) = integer k z
expr_of part k (N.Text start length) = text k start length
expr_of part k (N.Slot s) = slot k s
expr_of part k (N.Binary op a b) = binary k op (part a) (part b)
expr_of part k (N.Negation a) = negation k (part a)

-- `n r` and `m r` are the callee's counts, `expr` gives an expression's tree and `part` a parsing part's
unfoldable pub parsing_of : (ℕ → ℕ) → (ℕ → ℕ) → (ℕ → Expr) → (ℕ → Parsing) → ℕ → Node → Parsing
parsing_of n m expr part k N.Unknown = empty k
parsing_of n m expr part k N.Empty = empty k
parsing_of n m expr part k (N.Terminal a) = terminal k a
parsing_of n m expr part k (N.Sequence a b) = sequence k (part a) (part b)
parsing_of n m expr part k (N.Choice a b) = choice k (part a) (part b)
parsing_of n m expr part k (N.Repeat a) = repeat k (part a)
parsing_of n m expr part k (N.Not a) = unless k (part a)
parsing_of n m expr part k (N.Call r a b c d s t u v) = call k r (map expr (four (n r) a b c d)) (four (m r) s t u v)
parsing_of n m expr part k (N.Bind s a) = bind k s (part a)
parsing_of n m expr part k (N.Update s a) = update k s (expr a)
parsing_of n m expr part k (N.Constraint a) = constraint k (expr a)
parsing_of n m expr part k (N.Bool b) = empty k
parsing_of n m expr part k (N.Integer z) = empty k
parsing_of n m expr part k (N.Text start length) = empty k
parsing_of n m expr part k (N.Slot s) = empty k
parsing_of n m expr part k (N.Binary op a b) = empty k
parsing_of n m expr part k (N.Negation a) = empty k

-- Node k's tree. Parts have smaller numbers than their node, so fuel k + 1 is enough; proofs/Decode.antt shows that more makes no difference.
unfoldable pub expr_with : ℕ → List ℕ → ℕ → Expr
expr_with zero words k = bool k false
expr_with (suc fuel) words k = expr_of (expr_with fuel words) k (node_at words k)

-- 'K nodes (1 to 1,024)': no expression is followed deeper. proofs/Decode.antt shows that this changes nothing for a node below 1,024, whatever the table
abbrev pub levels_of : ℕ → ℕ
levels_of k = min (suc k) 1024

unfoldable pub expr_at : List ℕ → ℕ → Expr
expr_at words k = expr_with (levels_of k) words k

unfoldable pub parsing_with : ℕ → List ℕ → ℕ → Parsing
parsing_with zero words k = empty k
parsing_with (suc fuel) words k =
    parsing_of (inherited_count words) (returned_count words) (expr_at words) (parsing_with fuel words) k (node_at words k)

unfoldable pub parsing_at : List ℕ → ℕ → Parsing
parsing_at words k = parsing_with (suc k) words k

-- rule r of a table
unfoldable pub rule_at : List ℕ → ℕ → Rule
rule_at words r =
    let field : ℕ → ℕ = rule_word words r in
    record {
      inherited = four (field 1) (field 2) (field 3) (field 4) (field 5);
      body = parsing_at words (field 0);
      returned = map (expr_at words) (four (field 6) (field 7) (field 8) (field 9) (field 10));
      returned_types = four (field 6) (field 11) (field 12) (field 13) (field 14);
    }

-- rules 0 to R-1
unfoldable pub grammar_of : List ℕ → Grammar
grammar_of words = tabulate (rule_at words) 0 (rule_count words)
