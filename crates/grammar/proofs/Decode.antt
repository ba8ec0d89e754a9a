-- In a sound table each node's tree is made of its parts' trees, and each rule of the grammar is that of its record. Assumes nothing.
use mathlib.Core.Path.{◌≡◌, refl, sym, ap, ◌∙◌}
use mathlib.Core.List.{List}
use Prim.Native.Nat.{ℕ, zero, suc, min, ◌<◌}
use native.Mathlib.Nat.{zero-add}
use native.Mathlib.Omega.{arith}
use lib.ListN.{length}
use Rattle.laws.specs.Tabulate.{at_tabulate, length_tabulate}
use Rattle.grammar.specs.declared.Node.{Node}
use Rattle.grammar.specs.declared.Node.TheVariants as N
use Rattle.grammar.specs.Words.{rule_count, node_count, rule_word, inherited_count, returned_count, node_at}
use Rattle.grammar.specs.Tree.{Expr, bool, integer, text, slot, binary, negation}
use Rattle.grammar.specs.Tree.{Parsing, node, Rule, four, expr_of, parsing_of, levels_of, expr_with, expr_at, parsing_with, parsing_at, rule_of, rule_at, grammar_of}
use Rattle.grammar.proofs.Facts.{SoundTable, sizes}
use Rattle.grammar.proofs.Nodes.{NodeRight, node_right}

-- ════ The tree is the same where the parts' trees are ════

module _ (words : List ℕ) (k : ℕ) where
  expr_of_same : (f g : ℕ → Expr) (n : Node) → ((a : ℕ) → a < k → f a ≡ g a) → NodeRight words k n → expr_of f k n ≡ expr_of g k n
  unfolding expr_of
  expr_of_same f g N.Unknown h p = refl
  expr_of_same f g N.Empty h p = refl
  expr_of_same f g (N.Terminal a) h p = refl
  expr_of_same f g (N.Sequence a b) h p = refl
  expr_of_same f g (N.Choice a b) h p = refl
  expr_of_same f g (N.Repeat a) h p = refl
  expr_of_same f g (N.Not a) h p = refl
  expr_of_same f g (N.Call r a b c d s t u v) h p = refl
  expr_of_same f g (N.Bind s a) h p = refl
  expr_of_same f g (N.Update s a) h p = refl
  expr_of_same f g (N.Constraint a) h p = refl
  expr_of_same f g (N.Bool b) h p = refl
  expr_of_same f g (N.Integer z) h p = refl
  expr_of_same f g (N.Text start length) h p = refl
  expr_of_same f g (N.Slot s) h p = refl
  expr_of_same f g (N.Binary op a b) h p = cc (h a p.0.below, h b p.1.below)
  expr_of_same f g (N.Negation a) h p = cc (h a p.below)

  parsing_of_same : (n m : ℕ → ℕ) (e : ℕ → Expr) (f g : ℕ → Parsing) (x : Node) → ((a : ℕ) → a < k → f a ≡ g a) → NodeRight words k x →
      parsing_of n m e f k x ≡ parsing_of n m e g k x
  unfolding parsing_of
  parsing_of_same n m e f g N.Unknown h p = refl
  parsing_of_same n m e f g N.Empty h p = refl
  parsing_of_same n m e f g (N.Terminal a) h p = refl
  parsing_of_same n m e f g (N.Sequence a b) h p = cc (h a p.0.below, h b p.1.below)
  parsing_of_same n m e f g (N.Choice a b) h p = cc (h a p.0.below, h b p.1.below)
  parsing_of_same n m e f g (N.Repeat a) h p = cc (h a p.below)
  parsing_of_same n m e f g (N.Not a) h p = cc (h a p.below)
  parsing_of_same n m e f g (N.Call r a b c d s t u v) h p = refl
  parsing_of_same n m e f g (N.Bind s a) h p = cc (h a p.1.below)
  parsing_of_same n m e f g (N.Update s a) h p = refl
  parsing_of_same n m e f g (N.Constraint a) h p = refl
  parsing_of_same n m e f g (N.Bool b) h p = refl
  parsing_of_same n m e f g (N.Integer z) h p = refl
  parsing_of_same n m e f g (N.Text start length) h p = refl
  parsing_of_same n m e f g (N.Slot s) h p = refl
  parsing_of_same n m e f g (N.Binary op a b) h p = refl
  parsing_of_same n m e f g (N.Negation a) h p = refl

-- ════ Trees ════

-- The 1,024 levels are all levels of a node below 1,024
pub below_1024 : (words : List ℕ) (k : ℕ) → k < 1024 → expr_at words k ≡ expr_with (suc k) words k
unfolding expr_at
below_1024 words k h = let all : min (suc k) 1024 ≡ suc k = omega arith in rw all

module _ (words literals : List ℕ) (table : SoundTable words literals) where
  -- any two fuels above the node's number give the same tree
  expr_fuel : (f g k : ℕ) → k < node_count words → k < f → k < g → expr_with f words k ≡ expr_with g words k
  unfolding expr_with
  expr_fuel zero g k c h i = absurd (omega arith)
  expr_fuel (suc f) zero k c h i = absurd (omega arith)
  expr_fuel (suc f) (suc g) k c h i =
      expr_of_same words k (expr_with f words) (expr_with g words) (node_at words k) (λ a l. expr_fuel f g a (omega arith) (omega arith) (omega arith))
      (node_right words literals table k c)

  parsing_fuel : (f g k : ℕ) → k < node_count words → k < f → k < g → parsing_with f words k ≡ parsing_with g words k
  unfolding parsing_with
  parsing_fuel zero g k c h i = absurd (omega arith)
  parsing_fuel (suc f) zero k c h i = absurd (omega arith)
  parsing_fuel (suc f) (suc g) k c h i =
      parsing_of_same words k (inherited_count words) (returned_count words) (expr_at words) (parsing_with f words) (parsing_with g words) (node_at words k)
      (λ a l. parsing_fuel f g a (omega arith) (omega arith) (omega arith)) (node_right words literals table k c)

  all_levels : (k : ℕ) → k < node_count words → expr_at words k ≡ expr_with (suc k) words k
  all_levels k c = let most = (sizes words literals table).most_nodes in below_1024 words k (omega arith)

  -- An expression's tree is made of its parts' trees
  pub expr_tree : (k : ℕ) → k < node_count words → expr_at words k ≡ expr_of (expr_at words) k (node_at words k)
  unfolding expr_with
  expr_tree k c =
      all_levels k c
      ∙ expr_of_same words k (expr_with k words) (expr_at words) (node_at words k)
      (λ a l. expr_fuel k (suc a) a (omega arith) l (omega arith) ∙ sym (all_levels a (omega arith)))
      (node_right words literals table k c)

  -- A parsing node's tree is made of its parts' trees
  pub parsing_tree : (k : ℕ) → k < node_count words →
      parsing_at words k ≡ parsing_of (inherited_count words) (returned_count words) (expr_at words) (parsing_at words) k (node_at words k)
  unfolding parsing_at parsing_with
  parsing_tree k c =
      parsing_of_same words k (inherited_count words) (returned_count words) (expr_at words) (parsing_with k words) (parsing_at words) (node_at words k)
      (λ a l. parsing_fuel k (suc a) a (omega arith) l (omega arith)) (node_right words literals table k c)

-- ════ Numbers ════

-- the number that an expression's tree carries
pub number_of : Expr → ℕ
number_of (bool k b) = k
number_of (integer k z) = k
number_of (text k start length) = k
number_of (slot k s) = k
number_of (binary k op e f) = k
number_of (negation k e) = k

-- A node's tree carries the node's number, whatever the table: it is this node that an answer names as its place
pub expr_number : (words : List ℕ) (k : ℕ) → number_of (expr_at words k) ≡ k
unfolding number_of expr_at expr_with expr_of
expr_number words k = with_fuel (levels_of k)
  where
    of_node : (part : ℕ → Expr) (n : Node) → number_of (expr_of part k n) ≡ k
    of_node part N.Unknown = refl
    of_node part N.Empty = refl
    of_node part (N.Terminal a) = refl
    of_node part (N.Sequence a b) = refl
    of_node part (N.Choice a b) = refl
    of_node part (N.Repeat a) = refl
    of_node part (N.Not a) = refl
    of_node part (N.Call r a b c d s t u v) = refl
    of_node part (N.Bind s a) = refl
    of_node part (N.Update s a) = refl
    of_node part (N.Constraint a) = refl
    of_node part (N.Bool b) = refl
    of_node part (N.Integer z) = refl
    of_node part (N.Text start length) = refl
    of_node part (N.Slot s) = refl
    of_node part (N.Binary op a b) = refl
    of_node part (N.Negation a) = refl

    with_fuel : (fuel : ℕ) → number_of (expr_with fuel words k) ≡ k
    with_fuel zero = refl
    with_fuel (suc fuel) = of_node (expr_with fuel words) (node_at words k)

pub parsing_number : (words : List ℕ) (k : ℕ) → node (parsing_at words k) ≡ k
unfolding node parsing_at parsing_with parsing_of
parsing_number words k = of_node (parsing_with k words) (node_at words k)
  where
    of_node : (part : ℕ → Parsing) (n : Node) → node (parsing_of (inherited_count words) (returned_count words) (expr_at words) part k n) ≡ k
    of_node part N.Unknown = refl
    of_node part N.Empty = refl
    of_node part (N.Terminal a) = refl
    of_node part (N.Sequence a b) = refl
    of_node part (N.Choice a b) = refl
    of_node part (N.Repeat a) = refl
    of_node part (N.Not a) = refl
    of_node part (N.Call r a b c d s t u v) = refl
    of_node part (N.Bind s a) = refl
    of_node part (N.Update s a) = refl
    of_node part (N.Constraint a) = refl
    of_node part (N.Bool b) = refl
    of_node part (N.Integer z) = refl
    of_node part (N.Text start length) = refl
    of_node part (N.Slot s) = refl
    of_node part (N.Binary op a b) = refl
    of_node part (N.Negation a) = refl

-- ════ Rules ════

module _ (words : List ℕ) where
  pub grammar_length : length (grammar_of words) ≡ rule_count words
  unfolding grammar_of
  grammar_length = length_tabulate (rule_at words) 0 (rule_count words)

  module _ (r : ℕ) (h : r < rule_count words) where
    -- Rule r of the grammar is that of record r
    pub rule_tree : rule_of (grammar_of words) r ≡ rule_at words r
    unfolding grammar_of
    rule_tree = at_tabulate (rule_at words) 0 (rule_count words) r _ h ∙ rw zero-add

    pub inherited_types : (rule_of (grammar_of words) r).inherited ≡
        four (inherited_count words r) (rule_word words r 2) (rule_word words r 3) (rule_word words r 4) (rule_word words r 5)
    unfolding rule_at
    inherited_types = ap (λ (R : Rule). R.inherited) rule_tree

    pub returned_types_lem : (rule_of (grammar_of words) r).returned_types ≡
        four (returned_count words r) (rule_word words r 11) (rule_word words r 12) (rule_word words r 13) (rule_word words r 14)
    unfolding rule_at
    returned_types_lem = ap (λ (R : Rule). R.returned_types) rule_tree
