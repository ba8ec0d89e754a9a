-- What a node is, by the number of its kind. Assumes nothing.
use mathlib.Core.Path.{◌≡◌, refl, sym}
use mathlib.Core.List.{List}
use mathlib.Core.Bool.{true, false}
use mathlib.Core.Option.{some}
use Prim.Native.Nat.{ℕ, ◌<◌, ◌≤◌}
use native.Mathlib.Omega.{arith}
use lib.ListN.{length, get_or-eq_default}
use Rattle.laws.specs.Tests.{never}
use Rattle.grammar.specs.declared.Arithmetic.TheVariants.{Add, Subtract, Multiply, Divide}
use Rattle.grammar.specs.declared.Operator.{Operator}
use Rattle.grammar.specs.declared.Operator.TheVariants.{Calculate, Equal, Greater, And, Or}
use Rattle.grammar.specs.declared.Node.{Node}
use Rattle.grammar.specs.declared.Node.TheVariants as N
use Rattle.grammar.specs.Words.{kind_at, node_word, node_at, inherited_count, returned_count}
use Rattle.grammar.specs.Tree.{Expr, expr_at, expr_of, parsing_at, parsing_of, grammar_of}
use Rattle.grammar.specs.Types.{Env, operator_type, expr_type, type_of}
use Rattle.table.specs.declared.kinds.Kind.{Kind}
use Rattle.table.specs.declared.kinds.Kind.TheVariants as K
use Rattle.table.specs.Kinds.{kinds, kind_of, node_from}
use Rattle.table.proofs.Numbers.{node_read}
use Rattle.typing.specs.Expressions.{is_operator, has_two, kind_type}
use Rattle.typing.specs.Walk.{has_parts}

-- a node with parsing parts, by its kind and its first two fields
pub data Parts (a b : ℕ) : Kind → Node → Type 0 where
  sequence : Parts a b K.Sequence (N.Sequence a b)
  choice : Parts a b K.Choice (N.Choice a b)
  repeat : Parts a b K.Repeat (N.Repeat a)
  refusal : Parts a b K.Not (N.Not a)
  bind : Parts a b K.Bind (N.Bind a b)

-- an operator with two operands, and the types that it gives
pub record Binary (kind : Kind) (a b : ℕ) (n : Node) : Type 0 where
  pub operator : Operator
  pub node : n ≡ N.Binary operator a b
  pub types : (s t : ℕ) → operator_type operator s t ≡ kind_type kind s t

module _ (words : List ℕ) (k : ℕ) where
  abbrev field : ℕ → ℕ
  field j = node_word words k j

  -- a Bool, as an expression
  abbrev Boolean : Node → Type 0
  Boolean n = (env : Env) (part : ℕ → Expr) → 1 ≡ expr_type env (expr_of part k n)

  -- a node that leaves the slots as they are
  abbrev Plain : Node → Type 0
  Plain n = (env : Env) → some env ≡ type_of (grammar_of words) env (parsing_of (inherited_count words) (returned_count words) (expr_at words) (parsing_at words) k n)

  -- the node that a kind makes of the fields
  abbrev pub made : Kind → Node
  made kind = node_from kind (field 1) (field 2) (field 3) (field 4) (field 5) (field 6) (field 7) (field 8) (field 9)

  pub read : {kind : Kind} → kind ≡ kind_of (kind_at words k) → node_at words k ≡ made kind
  read {kind} e = sym (node_read words k refl e kind refl)

  -- the nodes with parsing parts, and all that leave the slots as they are
  pub parts : (kind : Kind) → has_parts kind ≡ true → Parts (field 1) (field 2) kind (made kind)
  unfolding has_parts
  parts K.Sequence e = sequence
  parts K.Choice e = choice
  parts K.Repeat e = repeat
  parts K.Not e = refusal
  parts K.Bind e = bind
  parts K.Unknown e = never e
  parts K.Empty e = never e
  parts K.Terminal e = never e
  parts K.Call e = never e
  parts K.Update e = never e
  parts K.Constraint e = never e
  parts K.Bool e = never e
  parts K.Integer e = never e
  parts K.Text e = never e
  parts K.Slot e = never e
  parts K.Add e = never e
  parts K.Subtract e = never e
  parts K.Multiply e = never e
  parts K.Divide e = never e
  parts K.Equal e = never e
  parts K.Greater e = never e
  parts K.And e = never e
  parts K.Or e = never e
  parts K.Negation e = never e

  pub plain : (kind : Kind) → has_parts kind ≡ false → (kind ≡ K.Call → ⊥) → (kind ≡ K.Update → ⊥) → (kind ≡ K.Constraint → ⊥) → Plain (made kind)
  unfolding has_parts type_of parsing_of
  plain K.Sequence e p q r = never (sym e)
  plain K.Choice e p q r = never (sym e)
  plain K.Repeat e p q r = never (sym e)
  plain K.Not e p q r = never (sym e)
  plain K.Bind e p q r = never (sym e)
  plain K.Call e p q r = absurd (p refl)
  plain K.Update e p q r = absurd (q refl)
  plain K.Constraint e p q r = absurd (r refl)
  plain K.Unknown e p q r = λ env. refl
  plain K.Empty e p q r = λ env. refl
  plain K.Terminal e p q r = λ env. refl
  plain K.Bool e p q r = λ env. refl
  plain K.Integer e p q r = λ env. refl
  plain K.Text e p q r = λ env. refl
  plain K.Slot e p q r = λ env. refl
  plain K.Add e p q r = λ env. refl
  plain K.Subtract e p q r = λ env. refl
  plain K.Multiply e p q r = λ env. refl
  plain K.Divide e p q r = λ env. refl
  plain K.Equal e p q r = λ env. refl
  plain K.Greater e p q r = λ env. refl
  plain K.And e p q r = λ env. refl
  plain K.Or e p q r = λ env. refl
  plain K.Negation e p q r = λ env. refl

  -- the operators with two operands, and what stands for a Bool
  pub binary : (kind : Kind) → is_operator kind ≡ true → has_two kind ≡ true → Binary kind (field 1) (field 2) (made kind)
  unfolding is_operator has_two operator_type kind_type
  binary K.Add e two = record { operator = Calculate Add; node = refl; types = λ s t. refl }
  binary K.Subtract e two = record { operator = Calculate Subtract; node = refl; types = λ s t. refl }
  binary K.Multiply e two = record { operator = Calculate Multiply; node = refl; types = λ s t. refl }
  binary K.Divide e two = record { operator = Calculate Divide; node = refl; types = λ s t. refl }
  binary K.Equal e two = record { operator = Equal; node = refl; types = λ s t. refl }
  binary K.Greater e two = record { operator = Greater; node = refl; types = λ s t. refl }
  binary K.And e two = record { operator = And; node = refl; types = λ s t. refl }
  binary K.Or e two = record { operator = Or; node = refl; types = λ s t. refl }
  binary K.Negation e two = never two
  binary K.Unknown e two = never e
  binary K.Empty e two = never e
  binary K.Terminal e two = never e
  binary K.Sequence e two = never e
  binary K.Choice e two = never e
  binary K.Repeat e two = never e
  binary K.Not e two = never e
  binary K.Call e two = never e
  binary K.Bind e two = never e
  binary K.Update e two = never e
  binary K.Constraint e two = never e
  binary K.Bool e two = never e
  binary K.Integer e two = never e
  binary K.Text e two = never e
  binary K.Slot e two = never e

  pub bools : (kind : Kind) → is_operator kind ≡ false → (kind ≡ K.Integer → ⊥) → (kind ≡ K.Text → ⊥) → (kind ≡ K.Slot → ⊥) → Boolean (made kind)
  unfolding is_operator expr_type expr_of
  bools K.Add e p q r = never (sym e)
  bools K.Subtract e p q r = never (sym e)
  bools K.Multiply e p q r = never (sym e)
  bools K.Divide e p q r = never (sym e)
  bools K.Equal e p q r = never (sym e)
  bools K.Greater e p q r = never (sym e)
  bools K.And e p q r = never (sym e)
  bools K.Or e p q r = never (sym e)
  bools K.Negation e p q r = never (sym e)
  bools K.Integer e p q r = absurd (p refl)
  bools K.Text e p q r = absurd (q refl)
  bools K.Slot e p q r = absurd (r refl)
  bools K.Unknown e p q r = λ env part. refl
  bools K.Empty e p q r = λ env part. refl
  bools K.Terminal e p q r = λ env part. refl
  bools K.Sequence e p q r = λ env part. refl
  bools K.Choice e p q r = λ env part. refl
  bools K.Repeat e p q r = λ env part. refl
  bools K.Not e p q r = λ env part. refl
  bools K.Call e p q r = λ env part. refl
  bools K.Bind e p q r = λ env part. refl
  bools K.Update e p q r = λ env part. refl
  bools K.Constraint e p q r = λ env part. refl
  bools K.Bool e p q r = λ env part. refl

-- an operator's number
no_operator : (n : ℕ) → is_operator (kind_of n) ≡ true → 29 ≤ n → ⊥
unfolding is_operator
no_operator n e h = never (rw (get_or-eq_default kinds K.Unknown (let l : length kinds ≤ n = h in l)) at e)

pub operator_number : (n : ℕ) → is_operator (kind_of n) ≡ true → n < 29
operator_number n e = let h = no_operator n e in omega arith
