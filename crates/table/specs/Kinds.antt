-- The kinds that document 01 has a line for, by their numbers. Assumes nothing.
use Rattle.std.specs.Prelude.{List, [], ◌∷◌, ℕ, eqb, get_or}
use Rattle.grammar.specs.declared.Arithmetic.TheVariants.{Add, Subtract, Multiply, Divide}
use Rattle.grammar.specs.declared.Operator.TheVariants.{Calculate, Equal, Greater, And, Or}
use Rattle.grammar.specs.declared.Node.{Node}
use Rattle.grammar.specs.declared.Node.TheVariants as N
use Rattle.grammar.specs.Words.{signed}
use Rattle.table.specs.declared.kinds.Kind.{Kind}
use Rattle.table.specs.declared.kinds.Kind.TheVariants as K

-- a line to a number, 0 to 28
abbrev pub kinds : List Kind
kinds =
    K.Unknown
    ∷ K.Empty
    ∷ K.Terminal
    ∷ K.Sequence
    ∷ K.Choice
    ∷ K.Repeat
    ∷ K.Not
    ∷ K.Call
    ∷ K.Bind
    ∷ K.Update
    ∷ K.Constraint
    ∷ K.Unknown ∷ K.Unknown ∷ K.Unknown ∷ K.Unknown ∷ K.Unknown
    ∷ K.Bool
    ∷ K.Integer
    ∷ K.Text
    ∷ K.Slot
    ∷ K.Add
    ∷ K.Subtract
    ∷ K.Multiply
    ∷ K.Divide
    ∷ K.Equal
    ∷ K.Greater
    ∷ K.And
    ∷ K.Or
    ∷ K.Negation
    ∷ []

-- the kind with this number; one without a line is no kind
abbrev pub kind_of : ℕ → Kind
kind_of number = get_or kinds number K.Unknown

-- the node that a kind and nine fields make
abbrev pub node_from : Kind → (a b c d e f g h i : ℕ) → Node
node_from K.Unknown a b c d e f g h i = N.Unknown
node_from K.Empty a b c d e f g h i = N.Empty
node_from K.Terminal a b c d e f g h i = N.Terminal a
node_from K.Sequence a b c d e f g h i = N.Sequence a b
node_from K.Choice a b c d e f g h i = N.Choice a b
node_from K.Repeat a b c d e f g h i = N.Repeat a
node_from K.Not a b c d e f g h i = N.Not a
node_from K.Call a b c d e f g h i = N.Call a b c d e f g h i
node_from K.Bind a b c d e f g h i = N.Bind a b
node_from K.Update a b c d e f g h i = N.Update a b
node_from K.Constraint a b c d e f g h i = N.Constraint a
node_from K.Bool a b c d e f g h i = N.Bool (eqb a 1)
node_from K.Integer a b c d e f g h i = N.Integer (signed a b)
node_from K.Text a b c d e f g h i = N.Text a b
node_from K.Slot a b c d e f g h i = N.Slot a
node_from K.Add a b c d e f g h i = N.Binary (Calculate Add) a b
node_from K.Subtract a b c d e f g h i = N.Binary (Calculate Subtract) a b
node_from K.Multiply a b c d e f g h i = N.Binary (Calculate Multiply) a b
node_from K.Divide a b c d e f g h i = N.Binary (Calculate Divide) a b
node_from K.Equal a b c d e f g h i = N.Binary Equal a b
node_from K.Greater a b c d e f g h i = N.Binary Greater a b
node_from K.And a b c d e f g h i = N.Binary And a b
node_from K.Or a b c d e f g h i = N.Binary Or a b
node_from K.Negation a b c d e f g h i = N.Negation a
