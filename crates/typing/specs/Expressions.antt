-- The walk over an expression, as laws' Pile has it: what is still to do stands as what comes of it. Assumes nothing.
use Rattle.std.specs.Prelude.{◌≡◌, List, Bool, true, false, cond, ◌&&◌, ℕ, ◌+◌, ◌*◌, ◌/◌, ◌%◌, ◌<◌, ◌≤◌, ltb, length, Option as Optional, ⊤}
use Rattle.laws.specs.Pile.{Walking, Piled, Onward, heavy, burden}
use Rattle.grammar.specs.declared.Operator.TheVariants.{Equal}
use Rattle.grammar.specs.Tree.{expr_at}
use Rattle.grammar.specs.Types.{Env, if_both, operator_type, negation_type, expr_type}
use Rattle.table.specs.declared.kinds.Kind.{Kind}
use Rattle.table.specs.declared.kinds.Kind.TheVariants as K
use Rattle.table.specs.Kinds.{kind_of}
use Rattle.typing.specs.declared.slots.Slots.{Slots}
use Rattle.typing.specs.declared.value_type.ValueType.{ValueType}
use Rattle.typing.specs.declared.expressions.Step.{Step}
use Rattle.typing.specs.declared.expressions.Step.TheVariants.{Due, Found}
use Rattle.typing.specs.declared.expressions.Judging.{Judging}
use Rattle.typing.specs.Checked.{Checked, Placed}
use Rattle.typing.specs.Slots.{types_in}
use Rattle.typing.specs.Types.{number_if_any}

-- the operators
unfoldable pub is_operator : Kind → Bool
is_operator K.Add = true
is_operator K.Subtract = true
is_operator K.Multiply = true
is_operator K.Divide = true
is_operator K.Equal = true
is_operator K.Greater = true
is_operator K.And = true
is_operator K.Or = true
is_operator K.Negation = true
is_operator _ = false

-- those with two operands
unfoldable pub has_two : Kind → Bool
has_two K.Negation = false
has_two _ = true

-- the type that an operator with two operands gives
unfoldable pub kind_type : Kind → (s t : ℕ) → ℕ
kind_type K.Equal s t = operator_type Equal s t
kind_type K.Greater s t = if_both 2 1 s t
kind_type K.And s t = if_both 1 1 s t
kind_type K.Or s t = if_both 1 1 s t
kind_type _ s t = if_both 2 2 s t

-- An operator at work is one number: its kind's number and its right operand, while the left one is judged; that number and 32, and the left one's type, while the right one is
abbrev pub at_work : (code number : ℕ) → ℕ
at_work code number = code * 65536 + number

-- its kind's number, or that and 32
abbrev pub code_of : ℕ → ℕ
code_of f = f / 65536

-- its kind
abbrev pub operator_of : ℕ → Kind
operator_of f = kind_of (code_of f % 32)

-- its right operand, or the left one's type
abbrev pub number_of : ℕ → ℕ
number_of f = f % 65536

-- the type of the operator f, wherever it stands, once the operand that is judged has the type t
unfoldable pub applied : (words : List ℕ) → Env → (place f t : ℕ) → ℕ
applied words env place f t =
    cond (has_two (operator_of f))
    (cond (ltb (code_of f) 32) (kind_type (operator_of f) t (expr_type env (expr_at words (number_of f)))) (kind_type (operator_of f) (number_of f) t))
    (negation_type t)

-- its weight: the right operand waits while the left one is judged
unfoldable pub operator_weight : (place f : ℕ) → ℕ
operator_weight place f = burden (has_two (operator_of f) && ltb (code_of f) 32) (number_of f)

-- what is known of it: the right operand, while it waits, has room above it; the left one's type is one
pub record Operand (words : List ℕ) (room place f : ℕ) : Type 0 where
  pub waits : has_two (operator_of f) ≡ true → code_of f < 32 → Placed words room (place + 1) (number_of f)
  pub typed : has_two (operator_of f) ≡ true → 32 ≤ code_of f → (0 < number_of f) × (number_of f < 4)

-- node k is due
abbrev pub node_due : (k top : ℕ) → Judging
node_due k top = record { step = Due k; top = top }

-- this type was found, or none
abbrev pub type_found : Optional ValueType → (top : ℕ) → Judging
type_found t top = record { step = Found t; top = top }

-- the type of the node that is due, or the type that was found
unfoldable pub comes_of : (words : List ℕ) → Slots → Step → ℕ
comes_of words slots (Due k) = expr_type (types_in slots) (expr_at words k)
comes_of words slots (Found t) = number_if_any t

-- the weight of the node that is due
unfoldable pub step_weight : Step → ℕ
step_weight (Due k) = heavy k
step_weight (Found t) = 0

-- the code's walk
unfoldable pub judging : (words : List ℕ) (slots : Slots) (pile : List ℕ) → Judging → Walking ℕ
judging words slots pile w = record { pile = pile; top = w.top; result = comes_of words slots w.step; weight = step_weight w.step }

-- the node that is due has room above the operators at work
abbrev pub Room : (words : List ℕ) (room top : ℕ) → Step → Type 0
Room words room top (Due k) = Placed words room top k
Room words room top (Found t) = ⊤

-- what the code may take for granted of it
pub record Judges (words pile : List ℕ) (w : Judging) : Type 0 where
  pub table : Checked words
  pub piled : Piled (Operand words (length pile)) pile w.top
  pub due : Room words (length pile) w.top w.step

-- one step
pub record JudgedOn (words : List ℕ) (slots : Slots) (pile : List ℕ) (w : Judging) (later : List ℕ) (v : Judging) : Type 0 where
  pub onward : Onward (applied words (types_in slots)) operator_weight (Operand words (length pile)) (judging words slots pile w) (judging words slots later v)
  pub due : Room words (length pile) v.top v.step
