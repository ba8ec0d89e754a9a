-- Values: 32-bit arithmetic, the bytes of a Text, equality, and what an expression's operators make of them (document 01, 'Running').
-- Assumes nothing.
use Rattle.std.specs.Prelude.{List, [], Result, Ok, Err, Bool, true, false, cond, not, ℕ, zero, suc, ◌+◌, leb, eqb, ℤ, pos, negsuc, ◌+ℤ◌, ◌-ℤ◌, ◌*ℤ◌, length, take, drop}
use Rattle.std.specs.Bool.{beq}
use Rattle.std.specs.Int.Signed.{lt_z, quot_z}
use Rattle.laws.specs.Same.{same}
use Rattle.grammar.specs.declared.Arithmetic.{Arithmetic}
use Rattle.grammar.specs.declared.Arithmetic.TheVariants.{Add, Subtract, Multiply, Divide}
use Rattle.grammar.specs.declared.Operator.{Operator}
use Rattle.grammar.specs.declared.Operator.TheVariants.{Calculate, Equal, Greater, And, Or}
use Rattle.grammar.specs.declared.Fault.{Fault}
use Rattle.grammar.specs.declared.Fault.TheVariants.{Overflow, ZeroDivisor}
use Rattle.grammar.specs.declared.Ending.{Ending}
use Rattle.grammar.specs.declared.Ending.TheVariants.{Stuck, «Fault» as AtFault}
use Rattle.grammar.specs.declared.Span.{Span}
use Rattle.grammar.specs.declared.Value.{Value}
use Rattle.grammar.specs.declared.Value.TheVariants as Val

-- ════ 32-bit arithmetic ════

-- what arithmetic gives: a number, or why there is none
abbrev pub Number : Type 0
Number = Result ℤ Fault

-- signed 32-bit numbers are -2147483648 to 2147483647; `negsuc n` is -(n + 1)
abbrev pub signed32 : ℤ → Bool
signed32 (pos n) = leb n 2147483647
signed32 (negsuc n) = leb (n + 1) 2147483648

-- '32-bit overflow' is FAULT
unfoldable pub fitting : ℤ → Number
fitting z = cond (signed32 z) (Ok z) (Err Overflow)

-- 'zero divisor' is FAULT; 'Negative division drops the fraction, toward zero'
unfoldable pub quotient : ℤ → ℤ → Number
quotient a (pos zero) = Err ZeroDivisor
quotient a (pos (suc b)) = fitting (quot_z a (pos (suc b)))
quotient a (negsuc b) = fitting (quot_z a (negsuc b))

unfoldable pub calculated : Arithmetic → ℤ → ℤ → Number
calculated Add a b = fitting (a +ℤ b)
calculated Subtract a b = fitting (a -ℤ b)
calculated Multiply a b = fitting (a *ℤ b)
calculated Divide a b = quotient a b

-- ════ Texts ════

-- the slice that a Text names, and whether its part fits there
abbrev pub slice_of : (message literals : List ℕ) → Span → List ℕ
slice_of message literals s = cond s.literal literals message

abbrev pub span_fits : (message literals : List ℕ) → Span → Bool
span_fits message literals s = leb (s.start + s.length) (length (slice_of message literals s))

-- 'Text is where it stands: its bytes are handed out as a part of the message or of the literals, never a copy'. Of 'a part that doesn't fit the
-- slice it names' they are 'an empty part at the start of the message'. These are the bytes; where the part stands is `text_place` of crate values
unfoldable pub span_bytes : (message literals : List ℕ) → Span → List ℕ
span_bytes message literals s =
    cond (span_fits message literals s) (take s.length (drop s.start (slice_of message literals s))) []

-- 'Asking for the bytes of an absent or other value .. gives an empty part at the start of the message'
unfoldable pub text_bytes : (message literals : List ℕ) → Value → List ℕ
text_bytes message literals Val.Absent = []
text_bytes message literals (Val.Bool b) = []
text_bytes message literals (Val.Integer z) = []
text_bytes message literals (Val.Text s) = span_bytes message literals s

-- 'Two Texts are equal when their bytes are the same, wherever they stand'
unfoldable pub same_texts : (message literals : List ℕ) → Span → Span → Bool
same_texts message literals s t = same (span_bytes message literals s) (span_bytes message literals t)

-- ════ What an expression gives ════

-- a value; or the run ends at once, at a node. (A list of expressions gives a list of values.)
pub data Evaluated (A : Type 0) : Type 0 where
  value : A → Evaluated A
  ends : Ending → (node : ℕ) → Evaluated A

-- a value goes on; an end is an end
abbrev pub after : {A B : Type 0} → Evaluated A → (A → Evaluated B) → Evaluated B
after (value v) f = f v
after (ends why k) f = ends why k

-- 'an operand has the wrong type or equal gets two types (the operator)'
abbrev pub stuck : {A : Type 0} → ℕ → Evaluated A
stuck k = ends Stuck k

-- the operator k wants an Integer, a Bool, a Text
abbrev pub want_integer : ℕ → Value → (ℤ → Evaluated Value) → Evaluated Value
want_integer k Val.Absent f = stuck k
want_integer k (Val.Bool b) f = stuck k
want_integer k (Val.Integer z) f = f z
want_integer k (Val.Text s) f = stuck k

abbrev pub want_bool : ℕ → Value → (Bool → Evaluated Value) → Evaluated Value
want_bool k Val.Absent f = stuck k
want_bool k (Val.Bool b) f = f b
want_bool k (Val.Integer z) f = stuck k
want_bool k (Val.Text s) f = stuck k

abbrev pub want_text : ℕ → Value → (Span → Evaluated Value) → Evaluated Value
want_text k Val.Absent f = stuck k
want_text k (Val.Bool b) f = stuck k
want_text k (Val.Integer z) f = stuck k
want_text k (Val.Text s) f = f s

abbrev pub integers : ℕ → Value → Value → (ℤ → ℤ → Evaluated Value) → Evaluated Value
integers k v w f = want_integer k v (λ a. want_integer k w (λ b. f a b))

-- 'an unset slot is read (the slot node)'
abbrev pub present : ℕ → Value → Evaluated Value
present k Val.Absent = stuck k
present k (Val.Bool b) = value (Val.Bool b)
present k (Val.Integer z) = value (Val.Integer z)
present k (Val.Text s) = value (Val.Text s)

abbrev pub number_at : ℕ → Number → Evaluated Value
number_at k (Ok z) = value (Val.Integer z)
number_at k (Err why) = ends (AtFault why) k

abbrev pub truth : Bool → Evaluated Value
truth b = value (Val.Bool b)

abbrev pub same_integer : ℤ → ℤ → Bool
same_integer (pos a) (pos b) = eqb a b
same_integer (pos a) (negsuc b) = false
same_integer (negsuc a) (pos b) = false
same_integer (negsuc a) (negsuc b) = eqb a b

module _ (message literals : List ℕ) where
  -- equal takes two values of one type
  unfoldable pub equal : ℕ → Value → Value → Evaluated Value
  equal k Val.Absent w = stuck k
  equal k (Val.Bool a) w = want_bool k w (λ b. truth (beq a b))
  equal k (Val.Integer a) w = want_integer k w (λ b. truth (same_integer a b))
  equal k (Val.Text a) w = want_text k w (λ b. truth (same_texts message literals a b))

  -- 'And, or look at the left value first: if it isn't Bool that is STUCK at once, and if it decides the right stays unevaluated'
  unfoldable pub look_left : Operator → ℕ → Value → Evaluated Value → Evaluated Value
  look_left (Calculate _) k v rest = rest
  look_left Equal k v rest = rest
  look_left Greater k v rest = rest
  look_left And k v rest = want_bool k v (λ b. cond b rest (truth false))
  look_left Or k v rest = want_bool k v (λ b. cond b (truth true) rest)

  -- 'types are looked at after the operands'; and, or have looked at the left one already and give the right
  unfoldable pub operate : Operator → ℕ → Value → Value → Evaluated Value
  operate (Calculate op) k v w = integers k v w (λ a b. number_at k (calculated op a b))
  operate Equal k v w = equal k v w
  operate Greater k v w = integers k v w (λ a b. truth (lt_z b a))
  operate And k v w = want_bool k w (λ b. truth b)
  operate Or k v w = want_bool k w (λ b. truth b)

-- the operator not
unfoldable pub negated : ℕ → Value → Evaluated Value
negated k v = want_bool k v (λ b. truth (not b))
