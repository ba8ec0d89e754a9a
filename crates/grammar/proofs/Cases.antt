-- Cases beside the bench cases, each computed from the written meaning: numbers and places of refusals, the edges of the checks, runs over literals, operators,
-- a call and Texts, what each operator gives, and constraints. A slip that is made alike in meaning and code would change them. Assumes nothing.
use Rattle.std.specs.Prelude.{Err}
use mathlib.Core.Path.{◌≡◌, refl}
use mathlib.Core.List.{List, [], ◌∷◌, ◌++◌, map}
use mathlib.Core.Bool.{Bool, true, false}
use Prim.Native.Nat.{ℕ}
use lib.IntN.{ℤ, pos, negsuc}
use lib.ListN.{length}
use Rattle.laws.specs.Counting.{tabulate, smallest_failing, how_many}
use Rattle.laws.specs.Same.{same}
use Rattle.grammar.specs.declared.Arithmetic.TheVariants.{Add, Subtract, Multiply, Divide}
use Rattle.grammar.specs.declared.Operator.{Operator}
use Rattle.grammar.specs.declared.Operator.TheVariants.{Calculate, Equal, Greater, And, Or}
use Rattle.grammar.specs.declared.Fault.{Fault}
use Rattle.grammar.specs.declared.Fault.TheVariants.{Overflow, ZeroDivisor}
use Rattle.grammar.specs.declared.Ending.TheVariants.{Stuck, «Fault» as AtFault}
use Rattle.grammar.specs.declared.Value.{Value}
use Rattle.grammar.specs.declared.Value.TheVariants as Val
use Rattle.grammar.specs.declared.Mode.{Mode}
use Rattle.grammar.specs.declared.Mode.TheVariants.{Bench, Display}
use Rattle.grammar.specs.declared.Refusal.TheVariants.{Size, Field, Use, Start, Untyped, Long, Work}
use Rattle.grammar.specs.Form.{Verdict, passed}
use Rattle.grammar.specs.Numbers.{DONE}
use Rattle.grammar.specs.Words.{signed, nodes, node_for, node_at}
use Rattle.grammar.specs.Tree.{node, expr_of, parsing_of, expr_with, expr_at, parsing_with, parsing_at, rule_at, grammar_of}
use Rattle.grammar.specs.Form as F
use Rattle.grammar.specs.Types as T
use Rattle.grammar.specs.Values as L
use Rattle.grammar.specs.Values.{text_bytes, Evaluated, value, ends, present, look_left, operate, negated}
use Rattle.grammar.specs.Run as R
use Rattle.grammar.specs.Run.{Applied, matched, failed, ended, judged}
use Rattle.grammar.specs.Answer as A
use Rattle.grammar.specs.Answer.{number, place, check, type_check, answered, answer}
use Rattle.grammar.proofs.Bench.{records, body, returning, empty, terminal, sequence, bind, constraint, integer, bool, slot, update, add, equal, table_a}

-- ════ 'Numbers that come back': number and place ════

pub refusals :
    map (λ v. number v ∷ place v ∷ []) (passed ∷ Err Size ∷ Err (Field 20) ∷ Err (Use 30) ∷ Err Start ∷ Err (Untyped 40) ∷ Err Long ∷ Err Work ∷ [])
    ≡ (0 ∷ 0 ∷ []) ∷ (1 ∷ 0 ∷ []) ∷ (2 ∷ 20 ∷ []) ∷ (3 ∷ 30 ∷ []) ∷ (4 ∷ 0 ∷ []) ∷ (5 ∷ 40 ∷ []) ∷ (6 ∷ 0 ∷ []) ∷ (7 ∷ 0 ∷ []) ∷ []
unfolding number place A.refusal_number A.refusal_place
refusals = refl

-- ════ 'Integer (high word, low word, signed 32-bit two's complement)' ════

pub integers :
    signed 0 0 ∷ signed 1 2 ∷ signed 32767 65535 ∷ signed 32768 0 ∷ signed 65535 65535 ∷ []
    ≡ pos 0 ∷ pos 65538 ∷ pos 2147483647 ∷ negsuc 2147483647 ∷ negsuc 0 ∷ []
unfolding signed
integers = refl

-- ════ Tables ════

-- a table from its rules' records, its nodes' records and the number of its literal bytes
abbrev table_of : List (List ℕ) → List (List ℕ) → ℕ → List ℕ
table_of rules ns literal_bytes = (length rules ∷ length ns ∷ literal_bytes ∷ []) ++ (records 15 rules ++ records 10 ns)

-- a rule that inherits an Integer
abbrev inheriting : ℕ → List ℕ
inheriting b = b ∷ 1 ∷ 2 ∷ []

abbrev textual : ℕ → ℕ → List ℕ
textual start size = 18 ∷ start ∷ size ∷ []

-- a call of rule 1 with an argument
abbrev calling : ℕ → List ℕ
calling argument = 7 ∷ 1 ∷ argument ∷ []

-- empty, returning a Text of three literal bytes. Its node record begins at word 28: start at 29, length at 30
abbrev literal_at : ℕ → ℕ → List ℕ
literal_at start size = table_of (returning 0 1 3 ∷ []) (empty ∷ textual start size ∷ []) 3

-- rule 0 calls rule 1 with node 0
abbrev called : List ℕ
called = table_of (body 1 ∷ inheriting 2 ∷ []) (integer 0 7 ∷ calling 0 ∷ empty ∷ []) 0

-- the same, and the argument is a constraint's operand too
abbrev called_twice : List ℕ
called_twice = table_of (body 3 ∷ inheriting 4 ∷ []) (bool 1 ∷ calling 0 ∷ constraint 0 ∷ sequence 1 2 ∷ empty ∷ []) 0

-- node 0 is used by both parts of node 1, and once more by node 2
abbrev used_thrice : List ℕ
used_thrice = table_of (body 2 ∷ []) (empty ∷ sequence 0 0 ∷ sequence 1 0 ∷ []) 0

-- node 1 is used by nothing
abbrev unused : List ℕ
unused = table_of (body 0 ∷ []) (empty ∷ empty ∷ []) 0

-- two refusals at once: rule 0 inherits, and node 1 is used by nothing
abbrev inherits_too : List ℕ
inherits_too = table_of (inheriting 0 ∷ []) (empty ∷ empty ∷ []) 0

-- ════ The cases ════

pub record Case : Type 0 where
  pub mode : Mode
  pub words : List ℕ
  pub literals : List ℕ
  pub message_length : ℕ
  pub work_length : ℕ
  pub expected : Verdict

pub given : Case → Verdict
given c = check c.mode c.words c.literals c.message_length c.work_length

-- a bench run of a table, of a message of no bytes, in a work area of W words
abbrev table_gives : List ℕ → List ℕ → Verdict → Case
table_gives words literals v = record { mode = Bench; words = words; literals = literals; message_length = 0; work_length = 9760; expected = v }

-- a display run of case A's table, of a message and in a work area of these lengths
abbrev lengths_give : (message_length work_length : ℕ) → Verdict → Case
lengths_give message_length work_length v =
    record { mode = Display; words = table_a; literals = []; message_length = message_length; work_length = work_length; expected = v }

abbrev three : List ℕ
three = 97 ∷ 98 ∷ 99 ∷ []

pub cases : List Case
cases =
    lengths_give 65535 9760 passed  -- 'message over 65,535 bytes'
    ∷ lengths_give 65536 9760 (Err Long)
    ∷ lengths_give 65535 9759 (Err Work)  -- 'work area under W words'
    ∷ lengths_give 65536 9759 (Err Long)  -- '6, 7'
    ∷ table_gives (literal_at 0 3) three passed  -- 'Text (start, length in the literals, end at most L)'
    ∷ table_gives (literal_at 3 0) three passed
    ∷ table_gives (literal_at 4 0) three (Err (Field 29))  -- 'a start over L is the bad word; else an end over L makes the length the bad word'
    ∷ table_gives (literal_at 3 1) three (Err (Field 30))
    ∷ table_gives (literal_at 0 4) three (Err (Field 30))
    ∷ table_gives (literal_at 0 3) [] (Err Size)  -- 'literal bytes not L'
    ∷ table_gives (table_of (body 0 ∷ []) ((1 ∷ 5 ∷ []) ∷ []) 0) [] (Err (Field 19))  -- 'Fields a kind doesn't use are 0'
    ∷ table_gives (table_of ((0 ∷ 0 ∷ 1 ∷ []) ∷ []) (empty ∷ []) 0) [] (Err (Field 5))  -- 'Places past n or m hold 0'
    ∷ table_gives (table_of ((0 ∷ 0 ∷ 0 ∷ 0 ∷ 0 ∷ 0 ∷ 0 ∷ 1 ∷ []) ∷ []) (empty ∷ []) 0) [] (Err (Field 10))
    ∷ table_gives (table_of ((0 ∷ 0 ∷ 0 ∷ 0 ∷ 0 ∷ 0 ∷ 0 ∷ 0 ∷ 0 ∷ 0 ∷ 0 ∷ 1 ∷ []) ∷ []) (empty ∷ []) 0) [] (Err (Field 14))
    ∷ table_gives (table_of (body 0 ∷ []) ((7 ∷ 0 ∷ 1 ∷ []) ∷ []) 0) [] (Err (Field 20))
    ∷ table_gives (table_of (body 0 ∷ []) ((7 ∷ 0 ∷ 0 ∷ 0 ∷ 0 ∷ 0 ∷ 1 ∷ []) ∷ []) 0) [] (Err (Field 24))
    ∷ table_gives (table_of (body 0 ∷ []) (terminal 255 ∷ []) 0) [] passed  -- 'terminal (a byte)'
    ∷ table_gives (table_of (body 0 ∷ []) (terminal 256 ∷ []) 0) [] (Err (Field 19))
    ∷ table_gives (table_of (body 1 ∷ []) (integer 0 1 ∷ update 15 0 ∷ []) 0) [] passed  -- 'A rule has 16 attribute slots'
    ∷ table_gives (table_of (body 1 ∷ []) (integer 0 1 ∷ update 16 0 ∷ []) 0) [] (Err (Field 29))
    ∷ table_gives (table_of (returning 0 1 1 ∷ []) (empty ∷ bool 1 ∷ []) 0) [] passed  -- 'Bool (0 or 1)'
    ∷ table_gives (table_of (returning 0 1 1 ∷ []) (empty ∷ bool 2 ∷ []) 0) [] (Err (Field 29))
    ∷ table_gives called [] passed  -- 'Each node is used exactly once: as a part, an argument, a body or a returned node'
    ∷ table_gives called_twice [] (Err (Use 0))
    ∷ table_gives used_thrice [] (Err (Use 0))
    ∷ table_gives unused [] (Err (Use 1))
    ∷ table_gives (table_of (body 0 ∷ []) (terminal 0 ∷ []) 0) [] passed  -- the byte 0 is no node
    ∷ table_gives inherits_too [] (Err (Use 1))  -- '3, 4'
    ∷ table_gives (table_of (inheriting 0 ∷ []) (empty ∷ []) 0) [] (Err Start)
    ∷ []

pub edges : map given cases ≡ map (λ (c : Case). c.expected) cases
unfolding given cases table_a tabulate smallest_failing how_many signed nodes node_for node_at expr_of parsing_of expr_with expr_at parsing_with parsing_at rule_at grammar_of F.field_sorts F.field_sort F.rule_sorts F.fits F.rule_word_ok F.node_word_ok F.word_ok F.uses_node F.word_uses F.uses F.every F.size_ok F.table_check same T.operator_type T.expr_type T.has T.have_all T.assign T.assign_all T.type_of T.typed_after T.typed_rule T.untyped A.type_rules type_check check
edges = refl

-- ════ Bools, Integers and operators ════

-- empty, returning Bool 1, Bool 0, whether 2 equals -3, and whether -3 equals 2
pub bools_table : List ℕ
bools_table = table_of ((0 ∷ 0 ∷ 0 ∷ 0 ∷ 0 ∷ 0 ∷ 4 ∷ 1 ∷ 2 ∷ 5 ∷ 8 ∷ 1 ∷ 1 ∷ 1 ∷ 1 ∷ []) ∷ [])
    (empty ∷ bool 1 ∷ bool 0
    ∷ integer 0 2 ∷ integer 65535 65533 ∷ equal 3 4
    ∷ integer 65535 65533 ∷ integer 0 2 ∷ equal 6 7 ∷ []) 0

pub bools : answer Display bools_table [] [] 1 9760 ≡ answered DONE 0 0 1 (Val.Bool true ∷ Val.Bool false ∷ Val.Bool false ∷ Val.Bool false ∷ [])
unfolding bools_table tabulate smallest_failing how_many signed nodes node_for node_at node expr_of parsing_of expr_with expr_at parsing_with parsing_at rule_at grammar_of F.field_sorts F.field_sort F.rule_sorts F.fits F.rule_word_ok F.node_word_ok F.word_ok F.uses_node F.word_uses F.uses F.every F.size_ok F.table_check same T.operator_type T.expr_type T.has T.have_all T.assign T.assign_all T.type_of T.typed_after T.typed_rule T.untyped L.span_bytes L.same_texts L.equal L.look_left L.operate R.eval R.eval_all R.next R.with_value R.fresh R.byte_stands R.due R.returning R.visit R.admit R.apply A.type_rules type_check check A.run A.answer_of A.conclude answer
bools = refl

-- empty, returning 7-3, 7×3, false or true, not true
pub operators_table : List ℕ
operators_table = table_of ((0 ∷ 0 ∷ 0 ∷ 0 ∷ 0 ∷ 0 ∷ 4 ∷ 3 ∷ 6 ∷ 9 ∷ 11 ∷ 2 ∷ 2 ∷ 1 ∷ 1 ∷ []) ∷ [])
    (empty
    ∷ integer 0 7 ∷ integer 0 3 ∷ (21 ∷ 1 ∷ 2 ∷ [])
    ∷ integer 0 7 ∷ integer 0 3 ∷ (22 ∷ 4 ∷ 5 ∷ [])
    ∷ bool 0 ∷ bool 1 ∷ (27 ∷ 7 ∷ 8 ∷ [])
    ∷ bool 1 ∷ (28 ∷ 10 ∷ []) ∷ []) 0

pub operators : answer Display operators_table [] [] 1 9760 ≡ answered DONE 0 0 1 (Val.Integer (pos 4) ∷ Val.Integer (pos 21) ∷ Val.Bool true ∷ Val.Bool false ∷ [])
unfolding operators_table tabulate smallest_failing how_many signed nodes node_for node_at node expr_of parsing_of expr_with expr_at parsing_with parsing_at rule_at grammar_of F.field_sorts F.field_sort F.rule_sorts F.fits F.rule_word_ok F.node_word_ok F.word_ok F.uses_node F.word_uses F.uses F.every F.size_ok F.table_check same T.operator_type T.expr_type T.has T.have_all T.assign T.assign_all T.type_of T.typed_after T.typed_rule T.untyped L.span_bytes L.same_texts L.equal L.look_left L.operate R.eval R.eval_all R.next R.with_value R.fresh R.byte_stands R.due R.returning R.visit R.admit R.apply A.type_rules type_check check A.run A.answer_of A.conclude answer L.fitting L.calculated L.negated
operators = refl

-- ════ A call ════

-- rule 0: x0←9, a call of rule 1 with 5, true, 7, false that receives into slots 7, 5, 11, 2, ?(x0==9); it returns these four slots. Rule 1: x0←x0+1, and it returns
-- its four slots from the last to the first
pub call_table : List ℕ
call_table = table_of ((12 ∷ 0 ∷ 0 ∷ 0 ∷ 0 ∷ 0 ∷ 4 ∷ 13 ∷ 14 ∷ 15 ∷ 16 ∷ 1 ∷ 2 ∷ 1 ∷ 2 ∷ []) ∷ (20 ∷ 4 ∷ 2 ∷ 1 ∷ 2 ∷ 1 ∷ 4 ∷ 21 ∷ 22 ∷ 23 ∷ 24 ∷ 1 ∷ 2 ∷ 1 ∷ 2 ∷ []) ∷ [])
    (integer 0 9 ∷ update 0 0
    ∷ integer 0 5 ∷ bool 1 ∷ integer 0 7 ∷ bool 0 ∷ (7 ∷ 1 ∷ 2 ∷ 3 ∷ 4 ∷ 5 ∷ 7 ∷ 5 ∷ 11 ∷ 2 ∷ [])
    ∷ slot 0 ∷ integer 0 9 ∷ equal 7 8 ∷ constraint 9
    ∷ sequence 6 10 ∷ sequence 1 11
    ∷ slot 7 ∷ slot 5 ∷ slot 11 ∷ slot 2
    ∷ slot 0 ∷ integer 0 1 ∷ add 17 18 ∷ update 0 19
    ∷ slot 3 ∷ slot 2 ∷ slot 1 ∷ slot 0 ∷ []) 0

-- 'A call evaluates its arguments, runs the body in fresh slots, evaluates the returned nodes there, then sets its receiving slots left to right'
pub a_call : answer Display call_table [] [] 6 9760 ≡ answered DONE 0 0 6 (Val.Bool false ∷ Val.Integer (pos 7) ∷ Val.Bool true ∷ Val.Integer (pos 6) ∷ [])
unfolding call_table tabulate smallest_failing how_many signed nodes node_for node_at node expr_of parsing_of expr_with expr_at parsing_with parsing_at rule_at grammar_of F.field_sorts F.field_sort F.rule_sorts F.fits F.rule_word_ok F.node_word_ok F.word_ok F.uses_node F.word_uses F.uses F.every F.size_ok F.table_check same T.operator_type T.expr_type T.has T.have_all T.assign T.assign_all T.type_of T.typed_after T.typed_rule T.untyped L.span_bytes L.same_texts L.equal L.look_left L.operate R.eval R.eval_all R.next R.with_value R.fresh R.byte_stands R.due R.returning R.visit R.admit R.apply A.type_rules type_check check A.run A.answer_of A.conclude answer R.receive R.judged L.fitting L.calculated
a_call = refl

-- ════ Texts ════

-- 'a' x='b', returning x, a Text literal of the same byte, whether the two are equal, and whether x equals another literal
pub texts_table : List ℕ
texts_table = table_of ((3 ∷ 0 ∷ 0 ∷ 0 ∷ 0 ∷ 0 ∷ 4 ∷ 4 ∷ 5 ∷ 8 ∷ 11 ∷ 3 ∷ 3 ∷ 1 ∷ 1 ∷ []) ∷ [])
    (terminal 97 ∷ terminal 98 ∷ bind 0 1 ∷ sequence 0 2
    ∷ slot 0
    ∷ textual 0 1
    ∷ slot 0 ∷ textual 0 1 ∷ equal 6 7
    ∷ slot 0 ∷ textual 1 1 ∷ equal 9 10 ∷ []) 2

-- the message "abc", and the literals "bz"
abbrev abc : List ℕ
abc = 97 ∷ 98 ∷ 99 ∷ []

abbrev bz : List ℕ
bz = 98 ∷ 122 ∷ []

abbrev part : Bool → ℕ → ℕ → Value
part literal start size = Val.Text (record { literal = literal; start = start; length = size })

pub texts : answer Display texts_table bz abc 9 9760 ≡ answered DONE 0 2 4 (part false 1 1 ∷ part true 0 1 ∷ Val.Bool true ∷ Val.Bool false ∷ [])
unfolding texts_table tabulate smallest_failing how_many signed nodes node_for node_at node expr_of parsing_of expr_with expr_at parsing_with parsing_at rule_at grammar_of F.field_sorts F.field_sort F.rule_sorts F.fits F.rule_word_ok F.node_word_ok F.word_ok F.uses_node F.word_uses F.uses F.every F.size_ok F.table_check same T.operator_type T.expr_type T.has T.have_all T.assign T.assign_all T.type_of T.typed_after T.typed_rule T.untyped L.span_bytes L.same_texts L.equal L.look_left L.operate R.eval R.eval_all R.next R.with_value R.fresh R.byte_stands R.due R.returning R.visit R.admit R.apply A.type_rules type_check check A.run A.answer_of A.conclude answer
texts = refl

-- the bytes of two parts that fit, of two that end a byte too far, and of an empty one
pub texts_bytes : map (text_bytes abc bz) (part false 1 1 ∷ part true 0 2 ∷ part false 1 3 ∷ part true 2 1 ∷ part true 2 0 ∷ []) ≡ (98 ∷ []) ∷ bz ∷ [] ∷ [] ∷ [] ∷ []
unfolding L.span_bytes text_bytes
texts_bytes = refl

-- ════ What operators make of their operands ════

-- an operator, node 7, its operands, and what it gives
pub record Operation : Type 0 where
  pub operator : Operator
  pub left : Value
  pub right : Value
  pub result : Evaluated Value

abbrev operation : Operator → Value → Value → Evaluated Value → Operation
operation op v w e = record { operator = op; left = v; right = w; result = e }

-- of two Integers; `negsuc n` is -(n + 1)
abbrev integers_give : Operator → ℤ → ℤ → Evaluated Value → Operation
integers_give op a b e = operation op (Val.Integer a) (Val.Integer b) e

abbrev is : ℤ → Evaluated Value
is z = value (Val.Integer z)

abbrev says : Bool → Evaluated Value
says b = value (Val.Bool b)

-- 'an operand has the wrong type or equal gets two types (the operator)'; '32-bit overflow or zero divisor'
abbrev is_stuck : Evaluated Value
is_stuck = ends Stuck 7

abbrev faulty : Fault → Evaluated Value
faulty why = ends (AtFault why) 7

pub operations : List Operation
operations =
    integers_give (Calculate Add) (pos 7) (negsuc 2) (is (pos 4))  -- 7 + -3
    ∷ integers_give (Calculate Subtract) (pos 7) (pos 3) (is (pos 4))
    ∷ integers_give (Calculate Subtract) (pos 3) (pos 7) (is (negsuc 3))
    ∷ integers_give (Calculate Multiply) (pos 7) (pos 3) (is (pos 21))
    ∷ integers_give (Calculate Divide) (pos 7) (pos 3) (is (pos 2))
    ∷ integers_give (Calculate Divide) (negsuc 6) (pos 3) (is (negsuc 1))  -- 'Negative division drops the fraction, toward zero': -7 by 3
    ∷ integers_give (Calculate Divide) (pos 7) (negsuc 2) (is (negsuc 1))
    ∷ integers_give (Calculate Divide) (negsuc 6) (negsuc 2) (is (pos 2))
    ∷ integers_give (Calculate Add) (pos 2147483647) (pos 1) (faulty Overflow)
    ∷ integers_give (Calculate Subtract) (negsuc 2147483647) (pos 1) (faulty Overflow)
    ∷ integers_give (Calculate Subtract) (negsuc 2147483646) (pos 1) (is (negsuc 2147483647))
    ∷ integers_give (Calculate Multiply) (pos 65536) (pos 32768) (faulty Overflow)
    ∷ integers_give (Calculate Multiply) (pos 65536) (negsuc 32767) (is (negsuc 2147483647))
    ∷ integers_give (Calculate Divide) (negsuc 2147483647) (negsuc 0) (faulty Overflow)
    ∷ integers_give (Calculate Divide) (pos 7) (pos 0) (faulty ZeroDivisor)
    ∷ operation (Calculate Add) (Val.Bool true) (Val.Integer (pos 1)) is_stuck
    ∷ operation (Calculate Add) (Val.Integer (pos 1)) (part true 0 1) is_stuck
    ∷ operation (Calculate Divide) (Val.Integer (pos 1)) Val.Absent is_stuck
    ∷ integers_give Greater (pos 3) (pos 2) (says true)
    ∷ integers_give Greater (pos 3) (pos 3) (says false)
    ∷ integers_give Greater (negsuc 2) (pos 2) (says false)
    ∷ integers_give Greater (negsuc 1) (negsuc 2) (says true)
    ∷ operation Greater (Val.Bool true) (Val.Bool false) is_stuck
    ∷ integers_give Equal (pos 3) (pos 3) (says true)  -- 'equal takes two of one type'
    ∷ integers_give Equal (pos 3) (pos 4) (says false)
    ∷ integers_give Equal (pos 3) (negsuc 3) (says false)
    ∷ integers_give Equal (negsuc 3) (pos 3) (says false)
    ∷ integers_give Equal (negsuc 3) (negsuc 3) (says true)
    ∷ integers_give Equal (negsuc 3) (negsuc 4) (says false)
    ∷ operation Equal (Val.Bool true) (Val.Bool true) (says true)
    ∷ operation Equal (Val.Bool true) (Val.Bool false) (says false)
    ∷ operation Equal (Val.Bool false) (Val.Bool true) (says false)
    ∷ operation Equal (Val.Bool false) (Val.Bool false) (says true)
    ∷ operation Equal (part false 1 1) (part true 0 1) (says true)
    ∷ operation Equal (part false 0 1) (part true 0 1) (says false)
    ∷ operation Equal (Val.Bool true) (Val.Integer (pos 1)) is_stuck
    ∷ operation Equal (Val.Integer (pos 1)) (Val.Bool true) is_stuck
    ∷ operation Equal (part false 0 1) (Val.Integer (pos 1)) is_stuck
    ∷ operation Equal (part false 0 1) (Val.Bool true) is_stuck
    ∷ operation Equal (part false 0 1) Val.Absent is_stuck
    ∷ operation Equal Val.Absent Val.Absent is_stuck
    ∷ operation And (Val.Bool true) (Val.Bool true) (says true)
    ∷ operation And (Val.Bool true) (Val.Bool false) (says false)
    ∷ operation And (Val.Bool true) (part true 0 1) is_stuck
    ∷ operation And (Val.Bool true) Val.Absent is_stuck
    ∷ operation Or (Val.Bool false) (Val.Bool true) (says true)
    ∷ operation Or (Val.Bool false) (Val.Bool false) (says false)
    ∷ operation Or (Val.Bool false) (Val.Integer (pos 1)) is_stuck
    ∷ []

pub operated :
    map (λ (o : Operation). operate abc bz o.operator 7 o.left o.right) operations ≡ map (λ (o : Operation). o.result) operations
unfolding operations L.fitting L.quotient L.calculated same L.span_bytes L.same_texts L.equal operate
operated = refl

-- 'And, or look at the left value first: if it isn't Bool that is STUCK at once, and if it decides the right stays unevaluated': before the right, which is STUCK
-- at node 9
pub looked :
    look_left abc bz And 7 (Val.Bool false) (ends Stuck 9)
    ∷ look_left abc bz Or 7 (Val.Bool true) (ends Stuck 9)
    ∷ look_left abc bz And 7 (Val.Bool true) (ends Stuck 9)
    ∷ look_left abc bz Or 7 (Val.Bool false) (ends Stuck 9)
    ∷ look_left abc bz And 7 (Val.Integer (pos 1)) (ends Stuck 9)
    ∷ look_left abc bz Or 7 (part true 0 1) (ends Stuck 9)
    ∷ look_left abc bz Equal 7 Val.Absent (ends Stuck 9)
    ∷ []
    ≡ says false ∷ says true ∷ ends Stuck 9 ∷ ends Stuck 9 ∷ is_stuck ∷ is_stuck ∷ ends Stuck 9 ∷ []
unfolding look_left
looked = refl

-- not, and 'an unset slot is read (the slot node)'
pub not_and_slots :
    negated 7 (Val.Bool true) ∷ negated 7 (Val.Bool false) ∷ negated 7 (Val.Integer (pos 0)) ∷ present 7 Val.Absent ∷ present 7 (part true 0 1) ∷ []
    ≡ says false ∷ says true ∷ is_stuck ∷ is_stuck ∷ value (part true 0 1) ∷ []
unfolding negated
not_and_slots = refl

-- a constraint, node 7, at position 5: 'a constraint isn't Bool (the constraint)'
abbrev judge : Value → Applied
judge v = judged 7 v 5 [] (record { visits = 1 })

pub constraints :
    judge (Val.Bool true) ∷ judge (Val.Bool false) ∷ judge (Val.Integer (pos 1)) ∷ judge (part true 0 1) ∷ judge Val.Absent ∷ []
    ≡ matched 5 [] (record { visits = 1 }) ∷ failed [] (record { visits = 1 })
    ∷ ended Stuck 7 (record { visits = 1 }) ∷ ended Stuck 7 (record { visits = 1 }) ∷ ended Stuck 7 (record { visits = 1 }) ∷ []
unfolding judged
constraints = refl
