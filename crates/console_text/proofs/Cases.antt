-- Case A of document 01 as the console reads and prints it, and what the page says of printing that case A doesn't show. All of it is computed.
-- Assumes nothing.
use mathlib.Core.Path.{◌≡◌, refl}
use mathlib.Core.List.{List, [], ◌∷◌, map}
use mathlib.Core.Bool.{true, false}
use Prim.Native.Nat.{ℕ, ◌<◌}
use lib.IntN.{pos, negsuc}
use lib.ListN.{length}
use borrow.Author.Tests.{lt-ltb}
use Rattle.laws.specs.Counting.{tabulate, smallest_failing, how_many}
use Rattle.grammar.specs.declared.Value.{Value}
use Rattle.grammar.specs.declared.Value.TheVariants as Val
use Rattle.grammar.specs.Words.{nodes, node_for, node_at}
use Rattle.grammar.specs.Tree.{node, expr_of, parsing_of, expr_with, expr_at, parsing_with, parsing_at, rule_at, grammar_of}
use Rattle.grammar.specs.Form as F
use Rattle.grammar.specs.Types as T
use Rattle.grammar.specs.Values as L
use Rattle.grammar.specs.Run as R
use Rattle.grammar.specs.Answer as A
use Rattle.text.specs.Found.{after_key, digit, grown, number_from, number, hex_value, pair_value, pairs}
use Rattle.text.specs.Written.{digits, decimal, signed_decimal, hex_digit, hex}
use Rattle.listing.specs.Listing.{ending}
use Rattle.listing.specs.Reading.{numbers_at, line_at, lines_at, count_at, literals_at, head_at, body_at}
use Rattle.listing.specs.Plain.{first_lines}
use Rattle.console_text.specs.Asked.{mode_line, budget_at, message_at, table_at, said}
use Rattle.console_text.specs.Printed.{number_line, text_text, value_text, value_line, number_lines, value_lines, answer_lines}
use Rattle.console_text.specs.Console.{longest_input, answer_to, console_answer, printed, console_text}

-- ════ Case A ════

unfoldable pub input_a : List ℕ
input_a =
    109 ∷ 111 ∷ 100 ∷ 101 ∷ 61 ∷ 100 ∷ 105 ∷ 115 ∷ 112 ∷ 108 ∷ 97 ∷ 121 ∷ 10  -- `mode=display`
    ∷ 98 ∷ 117 ∷ 100 ∷ 103 ∷ 101 ∷ 116 ∷ 61 ∷ 50 ∷ 10  -- `budget=2`
    ∷ 109 ∷ 101 ∷ 115 ∷ 115 ∷ 97 ∷ 103 ∷ 101 ∷ 61 ∷ 52 ∷ 55 ∷ 51 ∷ 49 ∷ 10  -- `message=4731`
    ∷ 114 ∷ 117 ∷ 108 ∷ 101 ∷ 115 ∷ 61 ∷ 49 ∷ 10  -- `rules=1`
    ∷ 110 ∷ 111 ∷ 100 ∷ 101 ∷ 115 ∷ 61 ∷ 51 ∷ 10  -- `nodes=3`
    ∷ 108 ∷ 105 ∷ 116 ∷ 101 ∷ 114 ∷ 97 ∷ 108 ∷ 115 ∷ 61 ∷ 10  -- `literals=`
    ∷ 114 ∷ 117 ∷ 108 ∷ 101 ∷ 61 ∷ 49 ∷ 32 ∷ 48 ∷ 32 ∷ 48 ∷ 32 ∷ 48 ∷ 32 ∷ 48 ∷ 32 ∷ 48 ∷ 32 ∷ 49 ∷ 32 ∷ 50 ∷ 32 ∷ 48 ∷ 32 ∷ 48 ∷ 32 ∷ 48 ∷ 32 ∷ 51 ∷ 32 ∷ 48 ∷ 32 ∷ 48 ∷ 32 ∷ 48 ∷ 10  -- `rule=1 0 0 0 0 0 1 2 0 0 0 3 0 0 0`
    ∷ 110 ∷ 111 ∷ 100 ∷ 101 ∷ 61 ∷ 50 ∷ 32 ∷ 55 ∷ 49 ∷ 32 ∷ 48 ∷ 32 ∷ 48 ∷ 32 ∷ 48 ∷ 32 ∷ 48 ∷ 32 ∷ 48 ∷ 32 ∷ 48 ∷ 32 ∷ 48 ∷ 32 ∷ 48 ∷ 10  -- `node=2 71 0 0 0 0 0 0 0 0`
    ∷ 110 ∷ 111 ∷ 100 ∷ 101 ∷ 61 ∷ 56 ∷ 32 ∷ 48 ∷ 32 ∷ 48 ∷ 32 ∷ 48 ∷ 32 ∷ 48 ∷ 32 ∷ 48 ∷ 32 ∷ 48 ∷ 32 ∷ 48 ∷ 32 ∷ 48 ∷ 32 ∷ 48 ∷ 10  -- `node=8 0 0 0 0 0 0 0 0 0`
    ∷ 110 ∷ 111 ∷ 100 ∷ 101 ∷ 61 ∷ 49 ∷ 57 ∷ 32 ∷ 48 ∷ 32 ∷ 48 ∷ 32 ∷ 48 ∷ 32 ∷ 48 ∷ 32 ∷ 48 ∷ 32 ∷ 48 ∷ 32 ∷ 48 ∷ 32 ∷ 48 ∷ 32 ∷ 48 ∷ 10  -- `node=19 0 0 0 0 0 0 0 0 0`
    ∷ []

unfoldable pub printed_a : List ℕ
printed_a =
    97 ∷ 110 ∷ 115 ∷ 119 ∷ 101 ∷ 114 ∷ 61 ∷ 48 ∷ 10  -- `answer=0`
    ∷ 112 ∷ 108 ∷ 97 ∷ 99 ∷ 101 ∷ 61 ∷ 48 ∷ 10  -- `place=0`
    ∷ 99 ∷ 111 ∷ 110 ∷ 115 ∷ 117 ∷ 109 ∷ 101 ∷ 100 ∷ 61 ∷ 49 ∷ 10  -- `consumed=1`
    ∷ 118 ∷ 105 ∷ 115 ∷ 105 ∷ 116 ∷ 115 ∷ 61 ∷ 50 ∷ 10  -- `visits=2`
    ∷ 118 ∷ 97 ∷ 108 ∷ 117 ∷ 101 ∷ 61 ∷ 51 ∷ 32 ∷ 52 ∷ 55 ∷ 10  -- `value=3 47`
    ∷ 118 ∷ 97 ∷ 108 ∷ 117 ∷ 101 ∷ 61 ∷ 48 ∷ 10  -- `value=0`
    ∷ 118 ∷ 97 ∷ 108 ∷ 117 ∷ 101 ∷ 61 ∷ 48 ∷ 10  -- `value=0`
    ∷ 118 ∷ 97 ∷ 108 ∷ 117 ∷ 101 ∷ 61 ∷ 48 ∷ 10  -- `value=0`
    ∷ []

pub case_a : console_text input_a ≡ printed_a
unfolding input_a printed_a after_key digit grown number_from number hex_value pair_value pairs ending numbers_at line_at lines_at count_at literals_at head_at body_at mode_line budget_at message_at table_at said answer_to console_answer printed console_text digits decimal hex_digit hex number_line text_text value_text value_line number_lines value_lines answer_lines tabulate smallest_failing how_many nodes node_for node_at node expr_of parsing_of expr_with expr_at parsing_with parsing_at rule_at grammar_of F.field_sorts F.field_sort F.rule_sorts F.fits F.rule_word_ok F.node_word_ok F.word_ok F.uses_node F.word_uses F.uses F.every F.size_ok F.table_check T.expr_type T.has T.have_all T.assign T.type_of T.typed_after T.typed_rule T.untyped L.span_bytes L.text_bytes R.eval R.eval_all R.next R.with_value R.fresh R.byte_stands R.due R.returning R.visit R.admit R.apply A.number A.place A.ending_number A.type_rules A.type_check A.check A.run A.answer_of A.conclude A.answer
case_a = refl

-- ════ LINE and INPUT ════

-- 'every other answer prints these eight lines'; 'LINE counts from the first line': of case A the first six lines alone, so that the first rule is missing
unfoldable pub printed_line : List ℕ
printed_line =
    97 ∷ 110 ∷ 115 ∷ 119 ∷ 101 ∷ 114 ∷ 61 ∷ 50 ∷ 48 ∷ 10  -- `answer=20`
    ∷ 112 ∷ 108 ∷ 97 ∷ 99 ∷ 101 ∷ 61 ∷ 55 ∷ 10  -- `place=7`
    ∷ 99 ∷ 111 ∷ 110 ∷ 115 ∷ 117 ∷ 109 ∷ 101 ∷ 100 ∷ 61 ∷ 48 ∷ 10  -- `consumed=0`
    ∷ 118 ∷ 105 ∷ 115 ∷ 105 ∷ 116 ∷ 115 ∷ 61 ∷ 48 ∷ 10  -- `visits=0`
    ∷ 118 ∷ 97 ∷ 108 ∷ 117 ∷ 101 ∷ 61 ∷ 48 ∷ 10  -- `value=0`
    ∷ 118 ∷ 97 ∷ 108 ∷ 117 ∷ 101 ∷ 61 ∷ 48 ∷ 10  -- `value=0`
    ∷ 118 ∷ 97 ∷ 108 ∷ 117 ∷ 101 ∷ 61 ∷ 48 ∷ 10  -- `value=0`
    ∷ 118 ∷ 97 ∷ 108 ∷ 117 ∷ 101 ∷ 61 ∷ 48 ∷ 10  -- `value=0`
    ∷ []

pub line_missing : console_text (first_lines 6 input_a) ≡ printed_line
unfolding input_a printed_line first_lines after_key digit grown number_from number hex_value pair_value pairs ending numbers_at line_at lines_at count_at literals_at head_at body_at mode_line budget_at message_at table_at said console_answer printed console_text digits decimal hex_digit hex number_line text_text value_text value_line number_lines value_lines answer_lines
line_missing = refl

-- 'INPUT comes before all else and prints `answer=23` alone', whatever the input's bytes
unfoldable pub printed_input : List ℕ
printed_input =
    97 ∷ 110 ∷ 115 ∷ 119 ∷ 101 ∷ 114 ∷ 61 ∷ 50 ∷ 51 ∷ 10  -- `answer=23`
    ∷ []

pub input_alone : (input : List ℕ) → longest_input < length input → console_text input ≡ printed_input
unfolding printed_input console_answer printed console_text number_line decimal digits
input_alone input h = rw (lt-ltb longest_input (length input) h)

-- ════ Values ════

-- 'A value is its type, then 0 or 1, a decimal, or hex (nothing after `3` if empty). 0 is absent': values, and how they are printed. The message is the bytes
-- 71 and 49, the literals are the bytes 10 and 255
unfoldable pub values : List (Value × List ℕ)
values =
    (Val.Absent, 48 ∷ [])  -- `0`
    ∷ (Val.Bool false, 49 ∷ 32 ∷ 48 ∷ [])  -- `1 0`
    ∷ (Val.Bool true, 49 ∷ 32 ∷ 49 ∷ [])  -- `1 1`
    ∷ (Val.Integer (pos 0), 50 ∷ 32 ∷ 48 ∷ [])  -- `2 0`
    ∷ (Val.Integer (pos 2147483647), 50 ∷ 32 ∷ 50 ∷ 49 ∷ 52 ∷ 55 ∷ 52 ∷ 56 ∷ 51 ∷ 54 ∷ 52 ∷ 55 ∷ [])  -- `2 2147483647`
    ∷ (Val.Integer (negsuc 2), 50 ∷ 32 ∷ 45 ∷ 51 ∷ [])  -- `2 -3`
    ∷ (Val.Integer (negsuc 2147483647), 50 ∷ 32 ∷ 45 ∷ 50 ∷ 49 ∷ 52 ∷ 55 ∷ 52 ∷ 56 ∷ 51 ∷ 54 ∷ 52 ∷ 56 ∷ [])  -- `2 -2147483648`
    ∷ (Val.Text (record { literal = false; start = 1; length = 0 }), 51 ∷ [])  -- `3`
    ∷ (Val.Text (record { literal = false; start = 0; length = 2 }), 51 ∷ 32 ∷ 52 ∷ 55 ∷ 51 ∷ 49 ∷ [])  -- `3 4731`
    ∷ (Val.Text (record { literal = true; start = 0; length = 2 }), 51 ∷ 32 ∷ 48 ∷ 97 ∷ 102 ∷ 102 ∷ [])  -- `3 0aff`
    ∷ []

pub values_printed : map (λ (c : Value × List ℕ). value_text (71 ∷ 49 ∷ []) (10 ∷ 255 ∷ []) c.0) values ≡ map (λ (c : Value × List ℕ). c.1) values
unfolding values digits decimal signed_decimal hex_digit hex L.span_bytes L.text_bytes text_text value_text
values_printed = refl
