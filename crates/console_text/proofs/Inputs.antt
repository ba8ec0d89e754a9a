-- What the console reads and prints beyond case A, line by line, and the plain meaning's own words for case A: cases that the prover computes, written out from
-- document 01, 'Listing and console'. Assumes nothing.
use Rattle.std.specs.Prelude.{Some, None}
use mathlib.Core.Path.{◌≡◌, refl}
use mathlib.Core.List.{List, [], ◌∷◌, ◌++◌, map}
use mathlib.Core.Bool.{true, false}
use Prim.Native.Nat.{ℕ}
use lib.IntN.{negsuc}
use lib.ListN.{replicate}
use Rattle.laws.specs.Stores.{over}
use Rattle.grammar.specs.declared.Mode.TheVariants.{Bench, Display}
use Rattle.grammar.specs.declared.Value.TheVariants as Val
use Rattle.grammar.specs.declared.Answer.{Answer}
use Rattle.grammar.specs.Form.{every}
use Rattle.grammar.specs.Values.{span_bytes, text_bytes}
use Rattle.text.specs.Stored.{taking}
use Rattle.text.specs.Found.{after_key, digit, grown, number_from, number, hex_value, pair_value, pairs}
use Rattle.text.specs.Written.{digits, decimal, signed_decimal, hex_digit, hex}
use Rattle.listing.specs.Listing.{ending, numbers, line, record_lines, literals_line, head_lines, body_lines, listing}
use Rattle.listing.specs.Reading.{numbers_at, line_at, lines_at, count_at, literals_at, head_at, body_at}
use Rattle.listing.specs.Plain.{first_lines}
use Rattle.console_text.specs.Asked.{says, wrong_line, Asked, mode_line, budget_at, message_at, table_at, said}
use Rattle.console_text.specs.Printed.{number_line, text_text, value_text, value_line, number_lines, value_lines, answer_lines}
use Rattle.console_text.specs.Console.{too_long, wrong_at, console_answer, printed, console_text}
use Rattle.console_text.specs.Lent.{lent, enough, room_for, afterwards, responded, respond}
use Rattle.console_text.specs.Plain.{spelt}
use Rattle.console_text.proofs.Cases.{input_a, printed_input}

-- ════ Case A ════

abbrev asked_a : Asked
asked_a =
    record {
      mode = Display;
      budget = 2;
      message = 71 ∷ 49 ∷ [];
      table =
          record {
            words =
                1 ∷ 3 ∷ 0
                ∷ 1 ∷ 0 ∷ 0 ∷ 0 ∷ 0 ∷ 0 ∷ 1 ∷ 2 ∷ 0 ∷ 0 ∷ 0 ∷ 3 ∷ 0 ∷ 0 ∷ 0
                ∷ 2 ∷ 71 ∷ 0 ∷ 0 ∷ 0 ∷ 0 ∷ 0 ∷ 0 ∷ 0 ∷ 0
                ∷ 8 ∷ 0 ∷ 0 ∷ 0 ∷ 0 ∷ 0 ∷ 0 ∷ 0 ∷ 0 ∷ 0
                ∷ 19 ∷ 0 ∷ 0 ∷ 0 ∷ 0 ∷ 0 ∷ 0 ∷ 0 ∷ 0 ∷ 0
                ∷ [];
            literals = [];
          };
    }

pub asked_a_lem : said input_a ≡ says asked_a
unfolding input_a said mode_line budget_at message_at table_at head_at body_at count_at literals_at lines_at line_at numbers_at ending after_key number number_from grown digit pairs pair_value hex_value
asked_a_lem = refl

pub spelt_a : spelt asked_a ≡ input_a
unfolding input_a spelt number_line listing head_lines body_lines literals_line record_lines line numbers ending hex hex_digit decimal digits
spelt_a = refl

-- ════ LINE ════

-- 'LINE counts from the first line': case A without its last line, without its last two, and so on; and with a byte more, one more line
pub lines_missing :
    map (λ (n : ℕ). said (first_lines n input_a)) (0 ∷ 1 ∷ 2 ∷ 3 ∷ 4 ∷ 5 ∷ 6 ∷ 7 ∷ 8 ∷ 9 ∷ [])
    ≡ wrong_line 1 ∷ wrong_line 2 ∷ wrong_line 3 ∷ wrong_line 4 ∷ wrong_line 5 ∷ wrong_line 6 ∷ wrong_line 7 ∷ wrong_line 8 ∷ wrong_line 9 ∷ wrong_line 10 ∷ []
unfolding input_a first_lines said mode_line budget_at message_at table_at head_at body_at count_at literals_at lines_at line_at numbers_at ending after_key number number_from grown digit pairs pair_value hex_value
lines_missing = refl

pub a_line_more : said (input_a ++ (10 ∷ [])) ≡ wrong_line 11
unfolding input_a said mode_line budget_at message_at table_at head_at body_at count_at literals_at lines_at line_at numbers_at ending after_key number number_from grown digit pairs pair_value hex_value
a_line_more = refl

-- ════ The first three lines ════

-- '`mode=` (bench or display)'; the third without byte 10
pub modes :
    map mode_line
    ((109 ∷ 111 ∷ 100 ∷ 101 ∷ 61 ∷ 98 ∷ 101 ∷ 110 ∷ 99 ∷ 104 ∷ 10 ∷ [])  -- `mode=bench`
    ∷ (109 ∷ 111 ∷ 100 ∷ 101 ∷ 61 ∷ 100 ∷ 105 ∷ 115 ∷ 112 ∷ 108 ∷ 97 ∷ 121 ∷ 10 ∷ [])  -- `mode=display`
    ∷ (109 ∷ 111 ∷ 100 ∷ 101 ∷ 61 ∷ 98 ∷ 101 ∷ 110 ∷ 99 ∷ 104 ∷ [])  -- `mode=bench`
    ∷ (109 ∷ 111 ∷ 100 ∷ 101 ∷ 61 ∷ 10 ∷ [])  -- `mode=`
    ∷ (109 ∷ 111 ∷ 100 ∷ 101 ∷ 61 ∷ 66 ∷ 101 ∷ 110 ∷ 99 ∷ 104 ∷ 10 ∷ [])  -- `mode=Bench`
    ∷ (109 ∷ 111 ∷ 100 ∷ 101 ∷ 61 ∷ 100 ∷ 105 ∷ 115 ∷ 112 ∷ 108 ∷ 97 ∷ 121 ∷ 115 ∷ 10 ∷ [])  -- `mode=displays`
    ∷ (98 ∷ 117 ∷ 100 ∷ 103 ∷ 101 ∷ 116 ∷ 61 ∷ 50 ∷ 10 ∷ [])  -- `budget=2`
    ∷ [])
    ≡ Some (Bench, 11) ∷ Some (Display, 13) ∷ None ∷ None ∷ None ∷ None ∷ None ∷ []
unfolding mode_line after_key
modes = refl

-- 'Budget is a decimal up to 4294967295, no leading zero'
pub budgets :
    map (λ (l : List ℕ). budget_at l 0)
    ((98 ∷ 117 ∷ 100 ∷ 103 ∷ 101 ∷ 116 ∷ 61 ∷ 48 ∷ 10 ∷ [])  -- `budget=0`
    ∷ (98 ∷ 117 ∷ 100 ∷ 103 ∷ 101 ∷ 116 ∷ 61 ∷ 52 ∷ 50 ∷ 57 ∷ 52 ∷ 57 ∷ 54 ∷ 55 ∷ 50 ∷ 57 ∷ 53 ∷ 10 ∷ [])  -- `budget=4294967295`
    ∷ (98 ∷ 117 ∷ 100 ∷ 103 ∷ 101 ∷ 116 ∷ 61 ∷ 52 ∷ 50 ∷ 57 ∷ 52 ∷ 57 ∷ 54 ∷ 55 ∷ 50 ∷ 57 ∷ 54 ∷ 10 ∷ [])  -- `budget=4294967296`
    ∷ (98 ∷ 117 ∷ 100 ∷ 103 ∷ 101 ∷ 116 ∷ 61 ∷ 48 ∷ 50 ∷ 10 ∷ [])  -- `budget=02`
    ∷ (98 ∷ 117 ∷ 100 ∷ 103 ∷ 101 ∷ 116 ∷ 61 ∷ 10 ∷ [])  -- `budget=`
    ∷ (98 ∷ 117 ∷ 100 ∷ 103 ∷ 101 ∷ 116 ∷ 61 ∷ 50 ∷ 32 ∷ 10 ∷ [])  -- `budget=2 `
    ∷ (114 ∷ 117 ∷ 108 ∷ 101 ∷ 115 ∷ 61 ∷ 50 ∷ 10 ∷ [])  -- `rules=2`
    ∷ [])
    ≡ Some (0, 9) ∷ Some (4294967295, 18) ∷ None ∷ None ∷ None ∷ None ∷ None ∷ []
unfolding budget_at after_key number number_from grown digit
budgets = refl

-- '`message=` (hex)'
pub messages :
    map (λ (l : List ℕ). message_at l 0)
    ((109 ∷ 101 ∷ 115 ∷ 115 ∷ 97 ∷ 103 ∷ 101 ∷ 61 ∷ 10 ∷ [])  -- `message=`
    ∷ (109 ∷ 101 ∷ 115 ∷ 115 ∷ 97 ∷ 103 ∷ 101 ∷ 61 ∷ 52 ∷ 55 ∷ 51 ∷ 49 ∷ 10 ∷ [])  -- `message=4731`
    ∷ (109 ∷ 101 ∷ 115 ∷ 115 ∷ 97 ∷ 103 ∷ 101 ∷ 61 ∷ 48 ∷ 97 ∷ 102 ∷ 102 ∷ 10 ∷ [])  -- `message=0aff`
    ∷ [])
    ≡ taking [] (Some (0, 9)) ∷ taking (71 ∷ 49 ∷ []) (Some (2, 13)) ∷ taking (10 ∷ 255 ∷ []) (Some (2, 13)) ∷ []
unfolding message_at after_key pairs pair_value hex_value digit
messages = refl

-- 'all hex is lower-case pairs': the fourth without byte 10
pub no_messages :
    map (λ (l : List ℕ). (message_at l 0).found)
    ((109 ∷ 101 ∷ 115 ∷ 115 ∷ 97 ∷ 103 ∷ 101 ∷ 61 ∷ 48 ∷ 65 ∷ 70 ∷ 70 ∷ 10 ∷ [])  -- `message=0AFF`
    ∷ (109 ∷ 101 ∷ 115 ∷ 115 ∷ 97 ∷ 103 ∷ 101 ∷ 61 ∷ 52 ∷ 55 ∷ 51 ∷ 10 ∷ [])  -- `message=473`
    ∷ (109 ∷ 101 ∷ 115 ∷ 115 ∷ 97 ∷ 103 ∷ 101 ∷ 61 ∷ 52 ∷ 55 ∷ 32 ∷ 51 ∷ 49 ∷ 10 ∷ [])  -- `message=47 31`
    ∷ (109 ∷ 101 ∷ 115 ∷ 115 ∷ 97 ∷ 103 ∷ 101 ∷ 61 ∷ 52 ∷ 55 ∷ 51 ∷ 49 ∷ [])  -- `message=4731`
    ∷ (108 ∷ 105 ∷ 116 ∷ 101 ∷ 114 ∷ 97 ∷ 108 ∷ 115 ∷ 61 ∷ 52 ∷ 55 ∷ 51 ∷ 49 ∷ 10 ∷ [])  -- `literals=4731`
    ∷ [])
    ≡ None ∷ None ∷ None ∷ None ∷ None ∷ []
unfolding message_at after_key pairs pair_value hex_value digit
no_messages = refl

-- ════ The eight lines ════

-- true, -3, an empty Text and one of the message's first byte
abbrev record1 : Answer
record1 =
    record {
      number = 1;
      place = 2;
      consumed = 3;
      visits = 4;
      values = Val.Bool true
          ∷ Val.Integer (negsuc 2)
          ∷ Val.Text (record { literal = false; start = 1; length = 0 })
          ∷ Val.Text (record { literal = false; start = 0; length = 1 })
          ∷ [];
    }

-- 'number, place, consumed, visits, four values'
pub eight_lines :
    answer_lines (71 ∷ 49 ∷ []) [] record1
    ≡ 97 ∷ 110 ∷ 115 ∷ 119 ∷ 101 ∷ 114 ∷ 61 ∷ 49 ∷ 10  -- `answer=1`
    ∷ 112 ∷ 108 ∷ 97 ∷ 99 ∷ 101 ∷ 61 ∷ 50 ∷ 10  -- `place=2`
    ∷ 99 ∷ 111 ∷ 110 ∷ 115 ∷ 117 ∷ 109 ∷ 101 ∷ 100 ∷ 61 ∷ 51 ∷ 10  -- `consumed=3`
    ∷ 118 ∷ 105 ∷ 115 ∷ 105 ∷ 116 ∷ 115 ∷ 61 ∷ 52 ∷ 10  -- `visits=4`
    ∷ 118 ∷ 97 ∷ 108 ∷ 117 ∷ 101 ∷ 61 ∷ 49 ∷ 32 ∷ 49 ∷ 10  -- `value=1 1`
    ∷ 118 ∷ 97 ∷ 108 ∷ 117 ∷ 101 ∷ 61 ∷ 50 ∷ 32 ∷ 45 ∷ 51 ∷ 10  -- `value=2 -3`
    ∷ 118 ∷ 97 ∷ 108 ∷ 117 ∷ 101 ∷ 61 ∷ 51 ∷ 10  -- `value=3`
    ∷ 118 ∷ 97 ∷ 108 ∷ 117 ∷ 101 ∷ 61 ∷ 51 ∷ 32 ∷ 52 ∷ 55 ∷ 10  -- `value=3 47`
    ∷ []
unfolding answer_lines number_lines value_lines number_line value_line value_text text_text span_bytes text_bytes hex hex_digit signed_decimal decimal digits
eight_lines = refl

-- ════ INPUT, and slices that are too short ════

-- 'console input over 65,536 bytes'
pub longest_input : map console_answer (replicate 65536 48 ∷ replicate 65537 48 ∷ []) ≡ wrong_at 1 ∷ too_long ∷ []
unfolding console_answer said mode_line after_key
longest_input = refl

abbrev output_of : ℕ → List ℕ
output_of n = replicate n 7

-- 'INPUT comes before all else': ten bytes of the output are enough for it, nine are not; what stands behind the line stays
pub input_before_all :
    map (λ (n : ℕ). respond (replicate 65537 48) (lent [] [] [] [] (output_of n))) (12 ∷ 9 ∷ [])
    ≡ responded (Some 10) (lent [] [] [] [] (printed_input ++ output_of 2)) ∷ responded None (lent [] [] [] [] (output_of 9)) ∷ []
unfolding printed_input respond room_for afterwards over console_text console_answer printed number_line decimal digits
input_before_all = refl

-- every other answer wants slices that have room for every input
pub other_answers_want_room : respond [] (lent [] [] [] [] (output_of 12)) ≡ responded None (lent [] [] [] [] (output_of 12))
unfolding respond room_for enough every
other_answers_want_room = refl

-- each slice just long enough; and each in turn one too short
pub just_enough :
    enough 32768 11203 4096 9760 262253
    ∷ enough 32767 11203 4096 9760 262253
    ∷ enough 32768 11202 4096 9760 262253
    ∷ enough 32768 11203 4095 9760 262253
    ∷ enough 32768 11203 4096 9759 262253
    ∷ enough 32768 11203 4096 9760 262252
    ∷ []
    ≡ true ∷ false ∷ false ∷ false ∷ false ∷ false ∷ []
unfolding enough every
just_enough = refl
