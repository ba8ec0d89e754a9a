-- The answer for every input (document 01, 'Numbers that come back'): the checks in their order, the run, the record, the work area afterwards.
-- Assumes nothing.
use Rattle.std.specs.Prelude.{List, [], ◌∷◌, ◌++◌, Ok, Err, ℕ, suc, leb, get_or, length, drop, replicate}
use Rattle.grammar.specs.declared.Value.{Value}
use Rattle.grammar.specs.declared.Value.TheVariants as Val
use Rattle.grammar.specs.declared.Ending.{Ending}
use Rattle.grammar.specs.declared.Ending.TheVariants.{Budget, Deep, Stuck, «Fault» as AtFault}
use Rattle.grammar.specs.declared.Refusal.{Refusal}
use Rattle.grammar.specs.declared.Refusal.TheVariants.{Size, Field, Use, Start, Untyped, Long, Work}
use Rattle.grammar.specs.declared.Answer.{Answer}
use Rattle.grammar.specs.declared.Mode.{Mode}
use Rattle.grammar.specs.declared.Mode.TheVariants.{Bench, Display}
use Rattle.grammar.specs.Numbers.{DONE, SIZE, FIELD, USE, START, TYPE, LONG, WORK, NOMATCH, BUDGET, DEEP, STUCK, FAULT}
use Rattle.grammar.specs.Tree.{rule_of, grammar_of}
use Rattle.grammar.specs.Form.{Verdict, followed_by, unless_ok, refused_at, table_check}
use Rattle.grammar.specs.Types.{untyped}
use Rattle.grammar.specs.Run.{Setting, Applied, matched, failed, ended, out_of_fuel, onward, with_value, eval_all, fresh, apply}

-- W, in 32-bit words; docs/WORK.md has the layout
abbrev pub work_words : ℕ
work_words = 9760

-- 'a visit due at depth 257' is DEEP
abbrev pub deepest_visit : ℕ
deepest_visit = 256

-- ════ Document 01's number and place for each case ════

unfoldable pub refusal_number : Refusal → ℕ
refusal_number Size = SIZE
refusal_number (Field i) = FIELD
refusal_number (Use k) = USE
refusal_number Start = START
refusal_number (Untyped r) = TYPE
refusal_number Long = LONG
refusal_number Work = WORK

unfoldable pub refusal_place : Refusal → ℕ
refusal_place Size = 0
refusal_place (Field i) = i
refusal_place (Use k) = k
refusal_place Start = 0
refusal_place (Untyped r) = r
refusal_place Long = 0
refusal_place Work = 0

unfoldable pub number : Verdict → ℕ
number (Ok _) = DONE
number (Err refusal) = refusal_number refusal

unfoldable pub place : Verdict → ℕ
place (Ok _) = 0
place (Err refusal) = refusal_place refusal

unfoldable pub ending_number : Ending → ℕ
ending_number Budget = BUDGET
ending_number Deep = DEEP
ending_number Stuck = STUCK
ending_number (AtFault why) = FAULT

-- ════ The checks ════

-- 5 TYPE: 'a rule fails the type rules': 'smallest such rule'
unfoldable pub type_rules : List ℕ → Verdict
type_rules words = refused_at Untyped (untyped (grammar_of words))

-- the type check's answer: 1 to 5, or passed
unfoldable pub type_check : List ℕ → List ℕ → Verdict
type_check words literals = followed_by (table_check words literals) (type_rules words)

-- 'then 5 (type check and display run only)'
abbrev pub check_for : Mode → List ℕ → List ℕ → Verdict
check_for Bench words literals = table_check words literals
check_for Display words literals = type_check words literals

-- 'Checks go 1, 2, 3, 4, then 5 .., 6, 7, then the run'
unfoldable pub check : Mode → List ℕ → List ℕ → (message_length work_length : ℕ) → Verdict
check mode words literals message_length work_length =
    followed_by (check_for mode words literals)
    (followed_by (unless_ok (leb message_length 65535) Long) (unless_ok (leb work_words work_length) Work))

-- ════ The run ════

-- 'The start rule runs in the same way with all slots unset; its returned values are the record's': where it matched, they stand in the slots' place.
-- 'The start body has depth 1'
unfoldable pub run : Setting → (budget : ℕ) → Applied
run S budget =
    onward (apply S budget deepest_visit (suc budget) 1 (rule_of S.grammar 0).body 0 (fresh []) (record { visits = 0 })) (λ at slots t.
    with_value (eval_all S slots (rule_of S.grammar 0).returned) t (λ results. matched at results t))

-- ════ The answer record ════

-- 'Values past m are absent'
abbrev pub four_of : List Value → List Value
four_of values = get_or values 0 Val.Absent ∷ get_or values 1 Val.Absent ∷ get_or values 2 Val.Absent ∷ get_or values 3 Val.Absent ∷ []

-- number, place, consumed, visits, four values
abbrev pub answered : (number place consumed visits : ℕ) → List Value → Answer
answered number place consumed visits values = record {
  number = number;
  place = place;
  consumed = consumed;
  visits = visits;
  values = four_of values;
}

-- 'Consumed and values are zero or absent unless DONE'. A run never comes to out_of_fuel (proofs/Fuel.antt): it has a number that document 01 has not
unfoldable pub answer_of : Applied → Answer
answer_of (matched at values t) = answered DONE 0 at t.visits values
answer_of (failed slots t) = answered NOMATCH 0 0 t.visits []
answer_of (ended why k t) = answered (ending_number why) k 0 t.visits []
answer_of out_of_fuel = answered 255 0 0 0 []

-- 'visits are 0 unless the answer is 0 or 8 to 12'
unfoldable pub refusal : Refusal → Answer
refusal why = answered (refusal_number why) (refusal_place why) 0 0 []

unfoldable pub conclude : Verdict → Applied → Answer
conclude (Ok _) ran = answer_of ran
conclude (Err why) ran = refusal why

abbrev pub setting_of : (words literals message : List ℕ) → Setting
setting_of words literals message = record { grammar = grammar_of words; message = message; literals = literals }

-- The answer for every table, literals, message, budget and length of the work area
unfoldable pub answer : Mode → (words literals message : List ℕ) → (budget work_length : ℕ) → Answer
answer mode words literals message budget work_length =
    conclude (check mode words literals (length message) work_length) (run (setting_of words literals message) budget)

-- ════ The work area afterwards ════

-- 'leaves the first W words zero and the others untouched'
unfoldable pub zeroed : List ℕ → List ℕ
zeroed work = replicate work_words 0 ++ drop work_words work

-- 'Answers 1 to 7 change no memory'
unfoldable pub left_after : Verdict → List ℕ → List ℕ
left_after (Ok _) work = zeroed work
left_after (Err why) work = work

unfoldable pub work_after : Mode → (words literals message work : List ℕ) → List ℕ
work_after mode words literals message work = left_after (check mode words literals (length message) (length work)) work
