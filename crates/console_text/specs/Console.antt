-- The console (document 01, 'Listing and console'): its answer to every input, and the bytes it prints. Assumes nothing.
use Rattle.std.specs.Prelude.{List, [], cond, ℕ, ltb, length}
use Rattle.grammar.specs.declared.Answer.{Answer}
use Rattle.grammar.specs.Answer.{answer, answered, work_words}
use Rattle.listing.specs.Numbers.{LINE}
use Rattle.console_text.specs.Asked.{Asked, on_said, said}
use Rattle.console_text.specs.Printed.{answer_key, number_line, answer_lines}

-- 'console input over 65,536 bytes'
abbrev pub INPUT : ℕ
INPUT = 23

abbrev pub longest_input : ℕ
longest_input = 65536

-- the record of the run that was asked for, in a work area of W words
unfoldable pub answer_to : Asked → Answer
answer_to a = answer a.mode a.table.words a.table.literals a.message a.budget work_words

-- INPUT; LINE with the line's number; or a run, with its record
pub data ConsoleAnswer : Type 0 where
  too_long : ConsoleAnswer
  wrong_at : (line : ℕ) → ConsoleAnswer
  ran : Asked → Answer → ConsoleAnswer

-- 'INPUT comes before all else'
unfoldable pub console_answer : List ℕ → ConsoleAnswer
console_answer input =
    cond (ltb longest_input (length input)) too_long (on_said wrong_at (λ a. ran a (answer_to a)) (said input))

-- the record that LINE prints: 'Consumed and values are zero or absent unless DONE; visits are 0 unless the answer is 0 or 8 to 12'
abbrev pub line_record : ℕ → Answer
line_record n = answered LINE n 0 0 []

-- 'INPUT .. prints `answer=23` alone; every other answer prints these eight lines'
unfoldable pub printed : ConsoleAnswer → List ℕ
printed too_long = number_line answer_key INPUT
printed (wrong_at n) = answer_lines [] [] (line_record n)
printed (ran a r) = answer_lines a.message a.table.literals r

-- what the console writes to standard output, for what it reads from standard input
unfoldable pub console_text : List ℕ → List ℕ
console_text input = printed (console_answer input)
