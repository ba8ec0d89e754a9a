-- The console on lent slices: what they hold afterwards. Assumes nothing.
use Rattle.std.specs.Prelude.{Option, Some, None, Result, Ok, Err, List, [], ◌∷◌, Bool, cond, ℕ, ◌≤◌, ltb, leb, length}
use Rattle.laws.specs.Stores.{over}
use Rattle.grammar.specs.Form.{every}
use Rattle.grammar.specs.Answer.{work_words, work_after}
use Rattle.grammar.specs.declared.Mode.{Mode}
use Rattle.console_text.specs.declared.request.Request.{Request}
use Rattle.console_text.specs.Asked.{Said, says, wrong_line, Asked}
use Rattle.console_text.specs.Console.{longest_input, ConsoleAnswer, too_long, wrong_at, ran, console_answer, console_text}

-- ════ Room for every input ════

-- two hex digits of the input to a byte
abbrev pub message_bytes : ℕ
message_bytes = 32768

-- 3 + 15 * 64 + 10 * 1,024
abbrev pub table_words : ℕ
table_words = 11203

abbrev pub table_literals : ℕ
table_literals = 4096

-- four lines of a number, with at most ten digits; four Texts of at most 32,768 bytes in hex, each in a line with `value=3 `
abbrev pub output_bytes : ℕ
output_bytes = 262253

-- `answer=23` and byte 10: the line that INPUT prints
abbrev pub input_line_bytes : ℕ
input_line_bytes = 10

pub record Lent : Type 0 where
  pub message : List ℕ
  pub words : List ℕ
  pub literals : List ℕ
  pub work : List ℕ
  pub output : List ℕ

abbrev pub lent : (message words literals work output : List ℕ) → Lent
lent message words literals work output =
    record { message = message; words = words; literals = literals; work = work; output = output }

-- the lengths of slices that are long enough
pub record Roomy (message words literals work output : ℕ) : Type 0 where
  pub for_message : message_bytes ≤ message
  pub for_words : table_words ≤ words
  pub for_literals : table_literals ≤ literals
  pub for_work : work_words ≤ work
  pub for_output : output_bytes ≤ output

-- are they?
unfoldable pub enough : (message words literals work output : ℕ) → Bool
enough message words literals work output =
    every (
    leb message_bytes message
    ∷ leb table_words words
    ∷ leb table_literals literals
    ∷ leb work_words work
    ∷ leb output_bytes output
    ∷ []
    )

-- is there room for what is answered to this input? 'INPUT comes before all else', and wants room for its own line alone; every other answer has room
-- where every input has
unfoldable pub room_for : (input : List ℕ) → Lent → Bool
room_for input l =
    cond (ltb longest_input (length input)) (leb input_line_bytes (length l.output))
    (enough (length l.message) (length l.words) (length l.literals) (length l.work) (length l.output))

-- ════ The request ════

abbrev pub request_of : Mode → (budget message words literals : ℕ) → Request
request_of mode budget message words literals =
    record { mode = mode; budget = budget; message = message; table = record { words = words; literals = literals } }

-- what reading the request answers, which may be the number of a wrong line; and what three slices hold then
pub record Readied : Type 0 where
  pub request : Result Request ℕ
  pub message : List ℕ
  pub words : List ℕ
  pub literals : List ℕ

abbrev pub readied : Result Request ℕ → (message words literals : List ℕ) → Readied
readied request message words literals =
    record { request = request; message = message; words = words; literals = literals }

-- message, words and literals of the request stand in front; a wrong line changes nothing
unfoldable pub ready : Said Asked → (message words literals : List ℕ) → Readied
ready (says a) message words literals =
    readied (Ok (request_of a.mode a.budget (length a.message) (length a.table.words) (length a.table.literals)))
    (over a.message message) (over a.table.words words) (over a.table.literals literals)
ready (wrong_line n) message words literals = readied (Err n) message words literals

-- ════ The whole ════

pub record Responded : Type 0 where
  pub response : Option ℕ
  pub after : Lent

abbrev pub responded : Option ℕ → Lent → Responded
responded response after = record { response = response; after = after }

-- INPUT and LINE change the output alone
unfoldable pub afterwards : ConsoleAnswer → (text : List ℕ) → Lent → Lent
afterwards too_long text l = lent l.message l.words l.literals l.work (over text l.output)
afterwards (wrong_at n) text l = lent l.message l.words l.literals l.work (over text l.output)
afterwards (ran a r) text l =
    lent (over a.message l.message) (over a.table.words l.words) (over a.table.literals l.literals)
    (work_after a.mode a.table.words a.table.literals a.message l.work) (over text l.output)

-- the text stands in the output from its start on, and its length is told; a slice that is too short is told before any text, by None, and then nothing changes
unfoldable pub respond : (input : List ℕ) → Lent → Responded
respond input l =
    cond (room_for input l)
    (responded (Some (length (console_text input))) (afterwards (console_answer input) (console_text input) l))
    (responded None l)
