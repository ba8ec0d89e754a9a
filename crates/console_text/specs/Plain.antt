-- The plain meaning of the console's input, beside the line by line one of Asked.antt: which inputs are right, and which line is told of one that isn't.
-- Assumes nothing.
use Rattle.std.specs.Prelude.{◌≡◌, ◌≢◌, ◌↔◌, List, [], ◌∷◌, ◌++◌, ℕ, suc, ◌<◌}
use Rattle.laws.specs.Below.{AllBelow}
use Rattle.grammar.specs.declared.Mode.{Mode}
use Rattle.grammar.specs.declared.Mode.TheVariants.{Bench, Display}
use Rattle.text.specs.Written.{hex}
use Rattle.listing.specs.Listing.{listing}
use Rattle.listing.specs.Plain.{first_lines}
use Rattle.listing.specs.Plain as Listing
use Rattle.console_text.specs.Asked.{bench_line, display_line, budget_key, message_key, says, wrong_line, Asked, said}
use Rattle.console_text.specs.Printed.{number_line}

-- ════ Right inputs ════

abbrev pub mode_spelt : Mode → List ℕ
mode_spelt Bench = bench_line
mode_spelt Display = display_line

-- '`message=` (hex)'
abbrev pub message_spelt : List ℕ → List ℕ
message_spelt message = message_key ++ (hex message ++ (10 ∷ []))

-- '`mode=` (bench or display), `budget=`, `message=` (hex) and a listing'
unfoldable pub spelt : Asked → List ℕ
spelt a =
    mode_spelt a.mode
    ++ (number_line budget_key a.budget ++ (message_spelt a.message ++ listing a.table.words a.table.literals))

-- a budget 'up to 4294967295', a message of bytes, and a table of right size, which is 16-bit words and bytes
pub record Right (a : Asked) : Type 0 where
  pub budget_fits : a.budget < 4294967296
  pub message_fits : AllBelow 256 a.message
  pub table : Listing.Table a.table.words a.table.literals

-- an input is accepted exactly where it is spelt so: proofs/Exactly.antt proves it
abbrev pub AcceptedExactly : Type 0
AcceptedExactly = (input : List ℕ) (a : Asked) → (said input ≡ says a) ↔ (Right a × (input ≡ spelt a))

-- ════ The line that is told of any other ════

-- Line n + 1 is the first that no right input has there: some right input has the n lines before it, and none has these and then the same line. So a
-- line that is missing is wrong, and any after the last: 'Bytes past the last line count as one more line, which is wrong'
pub record FirstWrong (input : List ℕ) (n : ℕ) : Type 0 where
  pub some_right : (a : Asked) × Right a × (first_lines n (spelt a) ≡ first_lines n input)
  pub none_right : (a : Asked) → Right a → first_lines (suc n) (spelt a) ≢ first_lines (suc n) input

-- 'listing line wrong or missing', 'its number, from 1'; 'LINE counts from the first line': proofs/Line.antt proves it
abbrev pub LineExactly : Type 0
LineExactly = (input : List ℕ) (n : ℕ) → (said input ≡ wrong_line (suc n)) ↔ FirstWrong input n

-- every input is spelt so or has a first wrong line: proofs/Line.antt proves it, so that the two statements together leave no input out
pub data Judged (input : List ℕ) : Type 0 where
  is_spelt : (a : Asked) → Right a → input ≡ spelt a → Judged input
  is_wrong_at : (n : ℕ) → FirstWrong input n → Judged input
