-- What the console's input asks for (document 01, 'Listing and console'), line by line. Assumes nothing.
use Rattle.std.specs.Prelude.{Option, Some, None, List, [], ◌∷◌, ℕ, drop}
use Rattle.grammar.specs.declared.Mode.{Mode}
use Rattle.grammar.specs.declared.Mode.TheVariants.{Bench, Display}
use Rattle.text.specs.Stored.{Taken, taking}
use Rattle.text.specs.Found.{on_place, on_number, number, pairs}
use Rattle.listing.specs.Reading.{key_at, head_at, body_at, on_head, on_lines}

-- the bytes of `mode=bench` and of `mode=display`, 'each line ended by byte 10'; of `budget=` and of `message=`
abbrev pub bench_line : List ℕ
bench_line = 109 ∷ 111 ∷ 100 ∷ 101 ∷ 61 ∷ 98 ∷ 101 ∷ 110 ∷ 99 ∷ 104 ∷ 10 ∷ []

abbrev pub display_line : List ℕ
display_line = 109 ∷ 111 ∷ 100 ∷ 101 ∷ 61 ∷ 100 ∷ 105 ∷ 115 ∷ 112 ∷ 108 ∷ 97 ∷ 121 ∷ 10 ∷ []

abbrev pub budget_key : List ℕ
budget_key = 98 ∷ 117 ∷ 100 ∷ 103 ∷ 101 ∷ 116 ∷ 61 ∷ []

abbrev pub message_key : List ℕ
message_key = 109 ∷ 101 ∷ 115 ∷ 115 ∷ 97 ∷ 103 ∷ 101 ∷ 61 ∷ []

-- what lines say; or the number of the first of them that is wrong or missing
pub data Said (A : Type 0) : Type 0 where
  says : A → Said A
  wrong_line : (n : ℕ) → Said A

abbrev pub on_said : {A B : Type 0} → (ℕ → B) → (A → B) → Said A → B
on_said wrong is (says a) = is a
on_said wrong is (wrong_line n) = wrong n

abbrev pub on_mode : {A : Type 0} → A → (Mode → ℕ → A) → Option (Mode × ℕ) → A
on_mode wrong is (Some (mode, q)) = is mode q
on_mode wrong is None = wrong

pub record Table : Type 0 where
  pub words : List ℕ
  pub literals : List ℕ

-- a run: in which mode, with which budget, of which message and table
pub record Asked : Type 0 where
  pub mode : Mode
  pub budget : ℕ
  pub message : List ℕ
  pub table : Table

module _ (input : List ℕ) where
  -- '`mode=` (bench or display)': the first line, and the place after it
  unfoldable pub mode_line : Option (Mode × ℕ)
  mode_line =
      on_place (on_place None (λ q. Some (Display, q)) (key_at input display_line 0)) (λ q. Some (Bench, q)) (key_at input bench_line 0)

  -- 'Budget is a decimal up to 4294967295, no leading zero'
  unfoldable pub budget_at : ℕ → Option (ℕ × ℕ)
  budget_at p = on_place None (λ q. number 10 4294967295 q (drop q input)) (key_at input budget_key p)

  -- '`message=` (hex)'; 'all hex is lower-case pairs'
  unfoldable pub message_at : ℕ → Taken (Option (ℕ × ℕ))
  message_at p = on_place (taking [] None) (λ q. pairs 0 q (drop q input)) (key_at input message_key p)

  -- 'and a listing', up to the input's end, whose first line is the fourth: 'LINE counts from the first line'
  abbrev pub body_said : (rules nodes literal_bytes p : ℕ) (literals : List ℕ) → Said Table
  body_said rules nodes literal_bytes p literals =
      on_lines wrong_line (λ q. says (record { words = rules ∷ nodes ∷ literal_bytes ∷ (body_at input rules nodes 7 p).numbers; literals = literals }))
      (body_at input rules nodes 7 p).found

  unfoldable pub table_at : ℕ → Said Table
  table_at p =
      on_head wrong_line (λ rules nodes literal_bytes q. body_said rules nodes literal_bytes q (head_at input 4 p).numbers) (head_at input 4 p).found

  -- ════ One line after another ════

  abbrev pub from_fourth : Mode → (budget : ℕ) (message : List ℕ) (p : ℕ) → Said Asked
  from_fourth mode budget message p =
      on_said wrong_line (λ table. says (record { mode = mode; budget = budget; message = message; table = table })) (table_at p)

  abbrev pub from_third : Mode → (budget p : ℕ) → Said Asked
  from_third mode budget p =
      on_number (wrong_line 3) (λ n q. from_fourth mode budget (message_at p).numbers q) (message_at p).found

  abbrev pub from_second : Mode → (p : ℕ) → Said Asked
  from_second mode p = on_number (wrong_line 2) (λ budget q. from_third mode budget q) (budget_at p)

  -- 'The console reads `mode=` (bench or display), `budget=`, `message=` (hex) and a listing'
  unfoldable pub said : Said Asked
  said = on_mode (wrong_line 1) (λ mode p. from_second mode p) mode_line
