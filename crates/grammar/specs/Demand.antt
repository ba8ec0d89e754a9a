-- Demand 3: 'A table that passes the type check never gets STUCK, and on DONE the declared values are there, one for one, with their types'. What it
-- says of an answer stands here; proofs/Demand.antt shows it, and proofs/Texts.antt that a Text's bytes are those that were meant. Assumes nothing.
use Rattle.grammar.specs.Form.{passed}
use Rattle.std.specs.Prelude.{◌≡◌, ◌≢◌, List, ℕ, ◌+◌, ◌<◌, ◌≤◌, get_or, length}
use Rattle.grammar.specs.declared.Answer.{Answer}
use Rattle.grammar.specs.declared.Span.{Span}
use Rattle.grammar.specs.declared.Value.{Value}
use Rattle.grammar.specs.declared.Value.TheVariants as Val
use Rattle.grammar.specs.Numbers.{DONE, STUCK}
use Rattle.grammar.specs.Words.{rule_word, returned_count}
use Rattle.grammar.specs.Types.{type_number}
use Rattle.grammar.specs.declared.Mode.{Mode}
use Rattle.grammar.specs.declared.Mode.TheVariants.{Bench, Display}
use Rattle.grammar.specs.Values.{slice_of}
use Rattle.grammar.specs.Answer.{type_check, answer}

abbrev pub values_of : Answer → List Value
values_of a = a.values

-- value i of the record
abbrev pub value_at : Answer → ℕ → Value
value_at a i = get_or (values_of a) i Val.Absent

-- what the start rule of a table declares of the values that an answer holds
pub record Declared (words : List ℕ) (a : Answer) : Type 0 where
  pub typed : (i : ℕ) → i < returned_count words 0 → (type_number (value_at a i) ≡ rule_word words 0 (11 + i)) × (1 ≤ type_number (value_at a i))
  pub absent : (i : ℕ) → returned_count words 0 ≤ i → value_at a i ≡ Val.Absent

-- It is not STUCK, and if it is DONE the values are as declared
pub record WellTyped (words : List ℕ) (a : Answer) : Type 0 where
  pub never_stuck : a.number ≢ STUCK
  pub values_declared : a.number ≡ DONE → Declared words a

-- A Text that is there has its bytes: its part fits the slice that it names, so that no bytes are asked for in vain. And no more is consumed than
-- the message has
pub record TextsThere (message literals : List ℕ) (a : Answer) : Type 0 where
  pub text_fits : (i : ℕ) (s : Span) → value_at a i ≡ Val.Text s → s.start + s.length ≤ length (slice_of message literals s)
  pub consumed_most : a.consumed ≤ length message

-- Demand 3, for every table, message, budget and length of the work area: a display run keeps it, and so does a bench run of a table that passes
-- the type check; and a Text has its bytes in every run, also in a bench run of a table that doesn't pass
pub record Demand3 : Type 0 where
  pub of_display : (words literals message : List ℕ) (budget work_length : ℕ) → WellTyped words (answer Display words literals message budget work_length)
  pub of_bench : (words literals message : List ℕ) (budget work_length : ℕ) → type_check words literals ≡ passed → WellTyped words (answer Bench words literals message budget work_length)
  pub of_texts : (mode : Mode) (words literals message : List ℕ) (budget work_length : ℕ) → TextsThere message literals (answer mode words literals message budget work_length)
