-- Up to four expressions in a row, in the slots in use: a call's arguments and what a rule returns, and where their values go (document 01,
-- 'Running'). Assumes nothing.
use Rattle.std.specs.Prelude.{List, [], ◌∷◌, map, take, cond, ℕ, ltb, get_or, Result, Ok, Err}
use Rattle.grammar.specs.declared.Ended.{Ended}
use Rattle.grammar.specs.declared.Value.{Value}
use Rattle.grammar.specs.declared.Value.TheVariants as Val
use Rattle.grammar.specs.Words.{rule_word, returned_count}
use Rattle.grammar.specs.Tree.{expr_at}
use Rattle.grammar.specs.Values.{Evaluated, value, ends}
use Rattle.grammar.specs.Run.{eval, eval_all}
use Rattle.grammar.specs.Answer.{setting_of}
use Rattle.frames.specs.Frames.{slots_in, written, unset}

-- ════ Values ════

-- place i of a list of values
abbrev pub value_at : List Value → ℕ → Value
value_at vs i = get_or vs i Val.Absent

-- 'Values past m are absent'
abbrev pub four_of : List Value → List Value
four_of vs = value_at vs 0 ∷ value_at vs 1 ∷ value_at vs 2 ∷ value_at vs 3 ∷ []

unfoldable pub given_by : Evaluated (List Value) → Result (List Value) Ended
given_by (value vs) = Ok (four_of vs)
given_by (ends why j) = Err (record { why = why; node = j })

-- fresh slots with the inherited values in slots 0 to 3; past the callee's n they are Absent, as an unset slot is
unfoldable pub inherited : List Value → List ℕ → List ℕ
inherited vs w = written (written (written (written (unset w) 0 (value_at vs 0)) 1 (value_at vs 1)) 2 (value_at vs 2)) 3 (value_at vs 3)

-- receiving slot i of m
unfoldable pub received_at : (i m : ℕ) → ℕ → Value → List ℕ → List ℕ
received_at i m s v w = cond (ltb i m) (written w s v) w

-- 'then sets its receiving slots left to right'
unfoldable pub received : (m : ℕ) → (slots : List ℕ) → List Value → List ℕ → List ℕ
received m slots vs w =
    received_at 3 m (get_or slots 3 0) (value_at vs 3)
    (received_at 2 m (get_or slots 2 0) (value_at vs 2)
    (received_at 1 m (get_or slots 1 0) (value_at vs 1)
    (received_at 0 m (get_or slots 0 0) (value_at vs 0) w)))

-- ════ Expressions ════

module _ (words literals message : List ℕ) where
  -- what expression node k gives in the slots in use
  abbrev pub evaluated : ℕ → List ℕ → Evaluated Value
  evaluated k w = eval (setting_of words literals message) (slots_in w) (expr_at words k)

  -- what the first n of four expression nodes give, left to right
  abbrev pub evaluated_four : (n : ℕ) → (nodes : List ℕ) → List ℕ → Result (List Value) Ended
  evaluated_four n nodes w = given_by (eval_all (setting_of words literals message) (slots_in w) (map (expr_at words) (take n nodes)))

  -- what rule q returns, in the slots in use
  unfoldable pub returned_by : ℕ → List ℕ → Result (List Value) Ended
  returned_by q w =
      evaluated_four (returned_count words q) (rule_word words q 7 ∷ rule_word words q 8 ∷ rule_word words q 9 ∷ rule_word words q 10 ∷ []) w
