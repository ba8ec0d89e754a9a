-- The sorts of a record's words as numbers, which the code's constant tables hold. Assumes nothing.
use Rattle.std.specs.Prelude.{List, [], ◌∷◌, map, Bool, cond, ◌||◌, ℕ, ◌+◌, ◌-◌, ltb, eqb, get_or}
use Rattle.grammar.specs.Words.{word, inherited_count, returned_count}
use Rattle.grammar.specs.Form.{Sort, unused, byte, bit, any, parsing, expression, rule, slot, argument, receiving, text_start, text_length, count, inherited_type, returned, returned_type, fits, rule_sorts, is_type, is_kind}

-- a number below 11 stands for a sort
abbrev pub plain_sorts : List Sort
plain_sorts = unused ∷ byte ∷ bit ∷ any ∷ parsing ∷ expression ∷ rule ∷ slot ∷ text_start ∷ text_length ∷ count ∷ []

-- the number of each sort; from 11 on there are four numbers to a sort that has places
abbrev pub number_of : Sort → ℕ
number_of unused = 0
number_of byte = 1
number_of bit = 2
number_of any = 3
number_of parsing = 4
number_of expression = 5
number_of rule = 6
number_of slot = 7
number_of text_start = 8
number_of text_length = 9
number_of count = 10
number_of (argument i) = 11 + i
number_of (receiving i) = 15 + i
number_of (inherited_type i) = 19 + i
number_of (returned i) = 23 + i
number_of (returned_type i) = 27 + i

-- the words of a rule's record
abbrev pub rule_numbers : List ℕ
rule_numbers = map number_of rule_sorts

-- the row of a kind, where there is one for each of the kinds below 29; any other has that of 0, which is no kind
abbrev pub row_of : (kind : ℕ) → ℕ
row_of kind = cond (ltb kind 29) kind 0

-- word j of a node's record, from its row: word 0 is a kind, which is 32, and word 1 has the first place of the row
abbrev pub in_row : (rows : List (List ℕ)) (row j : ℕ) → ℕ
in_row rows row j = cond (eqb j 0) 32 (get_or (get_or rows row []) (j - 1) 0)

-- 'Places past n or m hold 0': what place i of four is, of which n are in use
abbrev pub placed : (i n sort : ℕ) → ℕ
placed i n sort = cond (ltb i n) sort 0

module _ (words : List ℕ) (start : ℕ) where
  -- the sort in force where a table says n, in the record that starts at word `start`; 31 is a type
  abbrev pub force : (n : ℕ) → ℕ
  force n =
      let one = word words (start + 1) in
      let six = word words (start + 6) in
      cond (ltb n 11) n
      (cond (eqb n 32) n
      (cond (ltb n 15) (placed (n - 11) (inherited_count words one) 5)
      (cond (ltb n 19) (placed (n - 15) (returned_count words one) 7)
      (cond (ltb n 23) (placed (n - 19) one 31)
      (cond (ltb n 27) (placed (n - 23) six 5)
      (placed (n - 27) six 31))))))

  -- the word w is of the sort in force
  abbrev pub passes : (bound n w : ℕ) → Bool
  passes bound n w =
      cond (eqb n 31) (is_type w)
      (cond (eqb n 32) (is_kind w)
      (fits words bound (λ j. word words (start + j)) (get_or plain_sorts n unused) w))

-- a word of this sort uses a node
abbrev pub is_node : ℕ → Bool
is_node n = eqb n 4 || eqb n 5
