-- The table check: SIZE, FIELD, USE, START (document 01, 'Words of a table' and 'Numbers that come back'). Assumes nothing.
use Rattle.std.specs.Prelude.{List, [], ◌∷◌, Result, Ok, Err, ⊤, Bool, true, false, cond, ◌&&◌, ◌||◌, ℕ, ◌+◌, ◌*◌, ◌-◌, ◌/◌, ◌%◌, ltb, leb, eqb, get_or, length}
use Rattle.std.proofs.Math.Option.{Option, none, some}
use Rattle.laws.specs.Counting.{smallest_failing, how_many}
use Rattle.grammar.specs.declared.Refusal.{Refusal}
use Rattle.grammar.specs.declared.Refusal.TheVariants.{Size, Field, Use, Start}
use Rattle.grammar.specs.Words.{word, rule_count, node_count, literal_count, node_start, rule_word, node_word, inherited_count, returned_count, kind_at}

-- ════ 'What each kind expects in its nine fields is one constant table over the kinds' ════

-- What a word of a record must be
pub data Sort : Type 0 where
  unused : Sort  -- 0: 'Fields a kind doesn't use are 0'
  byte : Sort  -- 0 to 255
  bit : Sort  -- 0 or 1
  any : Sort  -- any 16-bit word
  parsing : Sort  -- a parsing node, smaller than the node that names it; a body
  expression : Sort  -- an expression, smaller than the node that names it
  rule : Sort  -- a rule
  slot : Sort  -- 0 to 15
  argument : ℕ → Sort  -- argument i: an expression where i is under the callee's n, else 0
  receiving : ℕ → Sort  -- receiving slot i: a slot where i is under the callee's m, else 0
  text_start : Sort  -- at most L
  text_length : Sort  -- together with the start at most L
  count : Sort  -- 0 to 4
  inherited_type : ℕ → Sort  -- type i: 1 to 3 where i is under n, else 0
  returned : ℕ → Sort  -- returned node i: an expression where i is under m, else 0
  returned_type : ℕ → Sort  -- type i: 1 to 3 where i is under m, else 0

-- nine fields, of which the first none, one or two are used
abbrev pub no_field : List Sort
no_field = unused ∷ unused ∷ unused ∷ unused ∷ unused ∷ unused ∷ unused ∷ unused ∷ unused ∷ []

abbrev pub one_field : Sort → List Sort
one_field a = a ∷ unused ∷ unused ∷ unused ∷ unused ∷ unused ∷ unused ∷ unused ∷ unused ∷ []

abbrev pub two_fields : Sort → Sort → List Sort
two_fields a b = a ∷ b ∷ unused ∷ unused ∷ unused ∷ unused ∷ unused ∷ unused ∷ unused ∷ []

-- the sort of each of the nine fields, a line to a kind, 0 to 28
unfoldable pub field_sorts : List (List Sort)
field_sorts =
    no_field  -- 0
    ∷ no_field  -- 1 empty
    ∷ one_field byte  -- 2 terminal (a byte)
    ∷ two_fields parsing parsing  -- 3 sequence (a, b)
    ∷ two_fields parsing parsing  -- 4 choice (a, b)
    ∷ one_field parsing  -- 5 repeat (a)
    ∷ one_field parsing  -- 6 not (a)
    ∷ (rule ∷ argument 0 ∷ argument 1 ∷ argument 2 ∷ argument 3 ∷ receiving 0 ∷ receiving 1 ∷ receiving 2 ∷ receiving 3 ∷ [])  -- 7 call
    ∷ two_fields slot parsing  -- 8 bind
    ∷ two_fields slot expression  -- 9 update
    ∷ one_field expression  -- 10 constraint
    ∷ no_field ∷ no_field ∷ no_field ∷ no_field ∷ no_field  -- 11 to 15
    ∷ one_field bit  -- 16 Bool
    ∷ two_fields any any  -- 17 Integer
    ∷ two_fields text_start text_length  -- 18 Text
    ∷ one_field slot  -- 19 slot
    ∷ two_fields expression expression  -- 20 add
    ∷ two_fields expression expression  -- 21 subtract
    ∷ two_fields expression expression  -- 22 multiply
    ∷ two_fields expression expression  -- 23 divide
    ∷ two_fields expression expression  -- 24 equal
    ∷ two_fields expression expression  -- 25 greater
    ∷ two_fields expression expression  -- 26 and
    ∷ two_fields expression expression  -- 27 or
    ∷ one_field expression  -- 28 not
    ∷ []

-- the sort of field j, 1 to 9, of a kind; past the last line no field is used. (A number that is no kind is refused at its own word.)
unfoldable pub field_sort : (kind j : ℕ) → Sort
field_sort kind j = get_or (get_or field_sorts kind no_field) (j - 1) unused

-- 'Rule record: body node; n inherited (0 to 4); four types; m returned (0 to 4); four returned nodes; four returned types'
unfoldable pub rule_sorts : List Sort
rule_sorts =
    parsing
    ∷ count ∷ inherited_type 0 ∷ inherited_type 1 ∷ inherited_type 2 ∷ inherited_type 3
    ∷ count ∷ returned 0 ∷ returned 1 ∷ returned 2 ∷ returned 3
    ∷ returned_type 0 ∷ returned_type 1 ∷ returned_type 2 ∷ returned_type 3
    ∷ []

-- 1 to 10 are parsing nodes, 16 to 28 expressions; every other number is no kind
abbrev pub is_parsing : ℕ → Bool
is_parsing kind = leb 1 kind && leb kind 10

abbrev pub is_expression : ℕ → Bool
is_expression kind = leb 16 kind && leb kind 28

abbrev pub is_kind : ℕ → Bool
is_kind kind = is_parsing kind || is_expression kind

-- 'Types: 1 Bool, 2 Integer, 3 Text'
abbrev pub is_type : ℕ → Bool
is_type w = leb 1 w && leb w 3

-- ════ FIELD ════

-- 'Places past n or m hold 0': place i of four, of which n are in use
abbrev pub under : (i n : ℕ) → Bool → ℕ → Bool
under i n test w = cond (ltb i n) test (eqb w 0)

module _ (words : List ℕ) where
  -- 'A part or argument has a smaller number than its node and is of the sort wanted': smaller than `bound`, which is the node's number, and
  -- for a rule, whose body and returned nodes may be any nodes, K
  abbrev pub is_part : (ℕ → Bool) → (bound w : ℕ) → Bool
  is_part sorted bound w = ltb w bound && sorted (kind_at words w)

  -- the word w is of a sort, in the record with the words `at 0`, `at 1`, ..
  unfoldable pub fits : (bound : ℕ) (at : ℕ → ℕ) → Sort → ℕ → Bool
  fits bound at unused w = eqb w 0
  fits bound at byte w = ltb w 256
  fits bound at bit w = ltb w 2
  fits bound at any w = true
  fits bound at parsing w = is_part is_parsing bound w
  fits bound at expression w = is_part is_expression bound w
  fits bound at rule w = ltb w (rule_count words)
  fits bound at slot w = ltb w 16
  -- a call's counts are the callee's n and m
  fits bound at (argument i) w = under i (inherited_count words (at 1)) (is_part is_expression bound w) w
  fits bound at (receiving i) w = under i (returned_count words (at 1)) (ltb w 16) w
  -- 'In a Text literal a start over L is the bad word; else an end over L makes the length the bad word'
  fits bound at text_start w = leb w (literal_count words)
  fits bound at text_length w = leb (at 1 + w) (literal_count words)
  fits bound at count w = leb w 4
  fits bound at (inherited_type i) w = under i (at 1) (is_type w) w
  fits bound at (returned i) w = under i (at 6) (is_part is_expression bound w) w
  fits bound at (returned_type i) w = under i (at 6) (is_type w) w

  -- word j of rule r's record is right
  unfoldable pub rule_word_ok : (r j : ℕ) → Bool
  rule_word_ok r j = fits (node_count words) (rule_word words r) (get_or rule_sorts j unused) (rule_word words r j)

  -- word j of node k's record is right: its kind is one of document 01's, and each field is as its kind expects
  unfoldable pub node_word_ok : (k j : ℕ) → Bool
  node_word_ok k j =
      cond (eqb j 0) (is_kind (kind_at words k))
      (fits k (node_word words k) (field_sort (kind_at words k) j) (node_word words k j))

  -- a word from word 3 on stands in a rule's record, or else in a node's: what holds of the one, or of the other
  abbrev pub in_record : {A : Type 0} → (ℕ → ℕ → A) → (ℕ → ℕ → A) → ℕ → A
  in_record of_rule of_node i =
      let nodes = node_start words 0 in
      cond (ltb i nodes) (of_rule ((i - 3) / 15) ((i - 3) % 15)) (of_node ((i - nodes) / 10) ((i - nodes) % 10))

  unfoldable pub word_ok : ℕ → Bool
  word_ok i = in_record rule_word_ok node_word_ok i

  -- ════ USE ════

  -- a word of this sort uses a node: 'as a part, an argument, a body or a returned node'
  unfoldable pub uses_node : (at : ℕ → ℕ) → Sort → Bool
  uses_node at unused = false
  uses_node at byte = false
  uses_node at bit = false
  uses_node at any = false
  uses_node at parsing = true
  uses_node at expression = true
  uses_node at rule = false
  uses_node at slot = false
  uses_node at (argument i) = ltb i (inherited_count words (at 1))
  uses_node at (receiving i) = false
  uses_node at text_start = false
  uses_node at text_length = false
  uses_node at count = false
  uses_node at (inherited_type i) = false
  uses_node at (returned i) = ltb i (at 6)
  uses_node at (returned_type i) = false

  abbrev pub rule_word_uses : (r j : ℕ) → Bool
  rule_word_uses r j = uses_node (rule_word words r) (get_or rule_sorts j unused)

  abbrev pub node_word_uses : (k j : ℕ) → Bool
  node_word_uses k j = cond (eqb j 0) false (uses_node (node_word words k) (field_sort (kind_at words k) j))

  -- word i uses node k
  unfoldable pub word_uses : (k i : ℕ) → Bool
  word_uses k i = eqb (word words i) k && in_record rule_word_uses node_word_uses i

  -- how many words use node k
  unfoldable pub uses : ℕ → ℕ
  uses k = how_many (word_uses k) 3 (length words - 3)

-- ════ The table check ════

-- what a check answers: passed, or the refusal and its place
abbrev pub Verdict : Type 0
Verdict = Result ⊤ Refusal

abbrev pub passed : Verdict
passed = Ok tt

-- a check comes after another
abbrev pub followed_by : Verdict → Verdict → Verdict
followed_by (Ok _) later = later
followed_by (Err refusal) later = Err refusal

abbrev pub unless_ok : Bool → Refusal → Verdict
unless_ok true refusal = passed
unless_ok false refusal = Err refusal

abbrev pub refused_at : (ℕ → Refusal) → Option ℕ → Verdict
refused_at refusal none = passed
refused_at refusal (some place) = Err (refusal place)

unfoldable pub every : List Bool → Bool
every [] = true
every (t ∷ ts) = t && every ts

-- 'under 3 words, R, K or L out of range, words not 3+15R+10K, literal bytes not L'
unfoldable pub size_ok : List ℕ → ℕ → Bool
size_ok words literal_bytes =
    every
    (leb 3 (length words)
    ∷ leb 1 (rule_count words) ∷ leb (rule_count words) 64
    ∷ leb 1 (node_count words) ∷ leb (node_count words) 1024
    ∷ leb (literal_count words) 4096
    ∷ eqb (length words) (3 + 15 * rule_count words + 10 * node_count words)
    ∷ eqb literal_bytes (literal_count words)
    ∷ [])

abbrev pub size_check : List ℕ → List ℕ → Verdict
size_check words literals = unless_ok (size_ok words (length literals)) Size

-- 'a record word breaks the rules above': 'first such word, in word order'
abbrev pub field_check : List ℕ → Verdict
field_check words = refused_at Field (smallest_failing (word_ok words) 3 (length words - 3))

-- 'Each node is used exactly once': 'smallest such node'
abbrev pub use_check : List ℕ → Verdict
use_check words = refused_at Use (smallest_failing (λ k. eqb (uses words k) 1) 0 (node_count words))

-- 'rule 0 has n above 0'
abbrev pub start_check : List ℕ → Verdict
start_check words = unless_ok (eqb (inherited_count words 0) 0) Start

-- 'Checks go 1, 2, 3, 4'
unfoldable pub table_check : List ℕ → List ℕ → Verdict
table_check words literals = followed_by (size_check words literals) (followed_by (field_check words) (followed_by (use_check words) (start_check words)))
