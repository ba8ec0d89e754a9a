-- What reading a listing answers, and what the two slices hold then (document 01, 'Listing and console'), line by line. The listing stands in the
-- text from a place on, to the text's end, and `first` is the number of its first line. Plain.antt says of the whole which texts are
-- accepted, when ROOM comes, and which line is told. Assumes nothing.
use Rattle.std.specs.Prelude.{Option, Some, None, Result, Ok, Err, List, [], ◌∷◌, cond, ℕ, zero, suc, ◌+◌, ◌*◌, ltb, eqb, length, drop}
use Rattle.laws.specs.Stores.{over}
use Rattle.text.specs.Stored.{Taken, taking, also}
use Rattle.text.specs.Found.{on_place, on_number, after_key, number, pairs}
use Rattle.listing.specs.declared.reader.Head.{Head}
use Rattle.listing.specs.declared.Lengths.{Lengths}
use Rattle.listing.specs.declared.Unread.{Unread}
use Rattle.listing.specs.declared.Unread.TheVariants.{Line, Room}
use Rattle.listing.specs.Listing.{rules_key, nodes_key, literals_key, rule_key, node_key, ending}
use Rattle.laws.specs.Range.{within}

-- where reading lines came to: the place after them, or the number of the first that is wrong
abbrev pub Lines : Type 0
Lines = Result ℕ ℕ

abbrev pub on_lines : {A : Type 0} → (ℕ → A) → (ℕ → A) → Lines → A
on_lines wrong at (Ok q) = at q
on_lines wrong at (Err n) = wrong n

abbrev pub head_of : (rules nodes literals next : ℕ) → Head
head_of rules nodes literals next = record { rules = rules; nodes = nodes; literals = literals; next = next }

abbrev pub on_head : {A : Type 0} → (ℕ → A) → (ℕ → ℕ → ℕ → ℕ → A) → Result Head ℕ → A
on_head wrong is (Ok h) = is h.rules h.nodes h.literals h.next
on_head wrong is (Err n) = wrong n

-- 'Head values keep SIZE's ranges, else LINE'
abbrev pub number_within : (low high : ℕ) → Option (ℕ × ℕ) → Option (ℕ × ℕ)
number_within low high found = on_number None (λ n q. cond (within low high n) (Some (n, q)) None) found

abbrev pub pairs_within : (low high : ℕ) → Taken (Option (ℕ × ℕ)) → Taken (Option (ℕ × ℕ))
pairs_within low high t = taking t.numbers (number_within low high t.found)

module _ (text : List ℕ) where
  -- 'Decimals 0 to 65535, no leading zero', to the byte `end`
  abbrev pub decimal_at : (end p : ℕ) → Option (ℕ × ℕ)
  decimal_at end p = number end 65535 p (drop p text)

  abbrev pub key_at : (key : List ℕ) (p : ℕ) → Option ℕ
  key_at key p = after_key key p (drop p text)

  -- ════ Lines of records ════

  -- the decimals of a line, `count` of them
  unfoldable pub numbers_at : (count p : ℕ) → Taken (Option ℕ)
  numbers_at zero p = taking [] (Some p)
  numbers_at (suc count) p = on_number (taking [] None) (λ n q. also (n ∷ []) (numbers_at count q)) (decimal_at (ending count) p)

  unfoldable pub line_at : (key : List ℕ) (count p : ℕ) → Taken (Option ℕ)
  line_at key count p = on_place (taking [] None) (λ q. numbers_at count q) (key_at key p)

  -- `count` lines of `width` numbers, the first of them with the number n: the place after them, or the number of the first that is wrong
  unfoldable pub lines_at : (key : List ℕ) (width count n p : ℕ) → Taken Lines
  lines_at key width zero n p = taking [] (Ok p)
  lines_at key width (suc count) n p =
      also (line_at key width p).numbers
      (on_place (taking [] (Err n)) (λ q. lines_at key width count (n + 1) q) (line_at key width p).found)

  -- ════ The first three lines ════

  unfoldable pub count_at : (key : List ℕ) (low high p : ℕ) → Option (ℕ × ℕ)
  count_at key low high p = on_place None (λ q. number_within low high (decimal_at 10 q)) (key_at key p)

  unfoldable pub literals_at : ℕ → Taken (Option (ℕ × ℕ))
  literals_at p = on_place (taking [] None) (λ q. pairs_within 0 4096 (pairs 0 q (drop q text))) (key_at literals_key p)

  abbrev pub third_line : (first rules nodes p : ℕ) → Taken (Result Head ℕ)
  third_line first rules nodes p =
      taking (literals_at p).numbers (on_number (Err (first + 2)) (λ literals q. Ok (head_of rules nodes literals q)) (literals_at p).found)

  abbrev pub second_line : (first rules p : ℕ) → Taken (Result Head ℕ)
  second_line first rules p = on_number (taking [] (Err (first + 1))) (λ nodes q. third_line first rules nodes q) (count_at nodes_key 1 1024 p)

  -- R, K, the literals and the place of the fourth line
  unfoldable pub head_at : (first p : ℕ) → Taken (Result Head ℕ)
  head_at first p = on_number (taking [] (Err first)) (λ rules q. second_line first rules q) (count_at rules_key 1 64 p)

  -- ════ The other lines ════

  -- 'nothing after'; 'Bytes past the last line count as one more line, which is wrong'
  abbrev pub ended : (n : ℕ) → Lines → Lines
  ended n found = on_lines Err (λ q. cond (eqb q (length text)) (Ok q) (Err n)) found

  abbrev pub node_lines_at : (nodes n p : ℕ) → Taken Lines
  node_lines_at nodes n p =
      taking (lines_at node_key 10 nodes n p).numbers (ended (n + nodes) (lines_at node_key 10 nodes n p).found)

  -- R lines `rule=`, K lines `node=`, the first of them with the number n
  unfoldable pub body_at : (rules nodes n p : ℕ) → Taken Lines
  body_at rules nodes n p =
      also (lines_at rule_key 15 rules n p).numbers
      (on_lines (λ m. taking [] (Err m)) (λ q. node_lines_at nodes (n + rules) q) (lines_at rule_key 15 rules n p).found)

-- ════ The whole ════

-- what the reader answers: how many words and literals it filled, or the refusal
abbrev pub Reading : Type 0
Reading = Result Lengths Unread

abbrev pub done : (words literals : ℕ) → Reading
done words literals = Ok (record { words = words; literals = literals })

-- the answer, and what the two slices hold then
pub record Filled : Type 0 where
  pub answer : Reading
  pub words : List ℕ
  pub literals : List ℕ

abbrev pub filled : Reading → (words literals : List ℕ) → Filled
filled answer words literals = record { answer = answer; words = words; literals = literals }

-- 'The reader fills just the words and literals of the table'; 'success tells the lengths'
abbrev pub fill : (table_words table_literals words literals : List ℕ) → Filled
fill table_words table_literals words literals =
    filled (done (length table_words) (length table_literals)) (over table_words words) (over table_literals literals)

module _ (text : List ℕ) (first : ℕ) (words literals : List ℕ) where
  -- 'A refusal writes nothing'
  abbrev pub refused : Reading → Filled
  refused answer = filled answer words literals

  abbrev pub read_body : (rules nodes literal_bytes p : ℕ) (table_literals : List ℕ) → Filled
  read_body rules nodes literal_bytes p table_literals =
      let body = body_at text rules nodes (first + 3) p in
      on_lines (λ n. refused (Err (Line n))) (λ q. fill (rules ∷ nodes ∷ literal_bytes ∷ body.numbers) table_literals words literals) body.found

  -- 'ROOM is judged after line 3'
  unfoldable pub read_rest : (rules nodes literal_bytes p : ℕ) (table_literals : List ℕ) → Filled
  read_rest rules nodes literal_bytes p table_literals =
      cond (ltb (length words) (3 + 15 * rules + 10 * nodes)) (refused (Err Room))
      (cond (ltb (length literals) literal_bytes) (refused (Err Room)) (read_body rules nodes literal_bytes p table_literals))

-- a listing that stands in the text from a place on, its first line having the number `first`
unfoldable pub read_from : (text : List ℕ) (at first : ℕ) (words literals : List ℕ) → Filled
read_from text at first words literals =
    on_head (λ n. refused text first words literals (Err (Line n)))
    (λ rules nodes literal_bytes p. read_rest text first words literals rules nodes literal_bytes p (head_at text first at).numbers)
    (head_at text first at).found

-- a text that is a listing: LINE has 'its number, from 1'
abbrev pub read : (text words literals : List ℕ) → Filled
read text words literals = read_from text 0 1 words literals
