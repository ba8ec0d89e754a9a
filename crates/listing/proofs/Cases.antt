-- Listings byte by byte: cases that the prover computes, written out from document 01, 'Listing and console'. The laws of Exactly tie reading to writing; a slip made
-- alike in both is refused here alone. Assumes nothing.
use Rattle.std.proofs.Common.{Ok, Err}
use mathlib.Core.Path.{◌≡◌, refl}
use mathlib.Core.List.{List, [], ◌∷◌, ◌++◌, map}
use Prim.Native.Nat.{ℕ, ◌+◌, ◌-◌}
use lib.ListN.{length, take, replicate}
use Rattle.laws.specs.Stores.{over}
use Rattle.grammar.specs.Form.{every, size_ok}
use Rattle.text.specs.Written as T
use Rattle.text.specs.Found as F
use Rattle.listing.specs.declared.Unread.TheVariants.{Line, Room}
use Rattle.listing.specs.declared.Unwritten.TheVariants.{Size, Out}
use Rattle.listing.specs.Listing.{ending, numbers, line, record_lines, literals_line, head_lines, body_lines, listing}
use Rattle.listing.specs.Reading.{Reading, done, numbers_at, line_at, lines_at, count_at, literals_at, head_at, body_at, filled, read_rest, read_from, read}
use Rattle.listing.specs.Plain.{first_lines}
use Rattle.listing.specs.Writing.{Writing, written, write}
use Rattle.listing.specs.Answers.{reading_number, reading_place, reading_words, reading_literals, writing_number, writing_place, writing_length}

-- ════ Lines ════

-- of `a`, `b` and `c`, whose last line isn't ended: no line, one, two, three, and four, which are not there
pub first_lines_lem :
    map (λ (n : ℕ). first_lines n (97 ∷ 10 ∷ 98 ∷ 10 ∷ 99 ∷ [])) (0 ∷ 1 ∷ 2 ∷ 3 ∷ 4 ∷ [])
    ≡ [] ∷ (97 ∷ 10 ∷ []) ∷ (97 ∷ 10 ∷ 98 ∷ 10 ∷ []) ∷ (97 ∷ 10 ∷ 98 ∷ 10 ∷ 99 ∷ []) ∷ (97 ∷ 10 ∷ 98 ∷ 10 ∷ 99 ∷ []) ∷ []
unfolding first_lines
first_lines_lem = refl

-- ════ Case A's table ════

abbrev words_a : List ℕ
words_a =
    1 ∷ 3 ∷ 0
    ∷ 1 ∷ 0 ∷ 0 ∷ 0 ∷ 0 ∷ 0 ∷ 1 ∷ 2 ∷ 0 ∷ 0 ∷ 0 ∷ 3 ∷ 0 ∷ 0 ∷ 0
    ∷ 2 ∷ 71 ∷ 0 ∷ 0 ∷ 0 ∷ 0 ∷ 0 ∷ 0 ∷ 0 ∷ 0
    ∷ 8 ∷ 0 ∷ 0 ∷ 0 ∷ 0 ∷ 0 ∷ 0 ∷ 0 ∷ 0 ∷ 0
    ∷ 19 ∷ 0 ∷ 0 ∷ 0 ∷ 0 ∷ 0 ∷ 0 ∷ 0 ∷ 0 ∷ 0
    ∷ []

-- `rules=1`
abbrev rules_a : List ℕ
rules_a = 114 ∷ 117 ∷ 108 ∷ 101 ∷ 115 ∷ 61 ∷ 49 ∷ 10 ∷ []

-- `nodes=3`
abbrev nodes_a : List ℕ
nodes_a = 110 ∷ 111 ∷ 100 ∷ 101 ∷ 115 ∷ 61 ∷ 51 ∷ 10 ∷ []

-- `literals=`
abbrev literals_a : List ℕ
literals_a = 108 ∷ 105 ∷ 116 ∷ 101 ∷ 114 ∷ 97 ∷ 108 ∷ 115 ∷ 61 ∷ 10 ∷ []

-- `rule=1 0 0 0 0 0 1 2 0 0 0 3 0 0 0`
abbrev rule_a : List ℕ
rule_a = 114 ∷ 117 ∷ 108 ∷ 101 ∷ 61 ∷ 49 ∷ 32 ∷ 48 ∷ 32 ∷ 48 ∷ 32 ∷ 48 ∷ 32 ∷ 48 ∷ 32 ∷ 48 ∷ 32 ∷ 49 ∷ 32 ∷ 50 ∷ 32 ∷ 48 ∷ 32 ∷ 48 ∷ 32 ∷ 48 ∷ 32 ∷ 51 ∷ 32 ∷ 48 ∷ 32 ∷ 48 ∷ 32 ∷ 48 ∷ 10 ∷ []

-- `node=2 71 0 0 0 0 0 0 0 0`
abbrev node0 : List ℕ
node0 = 110 ∷ 111 ∷ 100 ∷ 101 ∷ 61 ∷ 50 ∷ 32 ∷ 55 ∷ 49 ∷ 32 ∷ 48 ∷ 32 ∷ 48 ∷ 32 ∷ 48 ∷ 32 ∷ 48 ∷ 32 ∷ 48 ∷ 32 ∷ 48 ∷ 32 ∷ 48 ∷ 32 ∷ 48 ∷ 10 ∷ []

-- `node=8 0 0 0 0 0 0 0 0 0`
abbrev node1 : List ℕ
node1 = 110 ∷ 111 ∷ 100 ∷ 101 ∷ 61 ∷ 56 ∷ 32 ∷ 48 ∷ 32 ∷ 48 ∷ 32 ∷ 48 ∷ 32 ∷ 48 ∷ 32 ∷ 48 ∷ 32 ∷ 48 ∷ 32 ∷ 48 ∷ 32 ∷ 48 ∷ 32 ∷ 48 ∷ 10 ∷ []

-- `node=19 0 0 0 0 0 0 0 0 0`
abbrev node2 : List ℕ
node2 = 110 ∷ 111 ∷ 100 ∷ 101 ∷ 61 ∷ 49 ∷ 57 ∷ 32 ∷ 48 ∷ 32 ∷ 48 ∷ 32 ∷ 48 ∷ 32 ∷ 48 ∷ 32 ∷ 48 ∷ 32 ∷ 48 ∷ 32 ∷ 48 ∷ 32 ∷ 48 ∷ 32 ∷ 48 ∷ 10 ∷ []

abbrev head_a : List ℕ
head_a = rules_a ++ (nodes_a ++ literals_a)

abbrev text_a : List ℕ
text_a = head_a ++ (rule_a ++ (node0 ++ (node1 ++ node2)))

-- ════ A table with literals, and the greatest number ════

-- `nodes=1`
abbrev nodes_l : List ℕ
nodes_l = 110 ∷ 111 ∷ 100 ∷ 101 ∷ 115 ∷ 61 ∷ 49 ∷ 10 ∷ []

-- `literals=0aff`
abbrev literals_l : List ℕ
literals_l = 108 ∷ 105 ∷ 116 ∷ 101 ∷ 114 ∷ 97 ∷ 108 ∷ 115 ∷ 61 ∷ 48 ∷ 97 ∷ 102 ∷ 102 ∷ 10 ∷ []

-- `rule=65535 0 0 0 0 0 0 0 0 0 0 0 0 0 0`
abbrev rule_l : List ℕ
rule_l = 114 ∷ 117 ∷ 108 ∷ 101 ∷ 61 ∷ 54 ∷ 53 ∷ 53 ∷ 51 ∷ 53 ∷ 32 ∷ 48 ∷ 32 ∷ 48 ∷ 32 ∷ 48 ∷ 32 ∷ 48 ∷ 32 ∷ 48 ∷ 32 ∷ 48 ∷ 32 ∷ 48 ∷ 32 ∷ 48 ∷ 32 ∷ 48 ∷ 32 ∷ 48 ∷ 32 ∷ 48 ∷ 32 ∷ 48 ∷ 32 ∷ 48 ∷ 32 ∷ 48 ∷ 10 ∷ []

-- `node=0 0 0 0 0 0 0 0 0 0`
abbrev node_l : List ℕ
node_l = 110 ∷ 111 ∷ 100 ∷ 101 ∷ 61 ∷ 48 ∷ 32 ∷ 48 ∷ 32 ∷ 48 ∷ 32 ∷ 48 ∷ 32 ∷ 48 ∷ 32 ∷ 48 ∷ 32 ∷ 48 ∷ 32 ∷ 48 ∷ 32 ∷ 48 ∷ 32 ∷ 48 ∷ 10 ∷ []

abbrev words_l : List ℕ
words_l = 1 ∷ 1 ∷ 2 ∷ 65535 ∷ replicate 24 0

abbrev head_l : List ℕ
head_l = rules_a ++ (nodes_l ++ literals_l)

abbrev text_l : List ℕ
text_l = head_l ++ (rule_l ++ node_l)

-- ════ What is written ════

pub listed : listing words_a [] ≡ text_a
unfolding listing head_lines body_lines literals_line record_lines line numbers ending T.hex T.hex_digit T.decimal T.digits
listed = refl

pub listed_with_literals : listing words_l (10 ∷ 255 ∷ []) ≡ text_l
unfolding listing head_lines body_lines literals_line record_lines line numbers ending T.hex T.hex_digit T.decimal T.digits
listed_with_literals = refl

-- lent slices: other numbers stand in them
abbrev lent : ℕ → List ℕ
lent n = replicate n 7

-- room for the text, and for two bytes more: 'fills just the text', 'success tells the lengths'
pub writes : write words_a [] (lent (length text_a + 2)) ≡ written (Ok (length text_a)) (text_a ++ lent 2)
unfolding write over every size_ok listing head_lines body_lines literals_line record_lines line numbers ending T.hex T.hex_digit T.decimal T.digits
writes = refl

pub writes_with_literals : write words_l (10 ∷ 255 ∷ []) (lent (length text_l)) ≡ written (Ok (length text_l)) text_l
unfolding write over every size_ok listing head_lines body_lines literals_line record_lines line numbers ending T.hex T.hex_digit T.decimal T.digits
writes_with_literals = refl

-- a byte too few: 'OUT', and 'A refusal writes nothing'
pub writes_nothing : write words_a [] (lent (length text_a - 1)) ≡ written (Err Out) (lent (length text_a - 1))
unfolding write over every size_ok listing head_lines body_lines literals_line record_lines line numbers ending T.hex T.hex_digit T.decimal T.digits
writes_nothing = refl

-- 'the writer refuses SIZE, then OUT'
pub refuses_size_first : write (1 ∷ []) [] [] ≡ written (Err Size) []
unfolding write over every size_ok listing head_lines body_lines literals_line record_lines line numbers ending T.hex T.hex_digit T.decimal T.digits
refuses_size_first = refl

-- ════ What is read ════

-- room for just the table
pub reads : read text_a (lent 48) [] ≡ filled (done 48 0) words_a []
unfolding read_from read_rest head_at body_at count_at literals_at lines_at line_at numbers_at ending over F.after_key F.number F.number_from F.grown F.digit F.pairs F.pair_value F.hex_value
reads = refl

-- room for more: 'fills just the words and literals of the table', 'success tells the lengths'
pub reads_with_literals : read text_l (lent 30) (lent 3) ≡ filled (done 28 2) (words_l ++ lent 2) (10 ∷ 255 ∷ 7 ∷ [])
unfolding read_from read_rest head_at body_at count_at literals_at lines_at line_at numbers_at ending over F.after_key F.number F.number_from F.grown F.digit F.pairs F.pair_value F.hex_value
reads_with_literals = refl

-- a word too few, a literal too few: 'ROOM', and 'A refusal writes nothing'
pub no_room : read text_a (lent 47) (lent 1) ≡ filled (Err Room) (lent 47) (lent 1)
unfolding read_from read_rest head_at body_at count_at literals_at lines_at line_at numbers_at ending over F.after_key F.number F.number_from F.grown F.digit F.pairs F.pair_value F.hex_value
no_room = refl

pub no_room_for_literals : read text_l (lent 28) (lent 1) ≡ filled (Err Room) (lent 28) (lent 1)
unfolding read_from read_rest head_at body_at count_at literals_at lines_at line_at numbers_at ending over F.after_key F.number F.number_from F.grown F.digit F.pairs F.pair_value F.hex_value
no_room_for_literals = refl

-- 'ROOM is judged after line 3': with no room, and line 3 wrong; with no room, and line 4 missing
pub room_after_line_3 : map (λ (l : List ℕ). (read l [] []).answer) ((rules_a ++ nodes_a) ∷ head_a ∷ []) ≡ Err (Line 3) ∷ Err Room ∷ []
unfolding read_from read_rest head_at body_at count_at literals_at lines_at line_at numbers_at ending over F.after_key F.number F.number_from F.grown F.digit F.pairs F.pair_value F.hex_value
room_after_line_3 = refl

-- the answer to a text, with room for case A's table; a refusal leaves the slices as they are
abbrev answer_to : List ℕ → Reading
answer_to text = (read text (lent 48) []).answer

pub a_wrong_line_writes_nothing : read head_a (lent 48) (lent 1) ≡ filled (Err (Line 4)) (lent 48) (lent 1)
unfolding read_from read_rest head_at body_at count_at literals_at lines_at line_at numbers_at ending over F.after_key F.number F.number_from F.grown F.digit F.pairs F.pair_value F.hex_value
a_wrong_line_writes_nothing = refl

-- 'listing line wrong or missing', 'its number, from 1': case A without its last line, without its last two, and so on
pub missing_lines :
    map answer_to
    ((head_a ++ (rule_a ++ (node0 ++ node1))) ∷ (head_a ++ (rule_a ++ node0)) ∷ (head_a ++ rule_a) ∷ head_a ∷ (rules_a ++ nodes_a) ∷ rules_a ∷ [] ∷ [])
    ≡ Err (Line 7) ∷ Err (Line 6) ∷ Err (Line 5) ∷ Err (Line 4) ∷ Err (Line 3) ∷ Err (Line 2) ∷ Err (Line 1) ∷ []
unfolding read_from read_rest head_at body_at count_at literals_at lines_at line_at numbers_at ending over F.after_key F.number F.number_from F.grown F.digit F.pairs F.pair_value F.hex_value
missing_lines = refl

-- a listing that stands from place 2 on, its first line having the number 4
pub lines_from_4 : map (λ (l : List ℕ). (read_from l 2 4 (lent 48) []).answer) ((lent 2 ++ text_a) ∷ (lent 2 ++ head_a) ∷ []) ≡ done 48 0 ∷ Err (Line 7) ∷ []
unfolding read_from read_rest head_at body_at count_at literals_at lines_at line_at numbers_at ending over F.after_key F.number F.number_from F.grown F.digit F.pairs F.pair_value F.hex_value
lines_from_4 = refl

-- 'Bytes past the last line count as one more line, which is wrong': a byte 10, a node more
pub bytes_past : map answer_to ((text_a ++ (10 ∷ [])) ∷ (text_a ++ node2) ∷ []) ≡ Err (Line 8) ∷ Err (Line 8) ∷ []
unfolding read_from read_rest head_at body_at count_at literals_at lines_at line_at numbers_at ending over F.after_key F.number F.number_from F.grown F.digit F.pairs F.pair_value F.hex_value
bytes_past = refl

-- `rules=0`
abbrev rules0 : List ℕ
rules0 = 114 ∷ 117 ∷ 108 ∷ 101 ∷ 115 ∷ 61 ∷ 48 ∷ 10 ∷ []

-- `rules=64`
abbrev rules64 : List ℕ
rules64 = 114 ∷ 117 ∷ 108 ∷ 101 ∷ 115 ∷ 61 ∷ 54 ∷ 52 ∷ 10 ∷ []

-- `rules=65`
abbrev rules65 : List ℕ
rules65 = 114 ∷ 117 ∷ 108 ∷ 101 ∷ 115 ∷ 61 ∷ 54 ∷ 53 ∷ 10 ∷ []

-- `nodes=0`
abbrev nodes0 : List ℕ
nodes0 = 110 ∷ 111 ∷ 100 ∷ 101 ∷ 115 ∷ 61 ∷ 48 ∷ 10 ∷ []

-- `nodes=1024`
abbrev nodes1024 : List ℕ
nodes1024 = 110 ∷ 111 ∷ 100 ∷ 101 ∷ 115 ∷ 61 ∷ 49 ∷ 48 ∷ 50 ∷ 52 ∷ 10 ∷ []

-- `nodes=1025`
abbrev nodes1025 : List ℕ
nodes1025 = 110 ∷ 111 ∷ 100 ∷ 101 ∷ 115 ∷ 61 ∷ 49 ∷ 48 ∷ 50 ∷ 53 ∷ 10 ∷ []

-- 'Head values keep SIZE's ranges, else LINE'; a value that is right, and then nothing: the next line is the wrong one
pub head_ranges :
    map answer_to (rules0 ∷ rules65 ∷ rules64 ∷ (rules64 ++ nodes0) ∷ (rules64 ++ nodes1025) ∷ (rules64 ++ nodes1024) ∷ [])
    ≡ Err (Line 1) ∷ Err (Line 1) ∷ Err (Line 2) ∷ Err (Line 2) ∷ Err (Line 2) ∷ Err (Line 3) ∷ []
unfolding read_from read_rest head_at body_at count_at literals_at lines_at line_at numbers_at ending over F.after_key F.number F.number_from F.grown F.digit F.pairs F.pair_value F.hex_value
head_ranges = refl

-- `literals=` with so many bytes 0, as pairs
abbrev literals_of : ℕ → List ℕ
literals_of n = 108 ∷ 105 ∷ 116 ∷ 101 ∷ 114 ∷ 97 ∷ 108 ∷ 115 ∷ 61 ∷ (replicate (n + n) 48 ++ (10 ∷ []))

-- 4,096 literal bytes, for which there is no room; 4,097, which are too many
pub literal_range : map answer_to ((rules_a ++ (nodes_a ++ literals_of 4096)) ∷ (rules_a ++ (nodes_a ++ literals_of 4097)) ∷ []) ≡ Err Room ∷ Err (Line 3) ∷ []
unfolding read_from read_rest head_at body_at count_at literals_at lines_at line_at numbers_at ending over F.after_key F.number F.number_from F.grown F.digit F.pairs F.pair_value F.hex_value
literal_range = refl

-- `rule=65536 0 0 0 0 0 0 0 0 0 0 0 0 0 0`
abbrev rule65536 : List ℕ
rule65536 = 114 ∷ 117 ∷ 108 ∷ 101 ∷ 61 ∷ 54 ∷ 53 ∷ 53 ∷ 51 ∷ 54 ∷ 32 ∷ 48 ∷ 32 ∷ 48 ∷ 32 ∷ 48 ∷ 32 ∷ 48 ∷ 32 ∷ 48 ∷ 32 ∷ 48 ∷ 32 ∷ 48 ∷ 32 ∷ 48 ∷ 32 ∷ 48 ∷ 32 ∷ 48 ∷ 32 ∷ 48 ∷ 32 ∷ 48 ∷ 32 ∷ 48 ∷ 32 ∷ 48 ∷ 10 ∷ []

-- `rule=0 0 0 0 0 0 0 0 0 0 0 0 0 0`
abbrev rule_without : List ℕ
rule_without = 114 ∷ 117 ∷ 108 ∷ 101 ∷ 61 ∷ 48 ∷ 32 ∷ 48 ∷ 32 ∷ 48 ∷ 32 ∷ 48 ∷ 32 ∷ 48 ∷ 32 ∷ 48 ∷ 32 ∷ 48 ∷ 32 ∷ 48 ∷ 32 ∷ 48 ∷ 32 ∷ 48 ∷ 32 ∷ 48 ∷ 32 ∷ 48 ∷ 32 ∷ 48 ∷ 32 ∷ 48 ∷ 10 ∷ []

-- `rule=0 0 0 0 0 0 0 0 0 0 0 0 0 0 0 0`
abbrev rule_more : List ℕ
rule_more = 114 ∷ 117 ∷ 108 ∷ 101 ∷ 61 ∷ 48 ∷ 32 ∷ 48 ∷ 32 ∷ 48 ∷ 32 ∷ 48 ∷ 32 ∷ 48 ∷ 32 ∷ 48 ∷ 32 ∷ 48 ∷ 32 ∷ 48 ∷ 32 ∷ 48 ∷ 32 ∷ 48 ∷ 32 ∷ 48 ∷ 32 ∷ 48 ∷ 32 ∷ 48 ∷ 32 ∷ 48 ∷ 32 ∷ 48 ∷ 32 ∷ 48 ∷ 10 ∷ []

-- two spaces: `rule=0  0 ..`
abbrev rule_wide : List ℕ
rule_wide = 114 ∷ 117 ∷ 108 ∷ 101 ∷ 61 ∷ 48 ∷ 32 ∷ 32 ∷ 48 ∷ 32 ∷ 48 ∷ 32 ∷ 48 ∷ 32 ∷ 48 ∷ 32 ∷ 48 ∷ 32 ∷ 48 ∷ 32 ∷ 48 ∷ 32 ∷ 48 ∷ 32 ∷ 48 ∷ 32 ∷ 48 ∷ 32 ∷ 48 ∷ 32 ∷ 48 ∷ 32 ∷ 48 ∷ 32 ∷ 48 ∷ 10 ∷ []

-- `rule=00 0 0 0 0 0 0 0 0 0 0 0 0 0 0`
abbrev rule_zero : List ℕ
rule_zero = 114 ∷ 117 ∷ 108 ∷ 101 ∷ 61 ∷ 48 ∷ 48 ∷ 32 ∷ 48 ∷ 32 ∷ 48 ∷ 32 ∷ 48 ∷ 32 ∷ 48 ∷ 32 ∷ 48 ∷ 32 ∷ 48 ∷ 32 ∷ 48 ∷ 32 ∷ 48 ∷ 32 ∷ 48 ∷ 32 ∷ 48 ∷ 32 ∷ 48 ∷ 32 ∷ 48 ∷ 32 ∷ 48 ∷ 32 ∷ 48 ∷ 10 ∷ []

-- 'R lines `rule=` with 15 numbers', 'Decimals 0 to 65535, no leading zero, single spaces': line 4 is wrong; so is a line `node=` in its place, and one without byte 10
pub wrong_numbers :
    map (λ (l : List ℕ). answer_to (head_a ++ l)) (rule65536 ∷ rule_without ∷ rule_more ∷ rule_wide ∷ rule_zero ∷ node0 ∷ take 34 rule_a ∷ [])
    ≡ Err (Line 4) ∷ Err (Line 4) ∷ Err (Line 4) ∷ Err (Line 4) ∷ Err (Line 4) ∷ Err (Line 4) ∷ Err (Line 4) ∷ []
unfolding read_from read_rest head_at body_at count_at literals_at lines_at line_at numbers_at ending over F.after_key F.number F.number_from F.grown F.digit F.pairs F.pair_value F.hex_value
wrong_numbers = refl

-- ════ Numbers that come back ════

abbrev readings : List Reading
readings = done 5 6 ∷ Err (Line 7) ∷ Err Room ∷ []

abbrev writings : List Writing
writings = Ok 5 ∷ Err Size ∷ Err Out ∷ []

-- 0 DONE, 20 LINE, 21 ROOM; 1 SIZE, 22 OUT
pub reading_numbers : map reading_number readings ≡ 0 ∷ 20 ∷ 21 ∷ []
unfolding reading_number
reading_numbers = refl

pub writing_numbers : map writing_number writings ≡ 0 ∷ 1 ∷ 22 ∷ []
unfolding writing_number
writing_numbers = refl

-- LINE has 'its number' for a place, every other answer 0
pub reading_places : map reading_place readings ≡ 0 ∷ 7 ∷ 0 ∷ []
unfolding reading_place
reading_places = refl

pub writing_places : map writing_place writings ≡ 0 ∷ 0 ∷ 0 ∷ []
unfolding writing_place
writing_places = refl

-- 'success tells the lengths'
pub lengths :
    (map reading_words readings ≡ 5 ∷ 0 ∷ 0 ∷ []) × ((map reading_literals readings ≡ 6 ∷ 0 ∷ 0 ∷ []) × (map writing_length writings ≡ 5 ∷ 0 ∷ 0 ∷ []))
unfolding reading_words reading_literals writing_length
lengths = (refl, (refl, refl))
