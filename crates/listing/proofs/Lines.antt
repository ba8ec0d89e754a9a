-- The lines of a listing, as a writer goes through them. Assumes nothing.
use mathlib.Core.Path.{◌≡◌, refl, sym, ap, ◌∙◌}
use mathlib.Core.List.{List, [], ◌∷◌, ◌++◌, append_assoc}
use Prim.Native.Nat.{ℕ, zero, suc, ◌+◌, ◌-◌, ◌*◌, ◌/◌, ◌≤◌, ◌<◌}
use native.Mathlib.Omega.{arith}
use lib.ListN.{length, take, drop, get_or, take-append-drop, length-append, length-drop, length-take, drop_of_length-le}
use lib.Seq.{take_at, drop_at, take-append-le, drop-append-le}
use Rattle.std.proofs.Math.Nat.{add-div_left, div-eq_of_lt}
use Rattle.laws.specs.Parts.{drop_one, take_rest}
use Rattle.grammar.specs.Words.{rule_count, node_count, rule_start}
use Rattle.text.specs.Written.{decimal, hex}
use Rattle.text.proofs.Decimals.{decimal_length}
use Rattle.text.proofs.Pairs.{hex_length}
use Rattle.listing.specs.Listing.{rules_key, nodes_key, literals_key, rule_key, node_key, ending, numbers, line, record_lines, literals_line, head_lines, body_lines, listing}
use Rattle.table.proofs.Size.{Sized}

-- ════ One after another ════

pub numbers_one : (words : List ℕ) (i k : ℕ) → i < length words → k ≡ length words - 1 - i
    → numbers (drop i words) ≡ (decimal (get_or words i 0) ++ (ending k ∷ [])) ++ numbers (drop (i + 1) words)
unfolding numbers
numbers_one words i k h e =
    let d : k ≡ length words - (i + 1) = omega (arith, e) in
    rw (drop_one words i 0 h, d, append_assoc, length-drop)

pub numbers_none : (words : List ℕ) (i : ℕ) → length words ≤ i → numbers (drop i words) ≡ []
unfolding numbers
numbers_none words i h = rw (drop_of_length-le words h)

pub line_is : (key ns : List ℕ) → key ++ numbers ns ≡ line key ns
unfolding line
line_is key ns = refl

fewer_words : (i k width : ℕ) → i ≤ k → i * width ≤ k * width
fewer_words zero k width h = omega arith
fewer_words (suc i) zero width h = absurd (omega arith)
fewer_words (suc i) (suc k) width h = omega (arith, fewer_words i k width (omega arith))

-- a record with others before it, among so many
pub record_place : (i count width from n : ℕ) → i < count → from + count * width ≤ n → from + i * width + width ≤ n
record_place i zero width from n h g = absurd (omega arith)
record_place i (suc k) width from n h g = omega (arith, fewer_words i k width (omega arith))

pub record_next : (i width from : ℕ) → from + i * width + width ≡ from + (i + 1) * width
record_next i width from = let e : i + 1 ≡ suc i = omega arith in rw e (omega arith)

-- the lines of all records that words hold: of the first and the others
pub records_one : (key first rest : List ℕ) (width : ℕ) → 0 < width → length first ≡ width
    → record_lines key width (length (first ++ rest) / width) (first ++ rest) ≡ line key first ++ record_lines key width (length rest / width) rest
unfolding record_lines
records_one key first rest width h e =
    let n : length (first ++ rest) ≡ width + length rest = length-append first rest ∙ omega (arith, e) in
    let d : length (first ++ rest) / width ≡ suc (length rest / width) = ap (λ (z : ℕ). z / width) n ∙ add-div_left (length rest) h ∙ omega arith in
    rw (d, take_at first rest width e, drop_at first rest width e) refl

pub records_none : (key words : List ℕ) (width : ℕ) → length words < width → record_lines key width (length words / width) words ≡ []
unfolding record_lines
records_none key words width h = rw (div-eq_of_lt h) refl

-- so many lines say nothing of the words after theirs
pub records_front : (key : List ℕ) (width k : ℕ) (a b : List ℕ) → k * width ≤ length a → record_lines key width k (a ++ b) ≡ record_lines key width k a
unfolding record_lines
records_front key width zero a b h = refl
records_front key width (suc k) a b h =
    let w : width ≤ length a = omega arith in
    rw (take-append-le width a b w, drop-append-le width a b w)
    (ap (λ (x : List ℕ). line key (take width a) ++ x) (records_front key width k (drop width a) b (omega (arith, length-drop width a))))

-- ════ The parts of a listing ════

pub literals_is : (literals : List ℕ) → (literals_key ++ hex literals) ++ (10 ∷ []) ≡ literals_line literals
unfolding literals_line
literals_is literals = append_assoc literals_key (hex literals) (10 ∷ [])

first_word : (words : List ℕ) → 2 ≤ length words → take 1 words ≡ get_or words 0 0 ∷ []
first_word [] h = absurd (omega arith)
first_word (a ∷ words) h = refl

second_word : (words : List ℕ) → 2 ≤ length words → take 1 (drop 1 words) ≡ get_or words 1 0 ∷ []
second_word [] h = absurd (omega arith)
second_word (a ∷ []) h = absurd (omega arith)
second_word (a ∷ b ∷ words) h = refl

pub head_is : (words literals : List ℕ) → 2 ≤ length words
    → (line rules_key (take 1 words) ++ line nodes_key (take 1 (drop 1 words))) ++ literals_line literals ≡ head_lines words literals
unfolding head_lines
head_is words literals h =
    rw (first_word words h, second_word words h)
    (append_assoc (line rules_key (rule_count words ∷ [])) (line nodes_key (node_count words ∷ [])) (literals_line literals))

-- a table's records, up to the first node and from there on
pub listing_is : (words literals : List ℕ) → Sized words (length literals) → (nodes : ℕ) → nodes ≡ rule_start (rule_count words)
    → (head_lines words literals ++ record_lines rule_key 15 (length (take (nodes - 3) (drop 3 words)) / 15) (take (nodes - 3) (drop 3 words)))
    ++ record_lines node_key 10 (length (take (length words - nodes) (drop nodes words)) / 10) (take (length words - nodes) (drop nodes words))
    ≡ listing words literals
unfolding listing body_lines
listing_is words literals s nodes e =
    let rules : ℕ = rule_count words in
    let a : List ℕ = take (nodes - 3) (drop 3 words) in
    let n : length a ≡ 15 * rules = omega (arith, length-take (nodes - 3) (drop 3 words), length-drop 3 words, s.words_are) in
    let i : length a / 15 ≡ rules = omega arith in
    let b : record_lines rule_key 15 rules a ≡ record_lines rule_key 15 rules (drop 3 words) =
    sym (records_front rule_key 15 rules a (drop (nodes - 3) (drop 3 words)) (omega arith)) ∙ ap (record_lines rule_key 15 rules) (take-append-drop (nodes - 3) (drop 3 words)) in
    let j : length (drop nodes words) / 10 ≡ node_count words = omega (arith, length-drop nodes words, s.words_are) in
    rw (i, b, take_rest words nodes, j, e) (append_assoc (head_lines words literals) (record_lines rule_key 15 rules (drop 3 words)) (record_lines node_key 10 (node_count words) (drop (rule_start rules) words)))

-- ════ How long a listing is at most ════

numbers_most : (ns : List ℕ) → length (numbers ns) ≤ 11 * length ns
unfolding numbers
numbers_most [] = omega arith
numbers_most (n ∷ ns) = simp length-append (omega (arith, decimal_length n, numbers_most ns))

records_most : (key : List ℕ) (width count : ℕ) (words : List ℕ) → length (record_lines key width count words) ≤ count * (length key + 11 * width)
unfolding record_lines line
records_most key width zero words = omega arith
records_most key width (suc count) words =
    simp length-append (omega (arith, numbers_most (take width words), length-take width words, records_most key width count (drop width words)))

-- so it can be measured
pub listing_most : (words literals : List ℕ) → Sized words (length literals) → length (listing words literals) < 200000
unfolding listing head_lines literals_line line body_lines
listing_most words literals s =
    simp length-append
    (omega (
      arith,
      hex_length literals,
      numbers_most (rule_count words ∷ []),
      numbers_most (node_count words ∷ []),
      records_most rule_key 15 (rule_count words) (drop 3 words),
      records_most node_key 10 (node_count words) (drop (3 + 15 * rule_count words) words),
    ))
