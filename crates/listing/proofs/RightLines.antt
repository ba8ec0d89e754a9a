-- A listing line after line: what each line may say, given those before it. Assumes nothing.
use mathlib.Core.Path.{◌≡◌, refl, sym, ap, ◌∙◌, subst}
use mathlib.Core.List.{List, [], ◌∷◌, ◌++◌, append_assoc, append-nil}
use Prim.Native.Nat.{ℕ, zero, suc, ◌+◌, ◌*◌, ◌≤◌}
use native.Mathlib.Omega.{arith}
use lib.ListN.{length, take, drop, replicate, length-append, length-drop, length-replicate}
use lib.Seq.{drop-drop, take_at, drop_at, length-take-le}
use Rattle.laws.specs.Below.{AllBelow, below_append, below_take, below_drop}
use Rattle.grammar.specs.Words.{rule_count, node_count, rule_start}
use Rattle.table.proofs.Size.{Sized, size_facts, size_right}
use Rattle.listing.specs.Listing.{rules_key, nodes_key, rule_key, node_key, line, record_lines, literals_line, head_lines, body_lines, listing}
use Rattle.listing.specs.Plain.{Table, IsListing}
use Rattle.listing.proofs.Lines.{records_front}
use Rattle.listing.proofs.Stopping.{Line-then, End, SomeText, some_line}

-- ════ What a line may say ════

abbrev pub Numbers : (width : ℕ) → List ℕ → Type 0
Numbers width ns = (length ns ≡ width) × AllBelow 65536 ns

abbrev pub Between : (low high n : ℕ) → Type 0
Between low high n = (low ≤ n) × (n ≤ high)

abbrev pub Literals : List ℕ → Type 0
Literals literals = (length literals ≤ 4096) × AllBelow 256 literals

-- so many lines of records, and what may follow them
abbrev pub Records : (key : List ℕ) (width count : ℕ) (Rest : List ℕ → Type 0) → List ℕ → Type 0
Records key width zero Rest = Rest
Records key width (suc count) Rest = Line-then (line key) (Numbers width) (λ ns. Records key width count Rest)

abbrev pub FromFourth : (rules nodes : ℕ) → List ℕ → Type 0
FromFourth rules nodes = Records rule_key 15 rules (Records node_key 10 nodes End)

abbrev pub FromThird : (rules nodes : ℕ) → List ℕ → Type 0
FromThird rules nodes = Line-then literals_line Literals (λ literals. FromFourth rules nodes)

abbrev pub FromSecond : (rules : ℕ) → List ℕ → Type 0
FromSecond rules = Line-then (λ n. line nodes_key (n ∷ [])) (Between 1 1024) (λ nodes. FromThird rules nodes)

abbrev pub FromFirst : List ℕ → Type 0
FromFirst = Line-then (λ n. line rules_key (n ∷ [])) (Between 1 64) (λ rules. FromSecond rules)

-- ════ Each may go on: with one rule, one node, no literals, and records of zeros ════

abbrev pub zeros : ℕ → List ℕ
zeros n = replicate n 0

pub zeros_fit : (n : ℕ) → AllBelow 65536 (zeros n)
zeros_fit zero = tt
zeros_fit (suc n) = (omega arith, zeros_fit n)

pub zeros_length : (n : ℕ) → length (zeros n) ≡ n
zeros_length n = length-replicate {A = ℕ} n 0

pub some_records : (key : List ℕ) (width count : ℕ) {Rest : List ℕ → Type 0} → SomeText Rest → SomeText (Records key width count Rest)
some_records key width zero s = s
some_records key width (suc count) s = some_line (zeros width) (zeros_length width, zeros_fit width) (some_records key width count s)

pub some_nodes : (nodes : ℕ) → SomeText (Records node_key 10 nodes End)
some_nodes nodes = some_records node_key 10 nodes ([], refl)

pub some_third : (rules nodes : ℕ) → SomeText (FromThird rules nodes)
some_third rules nodes = some_line [] (omega arith, tt) (some_records rule_key 15 rules (some_nodes nodes))

pub some_second : (rules : ℕ) → SomeText (FromSecond rules)
some_second rules = some_line 1 (omega arith, omega arith) (some_third rules 1)

pub some_first : SomeText FromFirst
some_first = some_line 1 (omega arith, omega arith) (some_second 1)

-- ════ Such lines are a listing ════

record Records-say (key : List ℕ) (width count : ℕ) (Rest : List ℕ → Type 0) (text : List ℕ) : Type 0 where
  words : List ℕ
  rest : List ℕ
  count_is : length words ≡ count * width
  all : AllBelow 65536 words
  is : text ≡ record_lines key width count words ++ rest
  follows : Rest rest

records_say : (key : List ℕ) (width count : ℕ) {Rest : List ℕ → Type 0} (text : List ℕ) → Records key width count Rest text
    → Records-say key width count Rest text
unfolding record_lines
records_say key width zero text r = record { words = []; rest = text; count_is = omega arith; all = tt; is = refl; follows = r }
records_say key width (suc count) text r =
    let s = records_say key width count r.rest r.follows in
    let a : List ℕ = r.says in
    let b : List ℕ = s.words in
    record {
      words = a ++ b;
      rest = s.rest;
      count_is = length-append a b ∙ omega (arith, r.right.0, s.count_is);
      all = below_append 65536 a b r.right.1 s.all;
      is = rw (take_at a b width r.right.0, drop_at a b width r.right.0)
          (r.is ∙ ap (λ (z : List ℕ). line key a ++ z) s.is ∙ sym (append_assoc (line key a) (record_lines key width count b) s.rest));
      follows = s.follows;
    }

-- the lines of the records, of the words after the first three
pub body_words : (rules nodes : ℕ) (words : List ℕ)
    → body_lines rules nodes words ≡ record_lines rule_key 15 rules (drop 3 words) ++ record_lines node_key 10 nodes (drop (15 * rules) (drop 3 words))
unfolding body_lines
body_words rules nodes words =
    ap (λ (z : List ℕ). record_lines rule_key 15 rules (drop 3 words) ++ record_lines node_key 10 nodes z) (sym (drop-drop (15 * rules) 3 words))

pub table_right : (rules nodes n : ℕ) (words literals : List ℕ) → Between 1 64 rules → Between 1 1024 nodes → n ≡ length literals → Literals literals
    → length words ≡ 15 * rules + 10 * nodes → AllBelow 65536 words → Table (rules ∷ nodes ∷ n ∷ words) literals
table_right rules nodes n words literals r k e l c h =
    let s : Sized (rules ∷ nodes ∷ n ∷ words) (length literals) = record {
      three = omega arith;
      rules_least = r.0;
      rules_most = r.1;
      nodes_least = k.0;
      nodes_most = k.1;
      literals_most = omega (arith, l.0);
      words_are = omega arith;
      literals_are = sym e;
    } in
    record {
      size = size_right (rules ∷ nodes ∷ n ∷ words) (length literals) s;
      words_fit = (omega (arith, r.1), (omega (arith, k.1), (omega (arith, l.0), h)));
      literals_fit = l.1;
    }

regroup : (r k l x y : List ℕ) → r ++ (k ++ (l ++ (x ++ (y ++ [])))) ≡ (r ++ (k ++ l)) ++ (x ++ y)
regroup r k l x y = simp (append_assoc, append-nil)

pub lines_listing : (text : List ℕ) → FromFirst text → IsListing text
unfolding listing head_lines
lines_listing text r =
    let k = r.follows in
    let l = k.follows in
    let a = records_say rule_key 15 r.says l.rest l.follows in
    let b = records_say node_key 10 k.says a.rest a.follows in
    let words : List ℕ = r.says ∷ k.says ∷ length l.says ∷ (a.words ++ b.words) in
    let one : List ℕ = line rules_key (r.says ∷ []) in
    let two : List ℕ = line nodes_key (k.says ∷ []) in
    let three : List ℕ = literals_line l.says in
    let x : List ℕ = record_lines rule_key 15 r.says a.words in
    let y : List ℕ = record_lines node_key 10 k.says b.words in
    let n : length a.words ≡ 15 * r.says = omega (arith, a.count_is) in
    let body : body_lines r.says k.says words ≡ x ++ y =
    rw (body_words r.says k.says words, drop_at a.words b.words (15 * r.says) n, records_front rule_key 15 r.says a.words b.words (omega arith)) in
    record {
      table_words = words;
      table_literals = l.says;
      table = table_right r.says k.says (length l.says) (a.words ++ b.words) l.says r.right k.right refl l.right
          (length-append a.words b.words ∙ omega (arith, a.count_is, b.count_is)) (below_append 65536 a.words b.words a.all b.all);
      is = r.is ∙ ap (λ (z : List ℕ). one ++ z)
          (k.is ∙ ap (λ (z : List ℕ). two ++ z)
          (l.is ∙ ap (λ (z : List ℕ). three ++ z) (a.is ∙ ap (λ (z : List ℕ). x ++ z) (b.is ∙ ap (λ (z : List ℕ). y ++ z) b.follows))))
          ∙ regroup one two three x y ∙ ap (λ (z : List ℕ). (one ++ (two ++ three)) ++ z) (sym body);
    }

pub some_listing : SomeText IsListing
some_listing = (some_first.0, lines_listing some_first.0 some_first.1)

-- ════ And a listing is such lines ════

records_lines : (key : List ℕ) (width count : ℕ) (Rest : List ℕ → Type 0) (words rest : List ℕ) → count * width ≤ length words → AllBelow 65536 words → Rest rest
    → Records key width count Rest (record_lines key width count words ++ rest)
unfolding record_lines
records_lines key width zero Rest words rest h g r = r
records_lines key width (suc count) Rest words rest h g r =
    record {
      says = take width words;
      right = (length-take-le width words (omega arith), below_take 65536 width words g);
      rest = record_lines key width count (drop width words) ++ rest;
      is = append_assoc (line key (take width words)) (record_lines key width count (drop width words)) rest;
      follows = records_lines key width count Rest (drop width words) rest (omega (arith, length-drop width words)) (below_drop 65536 width words g) r;
    }

pub listing_lines : (text : List ℕ) → IsListing text → FromFirst text
unfolding listing head_lines body_lines
listing_lines text i =
    let words : List ℕ = i.table_words in
    let literals : List ℕ = i.table_literals in
    let s = size_facts words (length literals) i.table.size in
    let rules : ℕ = rule_count words in
    let nodes : ℕ = node_count words in
    let x : List ℕ = record_lines rule_key 15 rules (drop (rule_start 0) words) in
    let y : List ℕ = record_lines node_key 10 nodes (drop (rule_start rules) words) in
    let last : Records node_key 10 nodes End y = subst (Records node_key 10 nodes End) (append-nil y)
    (records_lines node_key 10 nodes End (drop (rule_start rules) words) [] (omega (arith, s.words_are, length-drop (rule_start rules) words))
    (below_drop 65536 (rule_start rules) words i.table.words_fit) refl) in
    record {
      says = rules;
      right = (s.rules_least, s.rules_most);
      rest = line nodes_key (nodes ∷ []) ++ (literals_line literals ++ (x ++ y));
      is = i.is ∙ simp append_assoc;
      follows = record {
        says = nodes;
        right = (s.nodes_least, s.nodes_most);
        rest = literals_line literals ++ (x ++ y);
        is = refl;
        follows = record {
          says = literals;
          right = (omega (arith, s.literals_are, s.literals_most), i.table.literals_fit);
          rest = x ++ y;
          is = refl;
          follows = records_lines rule_key 15 rules (Records node_key 10 nodes End) (drop (rule_start 0) words) y (omega (arith, s.words_are, length-drop (rule_start 0) words))
              (below_drop 65536 (rule_start 0) words i.table.words_fit) last;
        };
      };
    }
