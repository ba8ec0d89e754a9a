-- What stands in the text is found: lines, the first three, the others. Assumes nothing.
use Rattle.std.proofs.Common.{Some, Ok}
use mathlib.Core.Path.{◌≡◌, refl, sym, ap, ◌∙◌}
use mathlib.Core.List.{List, [], ◌∷◌, ◌++◌, append_assoc}
use mathlib.Core.Bool.{Bool, true, false, cond}
use Prim.Native.Nat.{ℕ, zero, suc, ◌+◌, ◌*◌, ◌≤◌, ◌<◌}
use native.Mathlib.Omega.{arith}
use lib.Dec.{eqb}
use lib.ListN.{length, take, drop, length-drop, take-append-drop}
use lib.Seq.{take-add, take_all, length-take-le}
use borrow.Author.Tests.{eq-eqb}
use Rattle.laws.specs.Below.{AllBelow, below_take, below_drop}
use Rattle.laws.specs.Parts.{Stands, stands_as, stands_first, stands_second}
use Rattle.text.specs.Stored.{taking, also}
use Rattle.text.specs.Written.{decimal, hex}
use Rattle.text.proofs.Keys.{key_reads}
use Rattle.text.proofs.Numbers.{number_reads}
use Rattle.text.proofs.Pairs.{pairs_reads}
use Rattle.listing.specs.Listing.{rules_key, nodes_key, literals_key, rule_key, node_key, ending, numbers, line, record_lines, literals_line}
use Rattle.laws.specs.Range.{within}
use Rattle.listing.specs.Reading.{head_of, numbers_at, line_at, lines_at, count_at, literals_at, head_at, body_at}

ending_low : (k : ℕ) → ending k < 48
unfolding ending
ending_low k = go (eqb k 0)
  where
    go : (t : Bool) → cond t 10 32 < 48
    go true = omega arith
    go false = omega arith

module _ (text : List ℕ) where
  pub numbers_back : (ns : List ℕ) (p q : ℕ) → AllBelow 65536 ns → Stands text p (numbers ns) q → numbers_at text (length ns) p ≡ taking ns (Some q)
  unfolding numbers numbers_at
  numbers_back [] p q h s = let e : p ≡ q = omega (arith, s.place) in ap (λ (z : ℕ). taking [] (Some z)) e
  numbers_back (n ∷ ns) p q h s =
      let e : ℕ = ending (length ns) in
      let a : List ℕ = decimal n ++ (e ∷ []) in
      let t : Stands text p (a ++ numbers ns) q = stands_as (sym (append_assoc (decimal n) (e ∷ []) (numbers ns))) s in
      let x : ℕ = p + length a in
      let f = number_reads text e 65535 p n x (ending_low (length ns)) (omega (arith, h.0)) (omega (arith, h.0)) (stands_first a (numbers ns) t) in
      rw f (ap (also (n ∷ [])) (numbers_back ns x q h.1 (stands_second a (numbers ns) t)))

  pub line_back : (key ns : List ℕ) (p q : ℕ) → AllBelow 65536 ns → Stands text p (line key ns) q → line_at text key (length ns) p ≡ taking ns (Some q)
  unfolding line line_at
  line_back key ns p q h s =
      rw (key_reads text key p (p + length key) (stands_first key (numbers ns) s)) (numbers_back ns (p + length key) q h (stands_second key (numbers ns) s))

  pub lines_back : (key : List ℕ) (width k : ℕ) (words : List ℕ) (n p q : ℕ) → k * width ≤ length words → AllBelow 65536 words
      → Stands text p (record_lines key width k words) q → lines_at text key width k n p ≡ taking (take (k * width) words) (Ok q)
  unfolding record_lines lines_at
  lines_back key width zero words n p q g h s =
      let z : 0 * width ≡ 0 = omega arith in
      let e : p ≡ q = omega (arith, s.place) in
      rw z (ap (λ (x : ℕ). taking [] (Ok x)) e)
  lines_back key width (suc k) words n p q g h s =
      let t : List ℕ = take width words in
      let more : List ℕ = record_lines key width k (drop width words) in
      let x : ℕ = p + length (line key t) in
      let w : length t ≡ width = length-take-le width words (omega arith) in
      let f : line_at text key width p ≡ taking t (Some x) =
      ap (λ (z : ℕ). line_at text key z p) (sym w) ∙ line_back key t p x (below_take 65536 width words h) (stands_first (line key t) more s) in
      let ih = lines_back key width k (drop width words) (n + 1) x q (omega (arith, length-drop width words)) (below_drop 65536 width words h) (stands_second (line key t) more s) in
      let y : suc k * width ≡ width + k * width = omega arith in
      rw f (ap (also t) ih ∙ ap (λ (z : List ℕ). taking z (Ok q)) (sym (take-add width (k * width) words)) ∙ ap (λ (z : ℕ). taking (take z words) (Ok q)) (sym y))

  pub count_back : (key : List ℕ) (low high v p q : ℕ) → v < 65536 → within low high v ≡ true → Stands text p (line key (v ∷ [])) q
      → count_at text key low high p ≡ Some (v, q)
  unfolding line numbers count_at ending
  count_back key low high v p q h g s =
      let x : ℕ = p + length key in
      rw (
        key_reads text key p x (stands_first key (decimal v ++ (10 ∷ [])) s),
        number_reads text 10 65535 x v q (omega arith) (omega arith) (omega arith) (stands_second key (decimal v ++ (10 ∷ [])) s),
        g,
      )

  pub literals_back : (literals : List ℕ) (p q : ℕ) → AllBelow 256 literals → within 0 4096 (length literals) ≡ true → Stands text p (literals_line literals) q
      → literals_at text p ≡ taking literals (Some ((length literals), q))
  unfolding literals_line literals_at
  literals_back literals p q h g s =
      let x : ℕ = p + length literals_key in
      rw (
        key_reads text literals_key p x (stands_first literals_key (hex literals ++ (10 ∷ [])) s),
        pairs_reads text literals x q h (stands_second literals_key (hex literals ++ (10 ∷ [])) s),
        g,
      )

  pub head_back : (r k : ℕ) (literals : List ℕ) (first p q : ℕ) → r < 65536 → within 1 64 r ≡ true → k < 65536 → within 1 1024 k ≡ true → AllBelow 256 literals
      → within 0 4096 (length literals) ≡ true → Stands text p (line rules_key (r ∷ []) ++ (line nodes_key (k ∷ []) ++ literals_line literals)) q
      → head_at text first p ≡ taking literals (Ok (head_of r k (length literals) q))
  unfolding head_at
  head_back r k literals first p q hr gr hk gk hl gl s =
      let one : List ℕ = line rules_key (r ∷ []) in
      let two : List ℕ = line nodes_key (k ∷ []) in
      let three : List ℕ = literals_line literals in
      let x : ℕ = p + length one in
      let y : ℕ = x + length two in
      let t : Stands text x (two ++ three) q = stands_second one (two ++ three) s in
      rw (
        count_back rules_key 1 64 r p x hr gr (stands_first one (two ++ three) s),
        count_back nodes_key 1 1024 k x y hk gk (stands_first two three t),
        literals_back literals y q hl gl (stands_second two three t),
      )

  pub body_back : (rules nodes : ℕ) (words : List ℕ) (n p : ℕ) → length words ≡ 15 * rules + 10 * nodes → AllBelow 65536 words
      → Stands text p (record_lines rule_key 15 rules words ++ record_lines node_key 10 nodes (drop (15 * rules) words)) (length text)
      → body_at text rules nodes n p ≡ taking words (Ok (length text))
  unfolding body_at
  body_back rules nodes words n p e h s =
      let one : List ℕ = record_lines rule_key 15 rules words in
      let two : List ℕ = record_lines node_key 10 nodes (drop (15 * rules) words) in
      let x : ℕ = p + length one in
      let c : rules * 15 ≡ 15 * rules = omega arith in
      let a = lines_back rule_key 15 rules words n p x (omega arith) h (stands_first one two s) in
      let b = lines_back node_key 10 nodes (drop (15 * rules) words) (n + rules) x (length text) (omega (arith, length-drop (15 * rules) words))
      (below_drop 65536 (15 * rules) words h) (stands_second one two s) in
      let d : take (rules * 15) words ++ take (nodes * 10) (drop (15 * rules) words) ≡ words =
      ap (λ (z : List ℕ). take (rules * 15) words ++ z) (take_all (nodes * 10) (drop (15 * rules) words) (omega (arith, length-drop (15 * rules) words)))
      ∙ ap (λ (z : ℕ). take z words ++ drop (15 * rules) words) c ∙ take-append-drop (15 * rules) words in
      rw (a, b, eq-eqb (length text) (length text) refl) (ap (λ (z : List ℕ). taking z (Ok (length text))) d)
