-- What a reader finds stands in the text: the first three lines, and the others up to the text's end. Assumes nothing.
use Rattle.std.proofs.Common.{Option, Some, None, Ok, Err}
use mathlib.Core.Path.{◌≡◌, refl, sym, ap, ◌∙◌}
use mathlib.Core.List.{List, [], ◌∷◌, ◌++◌}
use mathlib.Core.Bool.{Bool, true, false, cond}
use Prim.Native.Nat.{ℕ, ◌+◌, ◌*◌, ◌≤◌}
use native.Mathlib.Omega.{arith}
use lib.Dec.{eqb}
use lib.ListN.{length, drop, length-append}
use lib.Seq.{drop_at}
use borrow.Author.Tests.{eqb-true}
use Rattle.laws.specs.Below.{AllBelow, below_append}
use Rattle.laws.specs.Parts.{Stands, stands_then}
use Rattle.text.specs.Stored.{taking, Took, largest_place}
use Rattle.text.proofs.Taking.{took_as, took_to, took_wrote, wrote_took}
use Rattle.listing.proofs.Steps.{body_nodes}
use Rattle.text.specs.Found.{on_number}
use Rattle.listing.specs.Listing.{rules_key, nodes_key, rule_key, node_key, line, record_lines, literals_line}
use Rattle.listing.specs.Reading.{on_head, Lines, head_of, on_lines, lines_at, count_at, literals_at, third_line, second_line, head_at, ended, node_lines_at, body_at}
use Rattle.listing.proofs.Lines.{records_front}
use Rattle.listing.proofs.Found.{Words-stand, lines_found, Count-stands, count_found, literals_found}

module _ (text : List ℕ) where
  -- ════ The first three lines ════

  pub record Head-stands (p r k n q : ℕ) (literals : List ℕ) : Type 0 where
    pub rules_least : 1 ≤ r
    pub rules_most : r ≤ 64
    pub nodes_least : 1 ≤ k
    pub nodes_most : k ≤ 1024
    pub literals_most : n ≤ 4096
    pub count : n ≡ length literals
    pub part : Stands text p (line rules_key (r ∷ []) ++ (line nodes_key (k ∷ []) ++ literals_line literals)) q
    pub all : AllBelow 256 literals

  pub head_found : (first p r k n q : ℕ) → (head_at text first p).found ≡ Ok (head_of r k n q) → Head-stands p r k n q (head_at text first p).numbers
  unfolding head_at
  head_found first p r k n q = rules (count_at text rules_key 1 64 p) refl
    where
      third : (v a x b : ℕ) (s : Option (ℕ × ℕ)) → Count-stands text rules_key 1 64 p v a → Count-stands text nodes_key 1 1024 a x b → (literals_at text b).found ≡ s
          → on_number (Err (first + 2)) (λ m y. Ok (head_of v x m y)) s ≡ Ok (head_of r k n q) → Head-stands p r k n q (literals_at text b).numbers
      third v a x b (Some (m, y)) f g h e =
          let l = literals_found text b m y h in
          let e₁ : v ≡ r = ap (on_head (λ z. 0) (λ a b c d. a)) e in
          let e₂ : x ≡ k = ap (on_head (λ z. 0) (λ a b c d. b)) e in
          let e₃ : m ≡ n = ap (on_head (λ z. 0) (λ a b c d. c)) e in
          let e₄ : y ≡ q = ap (on_head (λ z. 0) (λ a b c d. d)) e in
          let z : List ℕ = (literals_at text b).numbers in
          record {
            rules_least = omega (arith, f.least);
            rules_most = omega (arith, f.most);
            nodes_least = omega (arith, g.least);
            nodes_most = omega (arith, g.most);
            literals_most = omega (arith, l.most);
            count = omega (arith, l.count);
            part = rw (← e₁, ← e₂, ← e₄) (stands_then f.part (stands_then g.part l.part));
            all = l.all;
          }
      third v a x b None f g h e = let z : ◌≡◌ {A = ℕ} 0 1 = cc in absurd (omega arith)

      second : (v a : ℕ) (s : Option (ℕ × ℕ)) → Count-stands text rules_key 1 64 p v a → count_at text nodes_key 1 1024 a ≡ s
          → (on_number (taking [] (Err (first + 1))) (λ x b. third_line text first v x b) s).found ≡ Ok (head_of r k n q)
          → Head-stands p r k n q (on_number (taking [] (Err (first + 1))) (λ x b. third_line text first v x b) s).numbers
      second v a (Some (x, b)) f g e = third v a x b (literals_at text b).found f (count_found text nodes_key 1 1024 a x b g) refl e
      second v a None f g e = let z : ◌≡◌ {A = ℕ} 0 1 = cc in absurd (omega arith)

      rules : (s : Option (ℕ × ℕ)) → count_at text rules_key 1 64 p ≡ s
          → (on_number (taking [] (Err first)) (λ v a. second_line text first v a) s).found ≡ Ok (head_of r k n q)
          → Head-stands p r k n q (on_number (taking [] (Err first)) (λ v a. second_line text first v a) s).numbers
      rules (Some (v, a)) f e = second v a (count_at text nodes_key 1 1024 a) (count_found text rules_key 1 64 p v a f) refl e
      rules None f e = let z : ◌≡◌ {A = ℕ} 0 1 = cc in absurd (omega arith)

  -- ════ The other lines ════

  pub record Body-stands (p rules nodes q : ℕ) (words : List ℕ) : Type 0 where
    pub part : Stands text p (record_lines rule_key 15 rules words ++ record_lines node_key 10 nodes (drop (15 * rules) words)) q
    pub end : q ≡ length text
    pub count : length words ≡ 15 * rules + 10 * nodes
    pub all : AllBelow 65536 words

  pub body_found : (rules nodes n p q : ℕ) → (body_at text rules nodes n p).found ≡ Ok q → Body-stands p rules nodes q (body_at text rules nodes n p).numbers
  unfolding body_at
  body_found rules nodes n p q = first (lines_at text rule_key 15 rules n p).found refl
    where
      a : List ℕ
      a = (lines_at text rule_key 15 rules n p).numbers

      last : (x y : ℕ) (t : Bool) → Words-stand text p (record_lines rule_key 15 rules a) x (rules * 15) a → (lines_at text node_key 10 nodes (n + rules) x).found ≡ Ok y
          → eqb y (length text) ≡ t → cond t (Ok y) (Err (n + rules + nodes)) ≡ Ok q
          → Body-stands p rules nodes q (a ++ (lines_at text node_key 10 nodes (n + rules) x).numbers)
      last x y true f g h e =
          let b : List ℕ = (lines_at text node_key 10 nodes (n + rules) x).numbers in
          let m = lines_found text node_key 10 nodes (n + rules) x y g in
          let e₁ : y ≡ q = cc in
          let c : length a ≡ 15 * rules = omega (arith, f.count) in
          record {
            part = rw (records_front rule_key 15 rules a b (omega (arith, f.count)), drop_at a b (15 * rules) c, ← e₁) (stands_then f.part m.part);
            end = omega (arith, eqb-true y (length text) h);
            count = length-append a b ∙ omega (arith, f.count, m.count);
            all = below_append 65536 a b f.all m.all;
          }
      last x y false f g h e = let z : ◌≡◌ {A = ℕ} 0 1 = cc in absurd (omega arith)

      second : (x : ℕ) (s : Lines) → Words-stand text p (record_lines rule_key 15 rules a) x (rules * 15) a → (lines_at text node_key 10 nodes (n + rules) x).found ≡ s
          → ended text (n + rules + nodes) s ≡ Ok q → Body-stands p rules nodes q (a ++ (lines_at text node_key 10 nodes (n + rules) x).numbers)
      second x (Ok y) f g e = last x y (eqb y (length text)) f g refl e
      second x (Err y) f g e = let z : ◌≡◌ {A = ℕ} 0 1 = cc in absurd (omega arith)

      first : (s : Lines) → (lines_at text rule_key 15 rules n p).found ≡ s
          → (on_lines (λ m. taking [] (Err m)) (λ x. node_lines_at text nodes (n + rules) x) s).found ≡ Ok q
          → Body-stands p rules nodes q (a ++ (on_lines (λ m. taking [] (Err m)) (λ x. node_lines_at text nodes (n + rules) x) s).numbers)
      first (Ok x) f e =
          second x (lines_at text node_key 10 nodes (n + rules) x).found (lines_found text rule_key 15 rules n p x f) refl e
      first (Err x) f e = let z : ◌≡◌ {A = ℕ} 0 1 = cc in absurd (omega arith)

  -- R lines `rule=`, then K lines `node=`: what comes of the second is told
  pub body_after : (rules nodes n p q from next : ℕ) {f : Lines} {found : Lines} {l l₁ l₂ : List ℕ} → length l ≤ largest_place → from + 15 * rules ≤ largest_place
      → Took (lines_at text rule_key 15 rules n p) l from (Ok q) l₁ → next ≡ from + 15 * rules → Took (lines_at text node_key 10 nodes (n + rules) q) l₁ next f l₂
      → found ≡ ended text (n + rules + nodes) f → Took (body_at text rules nodes n p) l from found l₂
  body_after rules nodes n p q from next {f} {found} h g a e b t =
      let c = (lines_found text rule_key 15 rules n p q (sym a.found_is)).count in
      took_as (body_nodes text rules nodes n p (Ok q) a.found_is q refl)
      (wrote_took h (took_wrote a (omega (arith, c))) (took_to b (t ∙ ap (ended text (n + rules + nodes)) b.found_is)))
