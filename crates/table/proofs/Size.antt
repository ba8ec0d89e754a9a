-- SIZE: the facts that the rule gives, and back. Assumes nothing.
use mathlib.Core.Path.{◌≡◌, refl}
use mathlib.Core.List.{List}
use mathlib.Core.Bool.{Bool, true, false, ◌&&◌}
use Prim.Native.Nat.{ℕ, ◌+◌, ◌*◌, ◌≤◌}
use lib.Dec.{leb, eqb}
use lib.ListN.{length}
use borrow.Author.Tests.{leb-true, eqb-true, le-leb, eq-eqb}
use Rattle.grammar.specs.Words.{rule_count, node_count, literal_count}
use Rattle.grammar.specs.Form.{every, size_ok}
use Rattle.laws.specs.Tests.{both}
use Rattle.laws.specs.Range.{within}

-- brackets of tests make no difference
in_order : (a b c d e f g h : Bool) → (((((a && (b && c)) && (d && e)) && f) && g) && h) ≡ (a && (b && (c && (d && (e && (f && (g && (h && true))))))))
in_order false b c d e f g h = refl
in_order true false c d e f g h = refl
in_order true true false d e f g h = refl
in_order true true true false e f g h = refl
in_order true true true true false f g h = refl
in_order true true true true true false g h = refl
in_order true true true true true true false h = refl
in_order true true true true true true true false = refl
in_order true true true true true true true true = refl

pub record Sized (words : List ℕ) (literal_bytes : ℕ) : Type 0 where
  pub three : 3 ≤ length words
  pub rules_least : 1 ≤ rule_count words
  pub rules_most : rule_count words ≤ 64
  pub nodes_least : 1 ≤ node_count words
  pub nodes_most : node_count words ≤ 1024
  pub literals_most : literal_count words ≤ 4096
  pub words_are : length words ≡ 3 + 15 * rule_count words + 10 * node_count words
  pub literals_are : literal_bytes ≡ literal_count words

module _ (words : List ℕ) (literal_bytes : ℕ) where
  pub size_facts : size_ok words literal_bytes ≡ true → Sized words literal_bytes
  unfolding size_ok every
  size_facts e =
      let a = both (leb 3 (length words)) _ e in
      let b = both (leb 1 (rule_count words)) _ a.1 in
      let c = both (leb (rule_count words) 64) _ b.1 in
      let d = both (leb 1 (node_count words)) _ c.1 in
      let f = both (leb (node_count words) 1024) _ d.1 in
      let g = both (leb (literal_count words) 4096) _ f.1 in
      let h = both (eqb (length words) (3 + 15 * rule_count words + 10 * node_count words)) _ g.1 in
      let i = both (eqb literal_bytes (literal_count words)) true h.1 in
      record {
        three = leb-true 3 (length words) a.0;
        rules_least = leb-true 1 (rule_count words) b.0;
        rules_most = leb-true (rule_count words) 64 c.0;
        nodes_least = leb-true 1 (node_count words) d.0;
        nodes_most = leb-true (node_count words) 1024 f.0;
        literals_most = leb-true (literal_count words) 4096 g.0;
        words_are = eqb-true (length words) (3 + 15 * rule_count words + 10 * node_count words) h.0;
        literals_are = eqb-true literal_bytes (literal_count words) i.0;
      }

  pub size_right : Sized words literal_bytes → size_ok words literal_bytes ≡ true
  unfolding size_ok every
  size_right s =
      rw (
        le-leb 3 (length words) s.three,
        le-leb 1 (rule_count words) s.rules_least,
        le-leb (rule_count words) 64 s.rules_most,
        le-leb 1 (node_count words) s.nodes_least,
        le-leb (node_count words) 1024 s.nodes_most,
        le-leb (literal_count words) 4096 s.literals_most,
        eq-eqb (length words) (3 + 15 * rule_count words + 10 * node_count words) s.words_are,
        eq-eqb literal_bytes (literal_count words) s.literals_are,
      )

  -- the code's tests, one after the other
  pub size_tests : (r k l : ℕ) → r ≡ rule_count words → k ≡ node_count words → l ≡ literal_count words → {roomy nodes literals long : Bool}
      → roomy ≡ (leb 3 (length words) && within 1 64 r) → nodes ≡ (roomy && within 1 1024 k) → literals ≡ (nodes && leb l 4096)
      → long ≡ (literals && eqb (length words) (3 + 15 * r + 10 * k)) → (long && eqb literal_bytes l) ≡ size_ok words literal_bytes
  unfolding size_ok every
  size_tests r k l x y z e f g h =
      rw (h, g, f, e, x, y, z)
      (in_order (leb 3 (length words)) (leb 1 (rule_count words)) (leb (rule_count words) 64) (leb 1 (node_count words)) (leb (node_count words) 1024) (leb (literal_count words) 4096)
      (eqb (length words) (3 + 15 * rule_count words + 10 * node_count words)) (eqb literal_bytes (literal_count words)))
