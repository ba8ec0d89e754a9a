-- What the rule records of a sound table hold. Assumes nothing.
use mathlib.Core.Path.{◌≡◌, refl}
use mathlib.Core.List.{List}
use mathlib.Core.Bool.{Bool, true}
use Prim.Native.Nat.{ℕ, zero, suc, ◌+◌, ◌<◌, ◌≤◌}
use native.Mathlib.Omega.{arith}
use lib.Dec.{ltb}
use lib.ListN.{get_or}
use borrow.Author.Tests.{ltb-true, leb-true, lt-ltb}
use Rattle.laws.specs.Tests.{both_left, both_right}
use Rattle.grammar.specs.Words.{rule_count, node_count, rule_word, inherited_count, returned_count, kind_at}
use Rattle.grammar.specs.Form.{Sort, unused, parsing, count, inherited_type, returned, returned_type}
use Rattle.grammar.specs.Form.{rule_sorts, is_parsing, is_expression, is_type, under, is_part, fits, rule_word_ok}
use Rattle.grammar.proofs.Facts.{SoundTable, rule_word_lem}

-- four places, one by one
pub four_places : (P : ℕ → Type 0) → P 0 → P 1 → P 2 → P 3 → (i : ℕ) → i < 4 → P i
four_places P p q r s zero h = p
four_places P p q r s (suc zero) h = q
four_places P p q r s (suc (suc zero)) h = r
four_places P p q r s (suc (suc (suc zero))) h = s
four_places P p q r s (suc (suc (suc (suc i)))) h = absurd (omega arith)

-- a place in use passes its test
pub in_use : (i n : ℕ) (test : Bool) (w : ℕ) → under i n test w ≡ true → i < n → test ≡ true
in_use i n test w e h = rw (lt-ltb i n h) at e

-- ════ Parts ════

-- a smaller number than the bound, and the sort wanted
pub record Part (words : List ℕ) (sorted : ℕ → Bool) (bound a : ℕ) : Type 0 where
  pub below : a < bound
  pub sort : sorted (kind_at words a) ≡ true

abbrev pub ParsingPart : List ℕ → (bound a : ℕ) → Type 0
ParsingPart words bound a = Part words is_parsing bound a

abbrev pub ExpressionPart : List ℕ → (bound a : ℕ) → Type 0
ExpressionPart words bound a = Part words is_expression bound a

pub part : (words : List ℕ) (sorted : ℕ → Bool) (bound a : ℕ) → is_part words sorted bound a ≡ true → Part words sorted bound a
part words sorted bound a e = record {
  below = ltb-true a bound (both_left (ltb a bound) (sorted (kind_at words a)) e);
  sort = both_right (ltb a bound) (sorted (kind_at words a)) e;
}

-- ════ Rules ════

-- 'Rule record: body node; n inherited (0 to 4); four types; m returned (0 to 4); four returned nodes; four returned types'
pub record RuleRight (words : List ℕ) (r : ℕ) : Type 0 where
  pub body : ParsingPart words (node_count words) (rule_word words r 0)
  pub inherited_most : inherited_count words r ≤ 4
  pub returned_most : returned_count words r ≤ 4
  pub inherited_type_lem : (i : ℕ) → i < inherited_count words r → is_type (rule_word words r (2 + i)) ≡ true
  pub returned : (i : ℕ) → i < returned_count words r → ExpressionPart words (node_count words) (rule_word words r (7 + i))
  pub returned_type_lem : (i : ℕ) → i < returned_count words r → is_type (rule_word words r (11 + i)) ≡ true

module _ (words literals : List ℕ) (table : SoundTable words literals) where
  -- word j of rule r's record, of a sort
  rule_fits : (r j : ℕ) (s : Sort) → r < rule_count words → j < 15 → get_or rule_sorts j unused ≡ s → fits words (node_count words) (rule_word words r) s (rule_word words r j) ≡ true
  unfolding rule_word_ok
  rule_fits r j s hr hj e = rw (← e) (rule_word_lem words literals table r j hr hj)

  inherited_sort : (i : ℕ) → i < 4 → get_or rule_sorts (2 + i) unused ≡ inherited_type i
  unfolding rule_sorts
  inherited_sort = four_places (λ i. get_or rule_sorts (2 + i) unused ≡ inherited_type i) refl refl refl refl

  returned_sort : (i : ℕ) → i < 4 → get_or rule_sorts (7 + i) unused ≡ returned i
  unfolding rule_sorts
  returned_sort = four_places (λ i. get_or rule_sorts (7 + i) unused ≡ returned i) refl refl refl refl

  returned_type_sort : (i : ℕ) → i < 4 → get_or rule_sorts (11 + i) unused ≡ returned_type i
  unfolding rule_sorts
  returned_type_sort = four_places (λ i. get_or rule_sorts (11 + i) unused ≡ returned_type i) refl refl refl refl

  pub rule_right : (r : ℕ) → r < rule_count words → RuleRight words r
  unfolding fits rule_sorts
  rule_right r h =
      let n_most : inherited_count words r ≤ 4 = leb-true (inherited_count words r) 4 (rule_fits r 1 count h (omega arith) refl) in
      let m_most : returned_count words r ≤ 4 = leb-true (returned_count words r) 4 (rule_fits r 6 count h (omega arith) refl) in
      record {
        body = part words is_parsing (node_count words) (rule_word words r 0) (rule_fits r 0 parsing h (omega arith) refl);
        inherited_most = n_most;
        returned_most = m_most;
        inherited_type_lem = λ i l. in_use i (inherited_count words r) (is_type (rule_word words r (2 + i))) (rule_word words r (2 + i))
            (rule_fits r (2 + i) (inherited_type i) h (omega arith) (inherited_sort i (omega arith))) l;
        returned = λ i l. part words is_expression (node_count words) (rule_word words r (7 + i))
            (in_use i (returned_count words r) (is_part words is_expression (node_count words) (rule_word words r (7 + i))) (rule_word words r (7 + i))
            (rule_fits r (7 + i) (returned i) h (omega arith) (returned_sort i (omega arith))) l);
        returned_type_lem = λ i l. in_use i (returned_count words r) (is_type (rule_word words r (11 + i))) (rule_word words r (11 + i))
            (rule_fits r (11 + i) (returned_type i) h (omega arith) (returned_type_sort i (omega arith))) l;
      }
