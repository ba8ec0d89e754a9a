-- What the scan knows where it has come to word i: all words before it are right, and the counts are those of their uses. Assumes nothing.
use mathlib.Core.Bool.{true, false}
use mathlib.Core.List.{List}
use mathlib.Core.Logic.{⊎_elim}
use mathlib.Core.Path.{◌≡◌, refl, sym, subst}
use Prim.Native.Nat.{ℕ, ◌+◌, ◌-◌, ◌≤◌, ◌<◌}
use native.Mathlib.Nat.{eq-or-lt_of_le}
use native.Mathlib.Omega.{arith}
use lib.ListN.{length, get_or, replicate}
use Rattle.laws.specs.Smallest.{smallest_at, smallest_none}
use Rattle.grammar.specs.Words.{word}
use Rattle.grammar.specs.Form.{in_record, rule_word_uses, node_word_uses, word_ok, uses}
use Rattle.std.specs.Prelude.{Some, None, is_some, T}
use Rattle.form.specs.Sorts.{is_node}
use Rattle.form.specs.Scan.{one_more, Scanned}
use Rattle.form.proofs.Tallies.{Tally, tally_none, tally_most, tally_next, more_long}

some_is_not_none : {i : ℕ} → Some i ≡ None → ⊥
some_is_not_none e = subst (λ o. T (is_some o)) e tt

pub record Seen (words counts : List ℕ) (i : ℕ) : Type 0 where
  pub passed : (k : ℕ) → 3 ≤ k → k < i → word_ok words k ≡ true
  pub long : length counts ≡ 1024
  pub tally : Tally words counts i

pub seen_none : (words counts : List ℕ) → counts ≡ replicate 1024 0 → Seen words counts 3
seen_none words counts zero = rw zero (record { passed = λ k low high. absurd (omega arith); long = refl; tally = tally_none words })

module _ (words counts : List ℕ) (i : ℕ) (from : 3 ≤ i) (seen : Seen words counts i) where
  pub room : i < 65535 → (k : ℕ) → get_or counts k 0 < 65535
  room h k = omega (arith, tally_most words counts i from seen.long seen.tally k)

  -- the word is right, and of a sort in force that uses a node or not
  pub seen_next : (n : ℕ) → word_ok words i ≡ true → in_record words (rule_word_uses words) (node_word_uses words) i ≡ is_node n
      → Seen words (one_more counts n (word words i)) (i + 1)
  seen_next n right told =
      record {
        passed = λ k low high. ⊎_elim (λ (e : k ≡ i). rw e right) (λ (h : k < i). seen.passed k low h) (eq-or-lt_of_le (omega arith));
        long = more_long counts seen.long n (word words i);
        tally = tally_next words counts i from seen.long seen.tally n told;
      }

  -- the word is bad, or there is none
  pub at_bad : (after : List ℕ) → i < length words → word_ok words i ≡ false → Scanned words after (Some i)
  at_bad after h bad =
      record {
        stopped = sym (smallest_at (word_ok words) 3 (length words - 3) i from (omega arith) seen.passed bad);
        counted = λ none. absurd (some_is_not_none none);
      }

  pub at_all : i ≡ length words → Scanned words counts None
  unfolding uses
  at_all end =
      record {
        stopped = sym (smallest_none (word_ok words) 3 (length words - 3) (λ k low high. seen.passed k low (omega arith)));
        counted = λ none. record { at = λ k few. rw (← end) (seen.tally k few) };
      }
