-- The tally of uses, a word at a time. Assumes nothing.
use mathlib.Core.Bool.{Bool, true, false, cond, ◌&&◌}
use mathlib.Core.List.{List}
use mathlib.Core.Path.{◌≡◌, refl, sym}
use Prim.Native.Nat.{ℕ, ◌+◌, ◌-◌, ◌≤◌, ◌<◌}
use native.Mathlib.Omega.{arith}
use lib.Dec.{eqb, ltb}
use lib.ListN.{length, get_or, set, replicate, length-set, get_or-replicate, get_or-eq_default}
use lib.Seq.{get_or-set_same, get_or-set_other}
use borrow.Author.Tests.{eqb-true, eqb-false, ltb-true, ltb-false}
use Rattle.laws.specs.Counting.{how_many}
use Rattle.laws.specs.Counts.{how_many_more, how_many_most}
use Rattle.grammar.specs.Words.{word}
use Rattle.grammar.specs.Form.{in_record, rule_word_uses, node_word_uses, word_uses}
use Rattle.form.specs.Sorts.{is_node}
use Rattle.form.specs.Scan.{one_more}

-- one use more, where there is one
module _ (counts : List ℕ) (long : length counts ≡ 1024) (n w : ℕ) where
  pub more_long : length (one_more counts n w) ≡ 1024
  more_long = go (is_node n && ltb w 1024)
    where
      go : (b : Bool) → length (cond b (set counts w (get_or counts w 0 + 1)) counts) ≡ 1024
      go true = simp length-set long
      go false = long

  more_at : (k : ℕ) → k < 1024 → get_or (one_more counts n w) k 0 ≡ get_or counts k 0 + cond (eqb w k && is_node n) 1 0
  more_at k hk = go (eqb w k) refl (is_node n) (ltb w 1024) refl
    where
      go : (b : Bool) → eqb w k ≡ b → (node : Bool) (few : Bool) → ltb w 1024 ≡ few
          → get_or (cond (node && few) (set counts w (get_or counts w 0 + 1)) counts) k 0 ≡ get_or counts k 0 + cond (b && node) 1 0
      go true e true true h = rw (← eqb-true w k e) (get_or-set_same counts w (get_or counts w 0 + 1) 0 (omega (arith, eqb-true w k e)))
      go true e true false h = absurd (omega (arith, eqb-true w k e, ltb-false w 1024 h))
      go true e false few h = omega arith
      go false e true true h =
          rw (get_or-set_other counts w k (get_or counts w 0 + 1) 0 (λ p. eqb-false w k e (sym p))) (omega arith)
      go false e true false h = omega arith
      go false e false few h = omega arith

-- counts hold, for each node, its uses among the words from 3 to i
abbrev pub Tally : List ℕ → List ℕ → ℕ → Type 0
Tally words counts i = (k : ℕ) → k < 1024 → get_or counts k 0 ≡ how_many (word_uses words k) 3 (i - 3)

pub tally_none : (words : List ℕ) → Tally words (replicate 1024 0) 3
unfolding how_many
tally_none words k h = get_or-replicate 1024 k 0 0 h

module _ (words counts : List ℕ) (i : ℕ) (from : 3 ≤ i) (long : length counts ≡ 1024) (inv : Tally words counts i) where
  pub tally_most : (k : ℕ) → get_or counts k 0 ≤ i
  tally_most k = go (ltb k 1024) refl
    where
      go : (b : Bool) → ltb k 1024 ≡ b → get_or counts k 0 ≤ i
      go true e = omega (arith, inv k (ltb-true k 1024 e), how_many_most (word_uses words k) 3 (i - 3))
      go false e = let past : length counts ≤ k = omega (arith, ltb-false k 1024 e) in rw (get_or-eq_default counts 0 past) (omega arith)

  -- one word more
  pub tally_next : (n : ℕ) → in_record words (rule_word_uses words) (node_word_uses words) i ≡ is_node n → Tally words (one_more counts n (word words i)) (i + 1)
  unfolding word_uses
  tally_next n told k hk =
      let here : 3 + (i - 3) ≡ i = omega arith in
      let next : i + 1 - 3 ≡ i - 3 + 1 = omega arith in
      rw (next, how_many_more (word_uses words k) 3 (i - 3), here, told, ← inv k hk) (more_at counts long n (word words i) k hk)
