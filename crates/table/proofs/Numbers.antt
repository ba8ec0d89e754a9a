-- Which numbers are no kind, and the node that a kind makes. Assumes nothing.
use mathlib.Core.Bool.{Bool, true, false}
use mathlib.Core.List.{List}
use mathlib.Core.Logic.{⊎_elim, ◌≢◌}
use mathlib.Core.Path.{◌≡◌, refl, sym}
use Prim.Native.Nat.{ℕ, zero, suc, ◌-◌, ◌≤◌, ◌<◌}
use native.Mathlib.Nat.{eq-zero-or-pos}
use native.Mathlib.Omega.{arith}
use lib.Dec.{ltb}
use lib.ListN.{get_or, get_or-eq_default, get_or-map}
use borrow.Author.Tests.{ltb-true, ltb-false}
use Rattle.laws.specs.Apart.{past}
use Rattle.grammar.specs.Words.{kind_at, node_at, node_for, node_word, nodes}
use Rattle.table.specs.declared.kinds.Kind.{Kind}
use Rattle.table.specs.declared.kinds.Kind.TheVariants as K
use Rattle.table.specs.Kinds.{kinds, kind_of, node_from}

-- 11 to 15
between : (n : ℕ) → n < 5 → get_or kinds (suc (suc (suc (suc (suc (suc (suc (suc (suc (suc (suc n))))))))))) K.Unknown ≡ K.Unknown
between zero h = refl
between (suc zero) h = refl
between (suc (suc zero)) h = refl
between (suc (suc (suc zero))) h = refl
between (suc (suc (suc (suc zero)))) h = refl
between (suc (suc (suc (suc (suc n))))) h = absurd (omega arith)

module _ (n : ℕ) where
  below_16 : 11 ≤ n → n < 16 → K.Unknown ≡ kind_of n
  below_16 low high =
      let e : n ≡ suc (suc (suc (suc (suc (suc (suc (suc (suc (suc (suc (n - 11))))))))))) = omega arith in
      rw e (sym (between (n - 11) (omega arith)))

  -- these are all
  pub no_kind : n ≢ 1 → n ≢ 2 → n ≢ 3 → n ≢ 4 → n ≢ 5 → n ≢ 6 → n ≢ 7 → n ≢ 8 → n ≢ 9 → n ≢ 10 → n ≢ 16 → n ≢ 17 → n ≢ 18 → n ≢ 19 → n ≢ 20 → n ≢ 21
      → n ≢ 22 → n ≢ 23 → n ≢ 24 → n ≢ 25 → n ≢ 26 → n ≢ 27 → n ≢ 28 → K.Unknown ≡ kind_of n
  no_kind n1 n2 n3 n4 n5 n6 n7 n8 n9 n10 n16 n17 n18 n19 n20 n21 n22 n23 n24 n25 n26 n27 n28 =
      ⊎_elim
      (λ (e : n ≡ 0). rw e)
      (λ (h0 : 1 ≤ n). go h0 (ltb n 16) refl)
      (eq-zero-or-pos n)
    where
      go : 1 ≤ n → (b : Bool) → ltb n 16 ≡ b → K.Unknown ≡ kind_of n
      go h0 true e =
          below_16 (past 10 (past 9 (past 8 (past 7 (past 6 (past 5 (past 4 (past 3 (past 2 (past 1 h0 n1) n2) n3) n4) n5) n6) n7) n8) n9) n10)
          (ltb-true n 16 e)
      go h0 false e =
          sym
          (get_or-eq_default kinds K.Unknown
          (past 28 (past 27 (past 26 (past 25 (past 24 (past 23 (past 22 (past 21 (past 20 (past 19 (past 18 (past 17 (past 16 (ltb-false n 16 e) n16) n17) n18) n19) n20) n21) n22) n23) n24) n25) n26) n27) n28))

-- the kind of a number and its fields make the node of that number
pub node_made : (n a b c d e f g h i : ℕ) → node_from (kind_of n) a b c d e f g h i ≡ node_for n a b c d e f g h i
unfolding node_for nodes
node_made n a b c d e f g h i = sym (get_or-map (λ (kind : Kind). node_from kind a b c d e f g h i) kinds n K.Unknown)

-- in a table: a node from the kind that was read
pub node_read : (words : List ℕ) (k : ℕ) {number : ℕ} {read : Kind} → number ≡ kind_at words k → read ≡ kind_of number → (known : Kind) → read ≡ known
    → let field : ℕ → ℕ = node_word words k in
    node_from known (field 1) (field 2) (field 3) (field 4) (field 5) (field 6) (field 7) (field 8) (field 9) ≡ node_at words k
unfolding node_at
node_read words k at is known e = rw (← e, is, at) (node_made (kind_at words k) _ _ _ _ _ _ _ _ _)
