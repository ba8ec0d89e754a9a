-- What code sees of a node, its kind's number and two fields, and what the written meaning makes of it. Assumes nothing.
use mathlib.Core.Path.{◌≡◌, refl, sym, ap, ◌∙◌}
use mathlib.Core.Bool.{Bool, true, false}
use mathlib.Core.List.{List}
use Prim.Native.Nat.{ℕ, suc, ◌+◌, ◌-◌, ◌<◌, ◌≤◌}
use native.Mathlib.Omega.{arith}
use borrow.Author.Tests.{eqb-true, eqb-false, ltb-true, ltb-false}
use lib.Dec.{eqb, ltb}
use lib.ListN.{get_or, get_or-eq_default}
use Rattle.grammar.specs.declared.Node.TheVariants as N
use Rattle.grammar.specs.Run.{Setting, Slots, eval}
use Rattle.grammar.specs.Tree.{Expr, expr_of, expr_with}
use Rattle.grammar.specs.Words.{kind_at, node_word, node_at, node_for, nodes}
use Rattle.table.specs.declared.records.Head.{Head}
use Rattle.table.specs.Fields.{node_of_two, head_at}
use Rattle.table.proofs.Decoding.{node_call, node_other}
use Rattle.expressions.specs.declared.results.Given.{Given}
use Rattle.expressions.specs.Given.{given, operator_of, leaf_of}
use Rattle.expressions.specs.Walks.{Asked, work_of, gives_at, resolved, Seen}
use Rattle.expressions.proofs.Givens.{eight, by_number}

far : (kind a b : ℕ) → 28 < kind → get_or (nodes a b 0 0 0 0 0 0 0) kind N.Unknown ≡ N.Unknown
unfolding nodes
far kind a b h = get_or-eq_default (nodes a b 0 0 0 0 0 0 0) N.Unknown h

not_node : (a b : ℕ) {x : ℕ} → x ≡ 28 → node_of_two x a b ≡ N.Negation a
unfolding node_of_two node_for nodes
not_node a b s = rw s

module _ (S : Setting) (slots : Slots) (parts : ℕ → Expr) (k a b : ℕ) where
  abbrev P : ℕ → Type 0
  P kind = kind < 20 → leaf_of slots kind k a b ≡ eval S slots (expr_of parts k (node_of_two kind a b))

  leaf_node : (kind : ℕ) → P kind
  unfolding leaf_of eval expr_of node_of_two node_for nodes
  leaf_node = by_number P (λ _. refl) (λ _. refl) (λ _. refl) (λ _. refl) (λ _. refl) (λ _. refl) (λ _. refl) (λ _. refl)
      (by_number (λ n. P (eight n)) (λ _. refl) (λ _. refl) (λ _. refl) (λ _. refl) (λ _. refl) (λ _. refl) (λ _. refl) (λ _. refl)
      (by_number (λ n. P (eight (eight n))) (λ _. refl) (λ _. refl) (λ _. refl) (λ _. refl) (λ h. absurd (omega arith)) (λ h. absurd (omega arith)) (λ h. absurd (omega arith)) (λ h. absurd (omega arith)) (λ n h. absurd (omega arith))))

binary_node : (j a b : ℕ) → j < 8 → node_of_two (20 + j) a b ≡ N.Binary (operator_of j) a b
unfolding node_of_two node_for nodes operator_of
binary_node j a b = by_number (λ i. i < 8 → node_of_two (20 + i) a b ≡ N.Binary (operator_of i) a b)
    (λ _. refl) (λ _. refl) (λ _. refl) (λ _. refl) (λ _. refl) (λ _. refl) (λ _. refl) (λ _. refl) (λ n h. absurd (omega arith)) j

-- a call's other fields make no difference
node_seen : (parts : ℕ → Expr) (words : List ℕ) (k : ℕ) → expr_of parts k (node_of_two (kind_at words k) (node_word words k 1) (node_word words k 2)) ≡ expr_of parts k (node_at words k)
unfolding expr_of node_of_two node_for nodes
node_seen parts words k = by_test (eqb (kind_at words k) 7) refl
  where
    by_test : (t : Bool) → eqb (kind_at words k) 7 ≡ t → expr_of parts k (node_of_two (kind_at words k) (node_word words k 1) (node_word words k 2)) ≡ expr_of parts k (node_at words k)
    by_test true e = rw (eqb-true (kind_at words k) 7 e, ← node_call words k (eqb-true (kind_at words k) 7 e))
    by_test false e = ap (expr_of parts k) (node_other words k (eqb-false (kind_at words k) 7 e))

-- ════ What code sees of a node ════

abbrev unseen : Head
unseen = record { kind = 0; a = 0; b = 0 }

module _ (words : List ℕ) (levels n k : ℕ) where
  -- no level is left
  pub seen_none : levels ≤ n → Seen words levels n k unseen
  unfolding expr_with expr_of node_of_two node_for nodes
  seen_none h = let z : levels - n ≡ 0 = omega arith in record { tree = rw z; most = omega arith; within = λ l. absurd (omega arith) }

  module _ {h : Head} (below : n < levels) (is : h ≡ head_at words k) where
    tree_of : expr_with (levels - n) words k ≡ expr_of (expr_with (levels - (n + 1)) words) k (node_of_two h.kind h.a h.b)
    unfolding expr_with
    tree_of = let e : levels - n ≡ suc (levels - (n + 1)) = omega arith in rw (e, is) (sym (node_seen (expr_with (levels - (n + 1)) words) words k))

    pub seen_far : 28 < h.kind → Seen words levels n k unseen
    unfolding expr_of node_of_two node_for nodes
    seen_far past = record { tree = rw (tree_of, far h.kind h.a h.b past); most = omega arith; within = λ l. absurd (omega arith) }

    pub seen_node : h.kind ≤ 28 → Seen words levels n k h
    seen_node most = record { tree = tree_of; most = most; within = λ l. below }

module _ (A : Asked) {n k : ℕ} {h : Head} (s : Seen A.words A.levels n k h) where
  pub leaf_gives : (g : Given) → given g ≡ leaf_of A.slots h.kind k h.a h.b → h.kind < 20 → given g ≡ gives_at A n k
  leaf_gives g same low = rw s.tree (same ∙ leaf_node A.setting A.slots (expr_with (A.levels - (n + 1)) A.words) k h.a h.b h.kind low)

  -- an operator, which begins
  pub operator_gives : 20 ≤ h.kind → resolved A n (work_of (h.kind - 20) k h.b) (gives_at A (n + 1) h.a) ≡ gives_at A n k
  unfolding resolved eval expr_of
  operator_gives low = by_test (ltb (h.kind - 20) 8) refl
    where
      by_test : (t : Bool) → ltb (h.kind - 20) 8 ≡ t → resolved A n (work_of (h.kind - 20) k h.b) (gives_at A (n + 1) h.a) ≡ gives_at A n k
      by_test true e =
          let j : h.kind ≡ 20 + (h.kind - 20) = omega arith in
          let is = ap (λ (x : ℕ). node_of_two x h.a h.b) j ∙ binary_node (h.kind - 20) h.a h.b (ltb-true (h.kind - 20) 8 e) in
          rw (s.tree, is, e)
      by_test false e =
          let is = not_node h.a h.b (let j : h.kind ≡ 28 = omega (arith, s.most, ltb-false (h.kind - 20) 8 e) in j) in
          rw (s.tree, is, e)
