-- Where each word stands: the record it is in, and the records one after the other. Assumes nothing.
use mathlib.Core.Bool.{Bool, true, false, cond}
use mathlib.Core.List.{List}
use mathlib.Core.Path.{◌≡◌, refl}
use Prim.Native.Nat.{ℕ, ◌+◌, ◌*◌, ◌-◌, ◌/◌, ◌%◌, ◌≤◌, ◌<◌}
use native.Mathlib.Omega.{arith}
use lib.Dec.{ltb}
use borrow.Author.Tests.{lt-ltb, le-ltb, ltb-true, ltb-false}
use Rattle.grammar.specs.Words.{rule_count, rule_start, node_start}
use Rattle.grammar.specs.Form.{in_record}
use Rattle.form.specs.Scan.{record_length, record_start}

module _ (words : List ℕ) {A : Type 0} (of_rule of_node : ℕ → ℕ → A) where
  -- word j of rule r
  in_rule : (i r j : ℕ) → i ≡ rule_start r + j → r < rule_count words → j < 15 → in_record words of_rule of_node i ≡ of_rule r j
  in_rule i r j at hr hj =
      let q : (i - 3) / 15 ≡ r = omega arith in
      let m : (i - 3) % 15 ≡ j = omega arith in
      rw (lt-ltb i (node_start words 0) (omega arith), q, m)

  -- word j of node k
  in_node : (i k j : ℕ) → i ≡ node_start words k + j → j < 10 → in_record words of_rule of_node i ≡ of_node k j
  in_node i k j at hj =
      let q : (i - node_start words 0) / 10 ≡ k = omega arith in
      let m : (i - node_start words 0) % 10 ≡ j = omega arith in
      rw (le-ltb i (node_start words 0) (omega arith), q, m)

pub start_zero : (R : ℕ) → 3 ≡ record_start R 0
start_zero R = omega arith

pub start_end : (R K : ℕ) → record_start R (R + K) ≡ 3 + 15 * R + 10 * K
start_end R K = omega arith

module _ (R q : ℕ) where
  pub start_next : record_start R q + record_length R q ≡ record_start R (q + 1)
  start_next = go (ltb q R) refl
    where
      go : (b : Bool) → ltb q R ≡ b → record_start R q + record_length R q ≡ record_start R (q + 1)
      go true e = let h : q < R = ltb-true _ _ e in rw e (omega arith)
      go false e = let h : R ≤ q = ltb-false _ _ e in rw e (omega arith)

  -- a record has words, which are words of the table
  pub record_in : (K : ℕ) → q < R + K → (3 ≤ record_start R q) × (1 ≤ record_length R q) × (record_start R q + record_length R q ≤ 3 + 15 * R + 10 * K)
  record_in K hq = go (ltb q R) refl
    where
      go : (b : Bool) → ltb q R ≡ b → (3 ≤ record_start R q) × (1 ≤ cond b 15 10) × (record_start R q + cond b 15 10 ≤ 3 + 15 * R + 10 * K)
      go true e = let h : q < R = ltb-true _ _ e in omega arith
      go false e = let h : R ≤ q = ltb-false _ _ e in omega arith

  module _ (j : ℕ) (hj : j < record_length R q) where
    -- what holds of word j is what holds of that word of a rule, or of a node
    pub in_record_lem : (words : List ℕ) → R ≡ rule_count words → {A : Type 0} (of_rule of_node : ℕ → ℕ → A)
        → in_record words of_rule of_node (record_start R q + j) ≡ cond (ltb q R) (of_rule q j) (of_node (q - R) j)
    in_record_lem words same of_rule of_node = go (ltb q R) refl
      where
        go : (b : Bool) → ltb q R ≡ b → in_record words of_rule of_node (record_start R q + j) ≡ cond b (of_rule q j) (of_node (q - R) j)
        go true e =
            let h : q < R = ltb-true _ _ e in
            let h' : j < 15 = rw e at hj in
            in_rule words of_rule of_node (record_start R q + j) q j (omega arith) (omega arith) h'
        go false e =
            let h : R ≤ q = ltb-false _ _ e in
            let h' : j < 10 = rw e at hj in
            in_node words of_rule of_node (record_start R q + j) (q - R) j (omega arith) h'
