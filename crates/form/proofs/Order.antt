-- The answers of the table check in their order, and what each rests on. Assumes nothing.
use mathlib.Core.Bool.{Bool, true, false, cond}
use mathlib.Core.List.{List}
use mathlib.Core.Path.{◌≡◌, refl, sym, ◌∙◌}
use mathlib.Core.Option as M
use mathlib.Core.Option.{some, none}
use Prim.Native.Nat.{ℕ, zero, suc, ◌+◌, ◌-◌, ◌≤◌, ◌<◌}
use native.Mathlib.Omega.{arith}
use lib.Dec.{eqb}
use lib.ListN.{length, get_or}
use borrow.Author.Tests.{eq-eqb, ne_eqb}
use Rattle.laws.specs.Counting.{smallest_failing}
use Rattle.laws.specs.Smallest.{smallest_same}
use Rattle.grammar.specs.Words.{node_count, inherited_count}
use Rattle.std.specs.Prelude.{Err, Option, Some, None, ⊤}
use Rattle.grammar.specs.declared.Refusal.TheVariants.{Size, Field, Use, Start}
use Rattle.grammar.specs.Form.{passed, uses, word_ok, size_ok, table_check}
use Rattle.form.specs.Scan.{found, Scanned, Sized}
use Rattle.table.proofs.Size.{size_facts}

-- what passed SIZE
pub size_passed : (words : List ℕ) (literal_bytes : ℕ) (b : Bool) → b ≡ size_ok words literal_bytes → b ≡ true → Sized words
size_passed words literal_bytes b told e =
    let s = size_facts words literal_bytes (sym told ∙ e) in
    record { few_rules = s.rules_most; few_nodes = s.nodes_most; long = s.words_are }

-- what a scan found is below its end
abbrev Below : ℕ → M.Option ℕ → Type 0
Below n (some i) = i < n
Below n none = ⊤

smallest_below : (test : ℕ → Bool) (from count : ℕ) → Below (from + count) (smallest_failing test from count)
unfolding smallest_failing
smallest_below test from zero = tt
smallest_below test from (suc count) =
    let e : from + suc count ≡ from + 1 + count = omega arith in
    go (test from) (rw e (smallest_below test (from + 1) count))
  where
    go : (b : Bool) → Below (from + suc count) (smallest_failing test (from + 1) count) → Below (from + suc count) (cond b (smallest_failing test (from + 1) count) (some from))
    go true h = h
    go false h = omega arith

-- a bad word is a word of the table
pub bad_below : (words counts : List ℕ) (i : ℕ) → Scanned words counts (Some i) → i < 3 + (length words - 3)
bad_below words counts i scanned = rw (← scanned.stopped) at (smallest_below (word_ok words) 3 (length words - 3))

module _ (words literals : List ℕ) where
  pub at_size : size_ok words (length literals) ≡ false → Err Size ≡ table_check words literals
  unfolding table_check
  at_size size = rw size

  module _ (size : size_ok words (length literals) ≡ true) (counts : List ℕ) where
    -- the scan stopped at word i
    pub at_field : (i : ℕ) → Scanned words counts (Some i) → Err (Field i) ≡ table_check words literals
    unfolding table_check
    at_field i scanned = rw (size, ← scanned.stopped)

    -- no word is bad; and node k is the first of n whose count is not 1, or there is none
    module _ (scanned : Scanned words counts None) (n : ℕ) (nodes : n ≡ node_count words) (few : n ≤ 1024) (other : Option ℕ)
        (is : found other ≡ smallest_failing (λ m. eqb (get_or counts m 0) 1) 0 n) where
      -- what the counts say of the uses
      misused : smallest_failing (λ m. eqb (uses words m) 1) 0 (node_count words) ≡ found other
      misused =
          rw (is, ← nodes)
          (smallest_same (λ m. eqb (uses words m) 1) (λ m. eqb (get_or counts m 0) 1) 0 n (λ m low high. rw ((scanned.counted refl).at m (omega arith))))

      pub at_use : (k : ℕ) → other ≡ Some k → Err (Use k) ≡ table_check words literals
      unfolding table_check
      at_use k e = rw (size, ← scanned.stopped, misused, e)

      pub at_start : other ≡ None → 0 < inherited_count words 0 → Err Start ≡ table_check words literals
      unfolding table_check
      at_start e h = rw (size, ← scanned.stopped, misused, e, ne_eqb (inherited_count words 0) 0 (omega arith))

      pub at_end : other ≡ None → inherited_count words 0 ≤ 0 → passed ≡ table_check words literals
      unfolding table_check
      at_end e h = rw (size, ← scanned.stopped, misused, e, eq-eqb (inherited_count words 0) 0 (omega arith))
