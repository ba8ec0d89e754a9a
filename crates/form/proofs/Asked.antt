-- What the scan asks of a word is what the rules ask of it: the sort in force of its number, in its record. Assumes nothing.
use mathlib.Core.Bool.{Bool, true, false, cond}
use mathlib.Core.List.{List}
use mathlib.Core.Path.{◌≡◌, refl, sym, ◌∙◌, ap}
use Prim.Native.Nat.{ℕ, ◌+◌, ◌-◌, ◌≤◌, ◌<◌}
use native.Mathlib.Omega.{arith}
use lib.Dec.{eqb, ltb}
use lib.ListN.{get_or, length}
use borrow.Author.Tests.{eqb-true, ltb-true, ltb-false}
use Rattle.std.specs.Prelude.{Some}
use Rattle.grammar.specs.Words.{word, rule_count, node_count, rule_start, node_start, rule_word, node_word, kind_at}
use Rattle.grammar.specs.Form.{in_record, fits, rule_word_ok, node_word_ok, word_ok, rule_word_uses, node_word_uses}
use Rattle.form.specs.Sorts.{rule_numbers, row_of, in_row, force, passes, is_node}
use Rattle.form.specs.Scan.{record_length, record_start, record_bound, record_sort, one_more, Scanned}
use Rattle.form.proofs.Force.{fits_in_force, uses_in_force}
use Rattle.form.proofs.Rows.{field_numbers, rule_forced, row_forced}
use Rattle.form.proofs.Places.{in_record_lem}
use Rattle.form.proofs.Seen.{Seen, seen_next, at_bad}

elsewhere : {A : Type 0} (b : Bool) (x y : A) → b ≡ false → cond b x y ≡ y
elsewhere b x y e = rw e

module _ (words : List ℕ) where
  -- the sort in force at word j of a rule, and of a node
  abbrev rule_sort : (r j : ℕ) → ℕ
  rule_sort r j = force words (rule_start r) (get_or rule_numbers j 0)

  abbrev node_sort : (k j : ℕ) → ℕ
  node_sort k j = force words (node_start words k) (in_row field_numbers (row_of (kind_at words k)) j)

  rule_word_ok_lem : (r j : ℕ) → rule_word_ok words r j ≡ passes words (rule_start r) (node_count words) (rule_sort r j) (rule_word words r j)
  unfolding rule_word_ok
  rule_word_ok_lem r j = rw (rule_forced words (rule_start r) j) (fits_in_force words (rule_start r) (node_count words) _ (rule_word words r j))

  rule_word_uses_lem : (r j : ℕ) → rule_word_uses words r j ≡ is_node (rule_sort r j)
  rule_word_uses_lem r j = rw (rule_forced words (rule_start r) j) (uses_in_force words (rule_start r) _)

  node_word_ok_lem : (k j : ℕ) → node_word_ok words k j ≡ passes words (node_start words k) k (node_sort k j) (node_word words k j)
  unfolding node_word_ok
  node_word_ok_lem k j = go (eqb j 0) refl
    where
      go : (b : Bool) → eqb j 0 ≡ b → node_word_ok words k j ≡ passes words (node_start words k) k (node_sort k j) (node_word words k j)
      go true e = let zero : j ≡ 0 = eqb-true j 0 e in let i : node_start words k + 0 ≡ node_start words k = omega arith in rw (zero, i)
      go false e =
          elsewhere (eqb j 0) _ _ e ∙ fits_in_force words (node_start words k) k _ (node_word words k j)
          ∙ ap (λ n. passes words (node_start words k) k n (node_word words k j)) (sym (row_forced words (node_start words k) (kind_at words k) j e))

  node_word_uses_lem : (k j : ℕ) → node_word_uses words k j ≡ is_node (node_sort k j)
  node_word_uses_lem k j = go (eqb j 0) refl
    where
      go : (b : Bool) → eqb j 0 ≡ b → node_word_uses words k j ≡ is_node (node_sort k j)
      go true e = let zero : j ≡ 0 = eqb-true j 0 e in rw zero
      go false e =
          elsewhere (eqb j 0) _ _ e ∙ uses_in_force words (node_start words k) _ ∙ ap is_node (sym (row_forced words (node_start words k) (kind_at words k) j e))

-- a word of a field that the kind doesn't use: 0, and no node
pub nothing : (words counts : List ℕ) (start bound own w : ℕ) → own ≡ 0
    → (eqb w 0 ≡ passes words start bound (force words start own) w) × (counts ≡ cond (eqb w 0) (one_more counts (force words start own) w) counts)
unfolding fits
nothing words counts start bound own w e = rw e (refl, go (eqb w 0))
  where
    go : (b : Bool) → counts ≡ cond b counts counts
    go true = refl
    go false = refl

-- word j of record q: where the record starts, its row if it is a node, the number of the word's sort, and below what number the nodes are that it may name
module _ (words : List ℕ) (R q j start row own bound : ℕ) (same : R ≡ rule_count words) (inside : j < record_length R q) (starts : start ≡ record_start R q)
    (its_row : row ≡ row_of (word words start)) (its_own : own ≡ record_sort field_numbers R q row j) (its_bound : bound ≡ record_bound R (node_count words) q) where
  rule_starts : q < R → start ≡ rule_start q
  rule_starts h = omega arith

  node_starts : R ≤ q → start ≡ node_start words (q - R)
  node_starts h = omega arith

  pub asked : word_ok words (start + j) ≡ passes words start bound (force words start own) (word words (start + j))
  unfolding word_ok
  asked = rw starts (in_record_lem R q j inside words same (rule_word_ok words) (node_word_ok words)) ∙ go (ltb q R) refl
    where
      go : (b : Bool) → ltb q R ≡ b → cond b (rule_word_ok words q j) (node_word_ok words (q - R) j)
          ≡ passes words start bound (force words start own) (word words (start + j))
      go true e = rw (its_bound, its_own, e, rule_starts (ltb-true q R e)) (rule_word_ok_lem words q j)
      go false e = rw (its_bound, its_own, its_row, e, node_starts (ltb-false q R e)) (node_word_ok_lem words (q - R) j)

  pub used : in_record words (rule_word_uses words) (node_word_uses words) (start + j) ≡ is_node (force words start own)
  used = rw starts (in_record_lem R q j inside words same (rule_word_uses words) (node_word_uses words)) ∙ go (ltb q R) refl
    where
      go : (b : Bool) → ltb q R ≡ b → cond b (rule_word_uses words q j) (node_word_uses words (q - R) j) ≡ is_node (force words start own)
      go true e = rw (its_own, e, rule_starts (ltb-true q R e)) (rule_word_uses_lem words q j)
      go false e = rw (its_own, its_row, e, node_starts (ltb-false q R e)) (node_word_uses_lem words (q - R) j)

  -- the test of the word has this result and leaves these counts: a right word has been seen, and a bad one ends the scan
  pub judged : (counts after : List ℕ) (result : Bool) → 3 ≤ start → start + j < length words → Seen words counts (start + j)
      → result ≡ passes words start bound (force words start own) (word words (start + j))
      → after ≡ cond result (one_more counts (force words start own) (word words (start + j))) counts
      → (result ≡ true → Seen words after (start + j + 1)) × (result ≡ false → Scanned words after (Some (start + j)))
  judged counts after result from few seen told left =
      let from' : 3 ≤ start + j = omega arith in
      let right : word_ok words (start + j) ≡ result = asked ∙ sym told in (
        λ yes. rw (left, yes) (seen_next words counts (start + j) from' seen (force words start own) (right ∙ yes) used),
        λ no. at_bad words counts (start + j) from' seen after few (right ∙ no),
      )
