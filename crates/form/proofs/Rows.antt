-- The code's constant tables are the specs' tables of sorts, a sort a number: proved by one computation over the whole of each. Assumes nothing.
use mathlib.Core.Bool.{Bool, true, false, cond}
use mathlib.Core.List.{List, [], map}
use mathlib.Core.Path.{◌≡◌, refl, sym, ◌∙◌}
use Prim.Native.Nat.{ℕ, ◌-◌, ◌<◌}
use native.Mathlib.Omega.{arith}
use lib.Dec.{ltb, eqb}
use lib.ListN.{get_or, get_or-eq_default, get_or-map}
use borrow.Author.Tests.{ltb-true, ltb-false}
use Rattle.laws.specs.Elements.{get_d_either}
use Rattle.grammar.specs.Form.{Sort, unused, no_field, field_sorts, field_sort, rule_sorts}
use Rattle.form.specs.Sorts.{number_of, rule_numbers, row_of, in_row, force}
use Rattle.form.proofs.Force.{in_force}

abbrev pub field_numbers : List (List ℕ)
field_numbers = map (map number_of) field_sorts

-- the row of a kind is the specs' line
row_is : (kind : ℕ) → get_or field_sorts (row_of kind) [] ≡ get_or field_sorts kind no_field
unfolding field_sorts
row_is kind = go (ltb kind 29) refl
  where
    go : (b : Bool) → ltb kind 29 ≡ b → get_or field_sorts (cond b kind 0) [] ≡ get_or field_sorts kind no_field
    go true e = get_d_either field_sorts kind [] no_field (ltb-true kind 29 e)
    go false e = sym (get_or-eq_default field_sorts no_field (ltb-false kind 29 e))

pub row_few : (kind : ℕ) → row_of kind < 29
row_few kind = go (ltb kind 29) refl
  where
    go : (b : Bool) → ltb kind 29 ≡ b → cond b kind 0 < 29
    go true e = ltb-true kind 29 e
    go false e = omega arith

module _ (words : List ℕ) (start : ℕ) where
  -- numbers and sorts that are one after the other the same in force
  each : (numbers : List ℕ) (sorts : List Sort) (j : ℕ) → map (force words start) numbers ≡ map (in_force words start) sorts
      → force words start (get_or numbers j 0) ≡ in_force words start (get_or sorts j unused)
  unfolding in_force
  each numbers sorts j same =
      sym (get_or-map (force words start) numbers j 0) ∙ rw same (get_or-map (in_force words start) sorts j unused)

  -- a rule's record, and all rows
  rules_same : map (force words start) rule_numbers ≡ map (in_force words start) rule_sorts
  unfolding in_force rule_sorts
  rules_same = refl

  rows_same : map (map (force words start)) field_numbers ≡ map (map (in_force words start)) field_sorts
  unfolding in_force field_sorts
  rows_same = refl

  pub rule_forced : (j : ℕ) → force words start (get_or rule_numbers j 0) ≡ in_force words start (get_or rule_sorts j unused)
  rule_forced j = each rule_numbers rule_sorts j rules_same

  pub row_forced : (kind j : ℕ) → eqb j 0 ≡ false → force words start (in_row field_numbers (row_of kind) j) ≡ in_force words start (field_sort kind j)
  unfolding field_sort
  row_forced kind j e =
      let row = row_of kind in
      let same : map (force words start) (get_or field_numbers row []) ≡ map (in_force words start) (get_or field_sorts row []) =
      sym (get_or-map (map (force words start)) field_numbers row []) ∙ rw rows_same (get_or-map (map (in_force words start)) field_sorts row []) in
      rw (e, ← row_is kind) (each (get_or field_numbers row []) (get_or field_sorts row []) (j - 1) same)
