-- The sort in force says the same as the sort: what a word must be, and whether it uses a node. Assumes nothing.
use mathlib.Core.Bool.{Bool, true, false, cond}
use mathlib.Core.List.{List}
use mathlib.Core.Logic.{⊎_elim, ◌≢◌}
use mathlib.Core.Path.{◌≡◌, refl, sym}
use Prim.Native.Nat.{ℕ, ◌+◌, ◌-◌, ◌≤◌, ◌<◌}
use native.Mathlib.Nat.{eq-zero-or-pos}
use native.Mathlib.Omega.{arith}
use lib.Dec.{eqb, ltb}
use lib.ListN.{get_or-eq_default}
use borrow.Author.Tests.{lt-ltb, le-ltb, eq-eqb, ne_eqb}
use Rattle.laws.specs.Apart.{past}
use Rattle.grammar.specs.Words.{word, inherited_count, returned_count}
use Rattle.grammar.specs.Form.{Sort, unused, byte, bit, any, parsing, expression, rule, slot, argument, receiving, text_start, text_length, count, inherited_type, returned, returned_type, fits, uses_node}
use Rattle.form.specs.Sorts.{plain_sorts, placed, force, passes, is_node}

-- a place of an expression uses a node where it is in use, and another place never
only : (b : Bool) → b ≡ is_node (cond b 5 0)
only true = refl
only false = refl

never : (n : ℕ) (b : Bool) → is_node n ≡ false → false ≡ is_node (cond b n 0)
never n true e = sym e
never n false e = refl

-- the record that starts at word `start`
module _ (words : List ℕ) (start : ℕ) where
  abbrev at : ℕ → ℕ
  at j = word words (start + j)

  -- the number of the sort in force, of a sort
  unfoldable pub in_force : Sort → ℕ
  in_force unused = 0
  in_force byte = 1
  in_force bit = 2
  in_force any = 3
  in_force parsing = 4
  in_force expression = 5
  in_force rule = 6
  in_force slot = 7
  in_force (argument i) = placed i (inherited_count words (at 1)) 5
  in_force (receiving i) = placed i (returned_count words (at 1)) 7
  in_force text_start = 8
  in_force text_length = 9
  in_force count = 10
  in_force (inherited_type i) = placed i (at 1) 31
  in_force (returned i) = placed i (at 6) 5
  in_force (returned_type i) = placed i (at 6) 31

  -- a place that is in use is as its sort wants it, and one that is not holds 0
  place : (bound n w : ℕ) (b : Bool) → cond b (passes words start bound n w) (eqb w 0) ≡ passes words start bound (cond b n 0) w
  unfolding fits
  place bound n w true = refl
  place bound n w false = refl

  pub fits_in_force : (bound : ℕ) (s : Sort) (w : ℕ) → fits words bound at s w ≡ passes words start bound (in_force s) w
  unfolding fits in_force
  fits_in_force bound unused w = refl
  fits_in_force bound byte w = refl
  fits_in_force bound bit w = refl
  fits_in_force bound any w = refl
  fits_in_force bound parsing w = refl
  fits_in_force bound expression w = refl
  fits_in_force bound rule w = refl
  fits_in_force bound slot w = refl
  fits_in_force bound (argument i) w = place bound 5 w (ltb i (inherited_count words (at 1)))
  fits_in_force bound (receiving i) w = place bound 7 w (ltb i (returned_count words (at 1)))
  fits_in_force bound text_start w = refl
  fits_in_force bound text_length w = refl
  fits_in_force bound count w = refl
  fits_in_force bound (inherited_type i) w = place bound 31 w (ltb i (at 1))
  fits_in_force bound (returned i) w = place bound 5 w (ltb i (at 6))
  fits_in_force bound (returned_type i) w = place bound 31 w (ltb i (at 6))

  pub uses_in_force : (s : Sort) → uses_node words at s ≡ is_node (in_force s)
  unfolding uses_node in_force
  uses_in_force unused = refl
  uses_in_force byte = refl
  uses_in_force bit = refl
  uses_in_force any = refl
  uses_in_force parsing = refl
  uses_in_force expression = refl
  uses_in_force rule = refl
  uses_in_force slot = refl
  uses_in_force (argument i) = only (ltb i (inherited_count words (at 1)))
  uses_in_force (receiving i) = never 7 (ltb i (returned_count words (at 1))) refl
  uses_in_force text_start = refl
  uses_in_force text_length = refl
  uses_in_force count = refl
  uses_in_force (inherited_type i) = never 31 (ltb i (at 1)) refl
  uses_in_force (returned i) = only (ltb i (at 6))
  uses_in_force (returned_type i) = never 31 (ltb i (at 6)) refl

  -- the sort in force of each number
  module _ (n : ℕ) where
    pub force_plain : n < 11 → n ≡ force words start n
    force_plain h = rw (lt-ltb n 11 h)

    pub force_kind : 11 ≤ n → n ≡ 32 → n ≡ force words start n
    force_kind low same = rw (le-ltb n 11 low, eq-eqb n 32 same)

    module _ (low : 11 ≤ n) (other : n ≢ 32) where
      pub force_argument : n < 15 → placed (n - 11) (inherited_count words (at 1)) 5 ≡ force words start n
      force_argument h = rw (le-ltb n 11 low, ne_eqb n 32 other, lt-ltb n 15 h)

      pub force_receiving : 15 ≤ n → n < 19 → placed (n - 15) (returned_count words (at 1)) 7 ≡ force words start n
      force_receiving from h = rw (le-ltb n 11 low, ne_eqb n 32 other, le-ltb n 15 from, lt-ltb n 19 h)

      pub force_inherited_type : 19 ≤ n → n < 23 → placed (n - 19) (at 1) 31 ≡ force words start n
      force_inherited_type from h =
          let a : 15 ≤ n = omega arith in
          rw (le-ltb n 11 low, ne_eqb n 32 other, le-ltb n 15 a, le-ltb n 19 from, lt-ltb n 23 h)

      pub force_returned : 23 ≤ n → n < 27 → placed (n - 23) (at 6) 5 ≡ force words start n
      force_returned from h =
          let a : 15 ≤ n = omega arith in
          let b : 19 ≤ n = omega arith in
          rw (le-ltb n 11 low, ne_eqb n 32 other, le-ltb n 15 a, le-ltb n 19 b, le-ltb n 23 from, lt-ltb n 27 h)

      pub force_returned_type : 27 ≤ n → placed (n - 27) (at 6) 31 ≡ force words start n
      force_returned_type from =
          let a : 15 ≤ n = omega arith in
          let b : 19 ≤ n = omega arith in
          let d : 23 ≤ n = omega arith in
          rw (le-ltb n 11 low, ne_eqb n 32 other, le-ltb n 15 a, le-ltb n 19 b, le-ltb n 23 d, le-ltb n 27 from)

  -- a number that is no sort asks for 0, as 0 does
  pub passes_zero : (bound n w : ℕ) → n ≢ 1 → n ≢ 2 → n ≢ 3 → n ≢ 4 → n ≢ 5 → n ≢ 6 → n ≢ 7 → n ≢ 8 → n ≢ 9 → n ≢ 10 → n ≢ 31 → n ≢ 32
      → eqb w 0 ≡ passes words start bound n w
  unfolding fits
  passes_zero bound n w n1 n2 n3 n4 n5 n6 n7 n8 n9 n10 n31 n32 =
      ⊎_elim
      (λ (e : n ≡ 0). rw e)
      (λ (h : 1 ≤ n).
      rw (
        ne_eqb n 31 n31,
        ne_eqb n 32 n32,
        get_or-eq_default plain_sorts unused (past 10 (past 9 (past 8 (past 7 (past 6 (past 5 (past 4 (past 3 (past 2 (past 1 h n1) n2) n3) n4) n5) n6) n7) n8) n9) n10),
      ))
      (eq-zero-or-pos n)
