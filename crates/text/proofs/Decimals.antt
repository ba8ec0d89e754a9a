-- The digits of a decimal. Assumes nothing.
use mathlib.Core.Path.{◌≡◌, refl, sym, ap, ◌∙◌}
use mathlib.Core.List.{List, [], ◌∷◌, ◌++◌, append_assoc, append-nil}
use mathlib.Core.Bool.{Bool, true, false, cond}
use Prim.Native.Nat.{ℕ, zero, suc, ◌+◌, ◌-◌, ◌*◌, ◌/◌, ◌%◌, ◌^◌, ◌≤◌, ◌<◌}
use native.Mathlib.Omega.{arith}
use lib.Dec.{ltb}
use lib.IntN.{ℤ, pos, negsuc, nat_abs}
use lib.ListN.{length, take, drop, set, length-append, length-drop, drop_of_length-le}
use lib.Seq.{take_all}
use lib.Signed.{lt_z}
use borrow.Author.Tests.{lt-ltb, le-ltb, ltb-true, ltb-false}
use Rattle.text.specs.Written.{digits, decimal, signed_decimal}
use Rattle.std.specs.declared.option.Option.TheVariants.{Some, None}
use Rattle.text.specs.Found.{digit}

-- ════ What is written ════

pub digits_small : (f n : ℕ) → n < 10 → digits f n ≡ (48 + n) ∷ []
unfolding digits
digits_small zero n h = refl
digits_small (suc f) n h = rw (lt-ltb n 10 h)

pub digits_more : (f n : ℕ) → 10 ≤ n → digits (suc f) n ≡ digits f (n / 10) ++ ((48 + n % 10) ∷ [])
unfolding digits
digits_more f n h = rw (le-ltb n 10 h)

-- one digit less is enough for a smaller number
enough : (f n : ℕ) → n < 10 ^ suc f → digits (suc f) n ≡ digits f n
unfolding digits
enough zero n h = rw (lt-ltb n 10 h)
enough (suc f) n h =
    ap (λ (x : List ℕ). cond (ltb n 10) ((48 + n) ∷ []) (x ++ ((48 + n % 10) ∷ []))) (enough f (n / 10) (omega arith))

pub decimal_small : (n : ℕ) → n < 10 → decimal n ≡ (48 + n) ∷ []
unfolding decimal
decimal_small n h = digits_small 9 n h

pub decimal_more : (n : ℕ) → 10 ≤ n → n < 10 ^ 10 → decimal n ≡ decimal (n / 10) ++ ((48 + n % 10) ∷ [])
unfolding decimal
decimal_more n h g = digits_more 8 n h ∙ ap (λ (x : List ℕ). x ++ ((48 + n % 10) ∷ [])) (sym (enough 8 (n / 10) (omega arith)))

-- a decimal with one more digit
pub decimal_grown : (v d : ℕ) → 0 < v → d < 10 → v * 10 + d < 10 ^ 10 → decimal (v * 10 + d) ≡ decimal v ++ ((48 + d) ∷ [])
decimal_grown v d h g s =
    let q : (v * 10 + d) / 10 ≡ v = omega arith in
    let r : (v * 10 + d) % 10 ≡ d = omega arith in
    decimal_more (v * 10 + d) (omega arith) s ∙ ap (λ (x : ℕ). decimal x ++ ((48 + (v * 10 + d) % 10) ∷ [])) q
    ∙ ap (λ (x : ℕ). decimal v ++ ((48 + x) ∷ [])) r

-- ════ From the last digit to the first, into bytes ════

-- what is stored at a place stands before what stood behind it
drop_stored : (l : List ℕ) (i x : ℕ) → i < length l → drop i (set l i x) ≡ x ∷ drop (suc i) l
drop_stored [] i x h = absurd (omega arith)
drop_stored (y ∷ l) zero x h = refl
drop_stored (y ∷ l) (suc i) x h = drop_stored l i x (omega arith)

-- no digit yet
pub digit_none : (l : List ℕ) (n : ℕ) → length l ≡ 10 → decimal n ++ drop 10 l ≡ decimal n
digit_none l n h = rw (drop_of_length-le l (let g : length l ≤ 10 = omega arith in g)) (append-nil (decimal n))

-- room for the digits that are left
pub digit_room : (i rest : ℕ) → 10 ≤ rest → rest < 10 ^ i → (0 < i - 1) × (rest / 10 < 10 ^ (i - 1))
digit_room zero rest more bound = absurd (omega arith)
digit_room (suc zero) rest more bound = absurd (omega arith)
digit_room (suc (suc i)) rest more bound = let e : suc (suc i) - 1 ≡ suc i = omega arith in rw e (omega arith, omega arith)

module _ (l : List ℕ) (i n rest : ℕ) (some : 0 < i) (fits : i ≤ length l) (same : decimal rest ++ drop i l ≡ decimal n) where
  back : drop (suc (i - 1)) l ≡ drop i l
  back = let e : suc (i - 1) ≡ i = omega arith in rw e

  -- a digit, and more before it
  pub digit_more : 10 ≤ rest → rest < 10 ^ 10 → decimal (rest / 10) ++ drop (i - 1) (set l (i - 1) (48 + rest % 10)) ≡ decimal n
  digit_more more bound =
      rw (drop_stored l (i - 1) (48 + rest % 10) (omega arith), back)
      (sym (append_assoc (decimal (rest / 10)) ((48 + rest % 10) ∷ []) (drop i l)) ∙ ap (λ (x : List ℕ). x ++ drop i l) (sym (decimal_more rest more bound)) ∙ same)

  -- the first digit
  pub digit_first : rest < 10 → drop (i - 1) (set l (i - 1) (48 + rest)) ≡ decimal n
  digit_first small =
      rw (drop_stored l (i - 1) (48 + rest) (omega arith), back)
      (ap (λ (x : List ℕ). x ++ drop i l) (sym (decimal_small rest small)) ∙ same)

-- the part that the digits are
pub digits_part : (l : List ℕ) (i n : ℕ) → length l ≡ 10 → drop i l ≡ decimal n → take (10 - i) (drop i l) ≡ decimal n
digits_part l i n h e = take_all (10 - i) (drop i l) (omega (arith, length-drop i l)) ∙ e

cond_length : (t : Bool) (x y : List ℕ) (k : ℕ) → length x ≤ k → length y ≤ k → length (cond t x y) ≤ k
cond_length true x y k h g = h
cond_length false x y k h g = g

digits_length : (f n : ℕ) → length (digits f n) ≤ f + 1
unfolding digits
digits_length zero n = omega arith
digits_length (suc f) n =
    cond_length (ltb n 10) _ _ (suc f + 1) (omega arith) (simp length-append (omega (arith, digits_length f (n / 10))))

pub decimal_length : (n : ℕ) → length (decimal n) ≤ 10
unfolding decimal
decimal_length n = digits_length 9 n

-- ════ A signed decimal ════

pub signed_negative : (z : ℤ) → lt_z z (pos 0) ≡ true → signed_decimal z ≡ (45 ∷ []) ++ decimal (nat_abs z)
unfolding signed_decimal
signed_negative (pos n) e = absurd (omega (arith, ltb-true n 0 e))
signed_negative (negsuc n) e = refl

pub signed_other : (z : ℤ) → lt_z z (pos 0) ≡ false → signed_decimal z ≡ decimal (nat_abs z)
unfolding signed_decimal
signed_other (pos n) e = refl
signed_other (negsuc n) e = let z : ◌≡◌ {A = ℕ} 0 1 = cc in absurd (omega arith)

-- ════ One digit ════

pub digit_is : (d : ℕ) → d < 10 → digit (48 + d) ≡ Some d
unfolding digit
digit_is d h = let e : 48 + d - 48 ≡ d = omega arith in rw (le-ltb (48 + d) 48 (omega arith), le-ltb 57 (48 + d) (omega arith)) (ap Some e)

pub record IsDigit (b d : ℕ) : Type 0 where
  pub small : d ≤ 9
  pub byte : b ≡ 48 + d

pub digit_byte : (b d : ℕ) → digit b ≡ Some d → IsDigit b d
unfolding digit
digit_byte b d = go (ltb b 48) (ltb 57 b) refl refl
  where
    go : (s t : Bool) → ltb b 48 ≡ s → ltb 57 b ≡ t → cond s None (cond t None (Some (b - 48))) ≡ Some d → IsDigit b d
    go true t e f h = absurd (cc)
    go false true e f h = absurd (cc)
    go false false e f h =
        let x : b - 48 ≡ d = cc in
        let y = ltb-false b 48 e in
        let z = ltb-false 57 b f in
        record { small = omega arith; byte = omega arith }
