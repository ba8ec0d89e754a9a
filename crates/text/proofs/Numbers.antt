-- Reading a decimal: turn by turn, and both ways round. Assumes nothing.
use mathlib.Core.Path.{◌≡◌, refl, sym, ap, ◌∙◌}
use mathlib.Core.List.{List, [], ◌∷◌, ◌++◌, append_assoc}
use mathlib.Core.Bool.{Bool, true, false, cond}
use Prim.Native.Nat.{ℕ, zero, suc, ◌+◌, ◌*◌, ◌/◌, ◌%◌, ◌^◌, ◌≤◌, ◌<◌}
use native.Mathlib.Omega.{arith}
use lib.Dec.{ltb, eqb}
use lib.ListN.{length, drop, get_or, length-append, drop_of_length-le}
use borrow.Author.Tests.{lt-ltb, le-ltb, ne_eqb, eq-eqb, ltb-true, ltb-false, eqb-true, eqb-false}
use Rattle.std.proofs.lemmas.Option.{some_pair_parts}
use Rattle.laws.specs.Parts.{drop_one, Stands, stands}
use Rattle.std.specs.Prelude.{Option, option_map, option_and_then}
use Rattle.std.specs.declared.option.Option.TheVariants.{Some, None}
use Rattle.text.specs.Written.{digits, decimal}
use Rattle.text.specs.Found.{digit, grown, number, number_from}
use Rattle.text.proofs.Decimals.{digits_small, digits_more, decimal_small, decimal_grown, digit_is, IsDigit, digit_byte}

-- ════ Turn by turn, at a place of a text ════

module _ (end limit : ℕ) (text : List ℕ) where
  pub number_past : (at : ℕ) → length text ≤ at → number end limit at (drop at text) ≡ None
  unfolding number
  number_past at h = rw (drop_of_length-le text h)

  module _ (at : ℕ) (h : at < length text) where
    pub number_none : digit (get_or text at 0) ≡ None → number end limit at (drop at text) ≡ None
    unfolding number
    number_none e = rw (drop_one text at 0 h, e)

    module _ (v : ℕ) (e : digit (get_or text at 0) ≡ Some v) where
      pub number_wrong : limit < v → number end limit at (drop at text) ≡ None
      unfolding number
      number_wrong g = rw (drop_one text at 0 h, e, lt-ltb limit v g)

      pub number_first : v ≤ limit → number end limit at (drop at text) ≡ number_from end limit v (at + 1) (drop (at + 1) text)
      unfolding number
      number_first g = rw (drop_one text at 0 h, e, le-ltb limit v g)

  pub from_past : (v i : ℕ) → length text ≤ i → number_from end limit v i (drop i text) ≡ None
  unfolding number_from
  from_past v i h = rw (drop_of_length-le text h)

  pub from_end : (v i : ℕ) → i < length text → get_or text i 0 ≡ end → number_from end limit v i (drop i text) ≡ Some (v, i + 1)
  unfolding number_from
  from_end v i h g = rw (drop_one text i 0 h, eq-eqb (get_or text i 0) end g)

  module _ (v i : ℕ) (h : i < length text) (g : get_or text i 0 ≡ end → ⊥) where
    pub from_none : grown v (get_or text i 0) ≡ None → number_from end limit v i (drop i text) ≡ None
    unfolding number_from
    from_none e = rw (drop_one text i 0 h, ne_eqb (get_or text i 0) end g, e)

    module _ (w : ℕ) (e : grown v (get_or text i 0) ≡ Some w) where
      pub from_wrong : limit < w → number_from end limit v i (drop i text) ≡ None
      unfolding number_from
      from_wrong s = rw (drop_one text i 0 h, ne_eqb (get_or text i 0) end g, e, lt-ltb limit w s)

      pub from_more : w ≤ limit → number_from end limit v i (drop i text) ≡ number_from end limit w (i + 1) (drop (i + 1) text)
      unfolding number_from
      from_more s = rw (drop_one text i 0 h, ne_eqb (get_or text i 0) end g, e, le-ltb limit w s)

-- ════ What is written is read ════

grown_is : (v d : ℕ) → 0 < v → d < 10 → grown v (48 + d) ≡ Some (v * 10 + d)
unfolding grown
grown_is v d h g = rw (ne_eqb v 0 (omega arith), digit_is d g)

turn : (end limit v d p : ℕ) (l : List ℕ) → end < 48 → 0 < v → d < 10 → v * 10 + d ≤ limit
    → number_from end limit v p ((48 + d) ∷ l) ≡ number_from end limit (v * 10 + d) (p + 1) l
unfolding number_from
turn end limit v d p l he h g s =
    rw (ne_eqb (48 + d) end (omega arith), grown_is v d h g, le-ltb limit (v * 10 + d) s)

one_digit : (end limit n p : ℕ) (l : List ℕ) → n < 10 → n ≤ limit → number end limit p ((48 + n) ∷ l) ≡ number_from end limit n (p + 1) l
unfolding number
one_digit end limit n p l h g = rw (digit_is n h, le-ltb limit n g)

digits_read : (end limit : ℕ) → end < 48 → (f n p : ℕ) (l : List ℕ) → n ≤ limit → n < 10 ^ suc f
    → number end limit p (digits f n ++ l) ≡ number_from end limit n (p + length (digits f n)) l
digits_read end limit he zero n p l hl hn = rw (digits_small 0 n hn) (one_digit end limit n p l hn hl)
digits_read end limit he (suc f) n p l hl hn =
    go (ltb n 10) refl (digits_read end limit he f (n / 10) p ((48 + n % 10) ∷ l) (omega arith) (omega arith))
  where
    go : (t : Bool) → ltb n 10 ≡ t
        → number end limit p (digits f (n / 10) ++ (48 + n % 10) ∷ l) ≡ number_from end limit (n / 10) (p + length (digits f (n / 10))) ((48 + n % 10) ∷ l)
        → number end limit p (digits (suc f) n ++ l) ≡ number_from end limit n (p + length (digits (suc f) n)) l
    go true e ih =
        let h : n < 10 = ltb-true n 10 e in
        rw (digits_small (suc f) n h) (one_digit end limit n p l h hl)
    go false e ih =
        let h : 10 ≤ n = ltb-false n 10 e in
        let k : ℕ = length (digits f (n / 10)) in
        let v : n / 10 * 10 + n % 10 ≡ n = omega arith in
        let q : p + k + 1 ≡ p + (k + 1) = omega arith in
        rw (digits_more f n h, append_assoc, length-append)
        (ih ∙ turn end limit (n / 10) (n % 10) (p + k) l he (omega arith) (omega arith) (omega arith)
        ∙ ap (λ (x : ℕ). number_from end limit x (p + k + 1) l) v ∙ ap (λ (x : ℕ). number_from end limit n x l) q)

closes : (end limit v p : ℕ) (l : List ℕ) → number_from end limit v p (end ∷ l) ≡ Some (v, p + 1)
unfolding number_from
closes end limit v p l = rw (eq-eqb end end refl)

-- a decimal that stands in the text is read
pub number_reads : (text : List ℕ) (end limit p n q : ℕ) → end < 48 → n ≤ limit → n < 10 ^ 10 → Stands text p (decimal n ++ (end ∷ [])) q
    → number end limit p (drop p text) ≡ Some (n, q)
unfolding decimal
number_reads text end limit p n q he hl hn s =
    let e : drop p text ≡ digits 9 n ++ (end ∷ drop q text) = s.is ∙ append_assoc (digits 9 n) (end ∷ []) (drop q text) in
    let f : p + length (digits 9 n) + 1 ≡ q = omega (arith, s.place, length-append (digits 9 n) (end ∷ [])) in
    ap (number end limit p) e ∙ digits_read end limit he 9 n p (end ∷ drop q text) hl hn
    ∙ closes end limit n (p + length (digits 9 n)) (drop q text) ∙ ap (λ (x : ℕ). Some (n, x)) f

-- ════ What is read was written ════

-- a grown value had a value before, and a digit
record Grown (v b w : ℕ) : Type 0 where
  before : 0 < v
  last : ℕ
  digit : IsDigit b last
  is : w ≡ v * 10 + last

grown_byte : (v b w : ℕ) → grown v b ≡ Some w → Grown v b w
unfolding grown
grown_byte v b w = go (eqb v 0) refl (digit b) refl
  where
    go : (t : Bool) → eqb v 0 ≡ t → (o : Option ℕ) → digit b ≡ o → cond t None (option_map (λ d. v * 10 + d) o) ≡ Some w → Grown v b w
    go true e o f h = absurd (cc)
    go false e None f h = absurd (cc)
    go false e (Some d) f h = let x : v * 10 + d ≡ w = cc in record { before = omega (arith, eqb-false v 0 e); last = d; digit = digit_byte b d f; is = sym x }

-- the number n was written, `before` and l together, and the text goes on with rest at q
record Was (end limit p : ℕ) (l : List ℕ) (n q : ℕ) (before : List ℕ) : Type 0 where
  rest : List ℕ
  text : before ++ l ≡ decimal n ++ end ∷ rest
  place : q + length rest ≡ p + length l
  within : n ≤ limit

from_was : (end limit v p : ℕ) (l : List ℕ) (n q : ℕ) → limit < 4294967296 → v ≤ limit → number_from end limit v p l ≡ Some (n, q)
    → Was end limit p l n q (decimal v)
unfolding number_from
from_was end limit v p [] n q hl hv e₀ = absurd (cc)
from_was end limit v p (b ∷ l) n q hl hv e₀ = ends (eqb b end) refl e₀ (λ w hw e'. from_was end limit w (p + 1) l n q hl hw e')
  where
    Deeper : Type 0
    Deeper = (w : ℕ) → w ≤ limit → number_from end limit w (p + 1) l ≡ Some (n, q) → Was end limit (p + 1) l n q (decimal w)

    further : (w : ℕ) → grown v b ≡ Some w → (t : Bool) → ltb limit w ≡ t → cond t None (number_from end limit w (p + 1) l) ≡ Some (n, q) → Deeper
        → Was end limit p (b ∷ l) n q (decimal v)
    further w f true g e ih = absurd (cc)
    further w f false g e ih =
        let h : w ≤ limit = ltb-false limit w g in
        let x = ih w h e in
        let m = grown_byte v b w f in
        let i = m.digit in
        let d : decimal w ≡ decimal v ++ (b ∷ []) =
        ap decimal m.is ∙ decimal_grown v m.last m.before (omega (arith, i.small)) (omega (arith, m.is))
        ∙ ap (λ (y : ℕ). decimal v ++ (y ∷ [])) (sym i.byte) in
        record {
          rest = x.rest;
          text = sym (append_assoc (decimal v) (b ∷ []) l) ∙ ap (λ (y : List ℕ). y ++ l) (sym d) ∙ x.text;
          place = omega (arith, x.place);
          within = x.within;
        }

    grows : (o : Option ℕ) → grown v b ≡ o
        → option_and_then (λ w. cond (ltb limit w) None (number_from end limit w (p + 1) l)) o ≡ Some (n, q) → Deeper
        → Was end limit p (b ∷ l) n q (decimal v)
    grows None f e ih = absurd (cc)
    grows (Some w) f e ih = further w f (ltb limit w) refl e ih

    ends : (t : Bool) → eqb b end ≡ t
        → cond t (Some (v, p + 1)) (option_and_then (λ w. cond (ltb limit w) None (number_from end limit w (p + 1) l)) (grown v b)) ≡ Some (n, q) → Deeper
        → Was end limit p (b ∷ l) n q (decimal v)
    ends true g e ih =
        let x : b ≡ end = eqb-true b end g in
        let same = some_pair_parts v n (p + 1) q e in
        let y : v ≡ n = same.0 in
        let z : p + 1 ≡ q = same.1 in
        record { rest = l; text = rw (x, y); place = omega arith; within = omega arith }
    ends false g e ih = grows (grown v b) refl e ih

number_was : (end limit p : ℕ) (l : List ℕ) (n q : ℕ) → limit < 4294967296 → number end limit p l ≡ Some (n, q) → Was end limit p l n q []
unfolding number
number_was end limit p [] n q hl e₀ = absurd (cc)
number_was end limit p (b ∷ l) n q hl e₀ = first (digit b) refl e₀
  where
    within : (v : ℕ) → digit b ≡ Some v → (t : Bool) → ltb limit v ≡ t → cond t None (number_from end limit v (p + 1) l) ≡ Some (n, q)
        → Was end limit p (b ∷ l) n q []
    within v f true g e = absurd (cc)
    within v f false g e =
        let h : v ≤ limit = ltb-false limit v g in
        let i = digit_byte b v f in
        let w = from_was end limit v (p + 1) l n q hl h e in
        let d : decimal v ≡ b ∷ [] = decimal_small v (omega (arith, i.small)) ∙ ap (λ (x : ℕ). x ∷ []) (sym i.byte) in
        record { rest = w.rest; text = ap (λ (x : List ℕ). x ++ l) (sym d) ∙ w.text; place = omega (arith, w.place); within = w.within }

    first : (o : Option ℕ) → digit b ≡ o → option_and_then (λ v. cond (ltb limit v) None (number_from end limit v (p + 1) l)) o ≡ Some (n, q)
        → Was end limit p (b ∷ l) n q []
    first None f e = absurd (cc)
    first (Some v) f e = within v f (ltb limit v) refl e

-- a number that is read is within the limit, and its decimal stands in the text
pub number_within_lem : (end limit p : ℕ) (l : List ℕ) (n q : ℕ) → limit < 4294967296 → number end limit p l ≡ Some (n, q) → n ≤ limit
number_within_lem end limit p l n q h e = (number_was end limit p l n q h e).within

pub number_stands : (text : List ℕ) (end limit p n q : ℕ) → limit < 4294967296 → number end limit p (drop p text) ≡ Some (n, q)
    → Stands text p (decimal n ++ (end ∷ [])) q
number_stands text end limit p n q h e =
    let w = number_was end limit p (drop p text) n q h e in
    let a : length (decimal n ++ (end ∷ [])) ≡ length (decimal n) + 1 = length-append (decimal n) (end ∷ []) in
    let b : length (drop p text) ≡ length (decimal n) + suc (length w.rest) = ap length w.text ∙ length-append (decimal n) (end ∷ w.rest) in
    stands text p (decimal n ++ (end ∷ [])) w.rest q (w.text ∙ sym (append_assoc (decimal n) (end ∷ []) w.rest)) (omega (arith, w.place))
