-- Hex pairs: written and read turn by turn, and both ways round. Assumes nothing.
use mathlib.Core.Path.{◌≡◌, refl, sym, ap, ◌∙◌}
use mathlib.Core.List.{List, [], ◌∷◌, ◌++◌, append_assoc}
use mathlib.Core.Bool.{Bool, true, false, cond}
use Prim.Native.Nat.{ℕ, suc, ◌+◌, ◌-◌, ◌*◌, ◌/◌, ◌%◌, ◌≤◌, ◌<◌}
use native.Mathlib.Nat.{add-zero}
use native.Mathlib.Omega.{arith}
use lib.Dec.{ltb, eqb}
use lib.ListN.{length, drop, get_or, length-append, drop_of_length-le}
use borrow.Author.Tests.{lt-ltb, le-ltb, ne_eqb, eq-eqb, ltb-true, ltb-false, eqb-true}
use Rattle.std.proofs.lemmas.Option.{some_pair_parts}
use Rattle.laws.specs.Below.{AllBelow}
use Rattle.laws.specs.Parts.{drop_one, Stands, stands}
use Rattle.std.specs.Prelude.{option_map, option_and_then}
use Rattle.std.specs.Option.{option_map_or}
use Rattle.std.specs.declared.option.Option.{Option}
use Rattle.std.specs.declared.option.Option.TheVariants.{Some, None}
use Rattle.text.specs.Stored.{Taken, taking, also}
use Rattle.text.specs.Written.{hex_digit, hex}
use Rattle.text.specs.Found.{digit, hex_value, pair_value, pairs}
use Rattle.text.proofs.Decimals.{digit_is, digit_byte}

-- ════ Turn by turn ════

pub hex_one : (l : List ℕ) (i : ℕ) → i < length l
    → hex (drop i l) ≡ (hex_digit (get_or l i 0 / 16) ∷ hex_digit (get_or l i 0 % 16) ∷ []) ++ hex (drop (i + 1) l)
unfolding hex
hex_one l i h = rw (drop_one l i 0 h)

pub hex_none : (l : List ℕ) (i : ℕ) → length l ≤ i → hex (drop i l) ≡ []
unfolding hex
hex_none l i h = rw (drop_of_length-le l h)

pub hex_length : (l : List ℕ) → length (hex l) ≡ 2 * length l
unfolding hex
hex_length [] = refl
hex_length (b ∷ l) = omega (arith, hex_length l)

-- ════ A chunk of two bytes, or of the last byte, in front of what is left ════

module _ (n p : ℕ) where
  pub pairs_past : (l : List ℕ) → length l ≡ 0 → pairs n p l ≡ taking [] None
  unfolding pairs
  pairs_past [] h = refl
  pairs_past (b ∷ l) h = absurd (omega arith)

  pub pairs_end : (l chunk rest : List ℕ) → l ≡ chunk ++ rest → 0 < length chunk → get_or chunk 0 0 ≡ 10 → pairs n p l ≡ taking [] (Some (n, p + 1))
  unfolding pairs
  pairs_end l [] rest e h g = absurd (omega arith)
  pairs_end l (b ∷ chunk) rest e h g = rw e (go (chunk ++ rest))
    where
      go : (m : List ℕ) → pairs n p (b ∷ m) ≡ taking [] (Some (n, p + 1))
      go [] = rw (eq-eqb b 10 g)
      go (c ∷ m) = rw (eq-eqb b 10 g)

  pub pairs_odd : (l chunk rest : List ℕ) → l ≡ chunk ++ rest → length chunk ≡ 1 → length rest ≡ 0 → (get_or chunk 0 0 ≡ 10 → ⊥) → pairs n p l ≡ taking [] None
  unfolding pairs
  pairs_odd l [] rest e h k g = absurd (omega arith)
  pairs_odd l (b ∷ c ∷ chunk) rest e h k g = absurd (omega arith)
  pairs_odd l (b ∷ []) (c ∷ rest) e h k g = absurd (omega arith)
  pairs_odd l (b ∷ []) [] e h k g = rw (e, ne_eqb b 10 g)

  module _ (l chunk rest : List ℕ) (e : l ≡ chunk ++ rest) (h : length chunk ≡ 2) (g : get_or chunk 0 0 ≡ 10 → ⊥) where
    pub pairs_two : pairs n p l ≡ option_map_or (λ x. also (x ∷ []) (pairs (n + 1) (p + 2) rest)) (pair_value (get_or chunk 0 0) (get_or chunk 1 0)) (taking [] None)
    unfolding pairs
    pairs_two = rw e (go chunk h g)
      where
        go : (chunk : List ℕ) → length chunk ≡ 2 → (get_or chunk 0 0 ≡ 10 → ⊥)
            → pairs n p (chunk ++ rest) ≡ option_map_or (λ x. also (x ∷ []) (pairs (n + 1) (p + 2) rest)) (pair_value (get_or chunk 0 0) (get_or chunk 1 0)) (taking [] None)
        go (b ∷ c ∷ []) h g = rw (ne_eqb b 10 g)
        go [] h g = absurd (omega arith)
        go (b ∷ []) h g = absurd (omega arith)
        go (b ∷ c ∷ d ∷ chunk) h g = absurd (omega arith)

    pub pairs_wrong : pair_value (get_or chunk 0 0) (get_or chunk 1 0) ≡ None → pairs n p l ≡ taking [] None
    pairs_wrong s = pairs_two ∙ rw s

    pub pairs_more : (x m : ℕ) → pair_value (get_or chunk 0 0) (get_or chunk 1 0) ≡ Some x → m ≡ n + 1
        → pairs n p l ≡ also (x ∷ []) (pairs m (p + 2) rest)
    pairs_more x m s f = pairs_two ∙ rw (s, f)

-- ════ One digit ════

hex_small : (n : ℕ) → n < 10 → hex_digit n ≡ 48 + n
unfolding hex_digit
hex_small n h = rw (lt-ltb n 10 h)

hex_letter : (n : ℕ) → 10 ≤ n → hex_digit n ≡ 97 + (n - 10)
unfolding hex_digit
hex_letter n h = rw (le-ltb n 10 h)

hex_low : (n : ℕ) → 48 ≤ hex_digit n
hex_low n = go (ltb n 10) refl
  where
    go : (t : Bool) → ltb n 10 ≡ t → 48 ≤ hex_digit n
    go true e = omega (arith, hex_small n (ltb-true n 10 e))
    go false e = omega (arith, hex_letter n (ltb-false n 10 e))

value_digit : (d : ℕ) → d < 10 → hex_value (48 + d) ≡ Some d
unfolding hex_value
value_digit d h = rw (lt-ltb (48 + d) 97 (omega arith), digit_is d h)

value_letter : (n : ℕ) → 10 ≤ n → n < 16 → hex_value (97 + (n - 10)) ≡ Some n
unfolding hex_value
value_letter n h g =
    let e : 10 + (97 + (n - 10) - 97) ≡ n = omega arith in
    rw (le-ltb (97 + (n - 10)) 97 (omega arith), le-ltb 102 (97 + (n - 10)) (omega arith)) (ap Some e)

value_is : (n : ℕ) → n < 16 → hex_value (hex_digit n) ≡ Some n
value_is n h = go (ltb n 10) refl
  where
    go : (t : Bool) → ltb n 10 ≡ t → hex_value (hex_digit n) ≡ Some n
    go true e = let k : n < 10 = ltb-true n 10 e in rw (hex_small n k) (value_digit n k)
    go false e = let k : 10 ≤ n = ltb-false n 10 e in rw (hex_letter n k) (value_letter n k h)

-- a byte with a hex digit's value is that digit
pub record IsHex (b n : ℕ) : Type 0 where
  pub small : n ≤ 15
  pub byte : b ≡ hex_digit n

pub value_byte : (b n : ℕ) → hex_value b ≡ Some n → IsHex b n
unfolding hex_value
value_byte b n = go (ltb b 97) (ltb 102 b) refl refl
  where
    go : (s t : Bool) → ltb b 97 ≡ s → ltb 102 b ≡ t → cond s (digit b) (cond t None (Some (10 + (b - 97)))) ≡ Some n → IsHex b n
    go true t e f h =
        let i = digit_byte b n h in
        record { small = omega (arith, i.small); byte = i.byte ∙ sym (hex_small n (omega (arith, i.small))) }
    go false true e f h = absurd (cc)
    go false false e f h =
        let x : 10 + (b - 97) ≡ n = cc in
        let y = ltb-false b 97 e in
        let z = ltb-false 102 b f in
        record { small = omega arith; byte = omega (arith, hex_letter n (omega arith)) }

pair_is : (x : ℕ) → x < 256 → pair_value (hex_digit (x / 16)) (hex_digit (x % 16)) ≡ Some x
unfolding pair_value
pair_is x h =
    let e : x / 16 * 16 + x % 16 ≡ x = omega arith in
    rw (value_is (x / 16) (omega arith), value_is (x % 16) (omega arith)) (ap Some e)

record IsPair (b c x : ℕ) : Type 0 where
  small : x ≤ 255
  high : b ≡ hex_digit (x / 16)
  low : c ≡ hex_digit (x % 16)

pair_bytes : (b c x : ℕ) → pair_value b c ≡ Some x → IsPair b c x
unfolding pair_value
pair_bytes b c x = go (hex_value b) (hex_value c) refl refl
  where
    go : (o u : Option ℕ) → hex_value b ≡ o → hex_value c ≡ u → option_and_then (λ high. option_map (λ low. high * 16 + low) u) o ≡ Some x
        → IsPair b c x
    go None u e f h = absurd (cc)
    go (Some m) None e f h = absurd (cc)
    go (Some m) (Some n) e f h =
        let i = value_byte b m e in
        let j = value_byte c n f in
        let y : m * 16 + n ≡ x = cc in
        let q : m ≡ x / 16 = omega (arith, i.small, j.small) in
        let r : n ≡ x % 16 = omega (arith, i.small, j.small) in
        record { small = omega (arith, i.small, j.small); high = i.byte ∙ ap hex_digit q; low = j.byte ∙ ap hex_digit r }

-- ════ Both ways round ════

pairs_close : (n p : ℕ) (l : List ℕ) → pairs n p (10 ∷ l) ≡ taking [] (Some (n, p + 1))
unfolding pairs
pairs_close n p [] = refl
pairs_close n p (c ∷ l) = refl

pairs_read : (bytes : List ℕ) (n p : ℕ) (rest : List ℕ) → AllBelow 256 bytes
    → pairs n p (hex bytes ++ 10 ∷ rest) ≡ taking bytes (Some (n + length bytes, p + 2 * length bytes + 1))
unfolding pairs hex
pairs_read [] n p rest h =
    pairs_close n p rest ∙ ap (λ (k : ℕ). taking [] (Some (k, p + 1))) (sym (add-zero n))
    ∙ ap (λ (k : ℕ). taking [] (Some (n + 0, k + 1))) (sym (add-zero p))
pairs_read (b ∷ bytes) n p rest h =
    let x : b < 256 = h.0 in
    let a : n + 1 + length bytes ≡ n + suc (length bytes) = omega arith in
    let d : p + 2 + 2 * length bytes + 1 ≡ p + 2 * suc (length bytes) + 1 = omega arith in
    rw (ne_eqb (hex_digit (b / 16)) 10 (omega (arith, hex_low (b / 16))), pair_is b x)
    (ap (also (b ∷ [])) (pairs_read bytes (n + 1) (p + 2) rest h.1) ∙ ap (λ (k : ℕ). taking (b ∷ bytes) (Some (k, p + 2 + 2 * length bytes + 1))) a
    ∙ ap (λ (k : ℕ). taking (b ∷ bytes) (Some (n + suc (length bytes), k))) d)

-- pairs that stand in the text are read
pub pairs_reads : (text bytes : List ℕ) (p q : ℕ) → AllBelow 256 bytes → Stands text p (hex bytes ++ (10 ∷ [])) q
    → pairs 0 p (drop p text) ≡ taking bytes (Some (length bytes, q))
pairs_reads text bytes p q h s =
    let e : drop p text ≡ hex bytes ++ 10 ∷ drop q text = s.is ∙ append_assoc (hex bytes) (10 ∷ []) (drop q text) in
    let a : 0 + length bytes ≡ length bytes = omega arith in
    let b : p + 2 * length bytes + 1 ≡ q = omega (arith, s.place, length-append (hex bytes) (10 ∷ []), hex_length bytes) in
    ap (pairs 0 p) e ∙ pairs_read bytes 0 p (drop q text) h ∙ ap (λ (k : ℕ). taking bytes (Some (k, p + 2 * length bytes + 1))) a
    ∙ ap (λ (k : ℕ). taking bytes (Some (length bytes, k))) b

-- the bytes were written as pairs, and the text goes on with rest at q
record Was (p : ℕ) (l bytes : List ℕ) (n m q : ℕ) : Type 0 where
  rest : List ℕ
  text : l ≡ hex bytes ++ 10 ∷ rest
  place : q + length rest ≡ p + length l
  count : m ≡ n + length bytes
  all : AllBelow 256 bytes

-- no more is taken, with either finding
abbrev counted : (n q : ℕ) → Taken (Option (ℕ × ℕ))
counted n q = taking [] (Some (n, q))

abbrev none_more : Taken (Option (ℕ × ℕ))
none_more = taking [] None

pairs_was : (l : List ℕ) (n p m q : ℕ) → (pairs n p l).found ≡ Some (m, q) → Was p l (pairs n p l).numbers n m q
unfolding pairs hex
pairs_was [] n p m q e = let z : ◌≡◌ {A = ℕ} 0 1 = cc in absurd (omega arith)
pairs_was (b ∷ []) n p m q e = go (eqb b 10) refl e
  where
    go : (t : Bool) → eqb b 10 ≡ t → (cond t (counted n (p + 1)) none_more).found ≡ Some (m, q)
        → Was p (b ∷ []) (cond t (counted n (p + 1)) none_more).numbers n m q
    go true g f =
        let same = some_pair_parts n m (p + 1) q f in
        let x : n ≡ m = same.0 in
        let y : p + 1 ≡ q = same.1 in
        record { rest = []; text = ap (λ (z : ℕ). z ∷ []) (eqb-true b 10 g); place = omega arith; count = omega arith; all = tt }
    go false g f = let z : ◌≡◌ {A = ℕ} 0 1 = cc in absurd (omega arith)
pairs_was (b ∷ c ∷ l) n p m q e = first (eqb b 10) refl e (λ f. pairs_was l (n + 1) (p + 2) m q f)
  where
    deeper : ℕ → Taken (Option (ℕ × ℕ))
    deeper x = also (x ∷ []) (pairs (n + 1) (p + 2) l)

    Rest : Type 0
    Rest = (pairs (n + 1) (p + 2) l).found ≡ Some (m, q) → Was (p + 2) l (pairs (n + 1) (p + 2) l).numbers (n + 1) m q

    second : (o : Option ℕ) → pair_value b c ≡ o → (option_map_or deeper o none_more).found ≡ Some (m, q) → Rest
        → Was p (b ∷ c ∷ l) (option_map_or deeper o none_more).numbers n m q
    second None g f ih = absurd (cc)
    second (Some x) g f ih =
        let w = ih f in
        let d = pair_bytes b c x g in
        record {
          rest = w.rest;
          text = ap (λ (z : ℕ). z ∷ c ∷ l) d.high ∙ ap (λ (z : ℕ). hex_digit (x / 16) ∷ z ∷ l) d.low
              ∙ ap (λ (z : List ℕ). hex_digit (x / 16) ∷ hex_digit (x % 16) ∷ z) w.text;
          place = omega (arith, w.place);
          count = omega (arith, w.count);
          all = (omega (arith, d.small), w.all);
        }

    first : (t : Bool) → eqb b 10 ≡ t → (cond t (counted n (p + 1)) (option_map_or deeper (pair_value b c) none_more)).found ≡ Some (m, q) → Rest
        → Was p (b ∷ c ∷ l) (cond t (counted n (p + 1)) (option_map_or deeper (pair_value b c) none_more)).numbers n m q
    first true g f ih =
        let same = some_pair_parts n m (p + 1) q f in
        let x : n ≡ m = same.0 in
        let y : p + 1 ≡ q = same.1 in
        record { rest = c ∷ l; text = ap (λ (z : ℕ). z ∷ c ∷ l) (eqb-true b 10 g); place = omega arith; count = omega arith; all = tt }
    first false g f ih = second (pair_value b c) refl f ih

-- pairs that are read stand in the text, and say as many bytes as are told
pub record Bytes-stand (text : List ℕ) (p : ℕ) (bytes : List ℕ) (n q : ℕ) : Type 0 where
  pub part : Stands text p (hex bytes ++ (10 ∷ [])) q
  pub count : n ≡ length bytes
  pub all : AllBelow 256 bytes

pub pairs_stand : (text : List ℕ) (p n q : ℕ) → (pairs 0 p (drop p text)).found ≡ Some (n, q) → Bytes-stand text p (pairs 0 p (drop p text)).numbers n q
pairs_stand text p n q e =
    let w = pairs_was (drop p text) 0 p n q e in
    let bytes : List ℕ = (pairs 0 p (drop p text)).numbers in
    let a : length (hex bytes ++ (10 ∷ [])) ≡ length (hex bytes) + 1 = length-append (hex bytes) (10 ∷ []) in
    let b : length (drop p text) ≡ length (hex bytes) + suc (length w.rest) = ap length w.text ∙ length-append (hex bytes) (10 ∷ w.rest) in
    record {
      part = stands text p (hex bytes ++ (10 ∷ [])) w.rest q (w.text ∙ sym (append_assoc (hex bytes) (10 ∷ []) w.rest)) (omega (arith, w.place));
      count = omega (arith, w.count);
      all = w.all;
    }
