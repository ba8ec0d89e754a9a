-- Reading a key: turn by turn, and both ways round. Assumes nothing.
use mathlib.Core.Path.{◌≡◌, refl, sym, ap, ◌∙◌}
use mathlib.Core.List.{List, [], ◌∷◌, ◌++◌}
use mathlib.Core.Bool.{Bool, true, false, cond}
use Prim.Native.Nat.{ℕ, suc, ◌+◌, ◌≤◌, ◌<◌}
use native.Mathlib.Omega.{arith}
use lib.Dec.{eqb}
use lib.ListN.{length, drop, drop_of_length-le}
use borrow.Author.Tests.{ne_eqb, eq-eqb, eqb-true}
use Rattle.laws.specs.Parts.{take_rest, Stands, stands}
use Rattle.std.proofs.Common.{Bor, MatchOption, unwrap_or, ◌⊎◌, ◌&&◌, add-zero}
use Rattle.std.specs.Prelude.{slice_range}
use Rattle.std.specs.List.{starts_with}
use Rattle.std.specs.declared.option.Option.{Option}
use Rattle.std.specs.declared.option.Option.TheVariants.{Some, None}
use Rattle.text.specs.Found.{after_key}

-- ════ The key in front of the text from its place on ════

swapped : (a b : ℕ) → eqb a b ≡ eqb b a
swapped a b = go (eqb b a) refl
  where
    go : (t : Bool) → eqb b a ≡ t → eqb a b ≡ t
    go true e = eq-eqb a b (sym (eqb-true b a e))
    go false e = ne_eqb a b (λ f. absurd (let z : true ≡ false = sym (eq-eqb b a (sym f)) ∙ e in cc))

key_in_front : (key : List ℕ) (p : ℕ) (l : List ℕ) → after_key key p l ≡ cond (starts_with eqb l key) (Some (p + length key)) None
unfolding after_key
key_in_front [] p l = ap Some (sym (add-zero p))
key_in_front (k ∷ key) p [] = refl
key_in_front (k ∷ key) p (b ∷ l) = rw (swapped k b) (go (eqb b k) (key_in_front key (p + 1) l))
  where
    e : p + 1 + length key ≡ p + suc (length key)
    e = omega arith

    go : (t : Bool) → after_key key (p + 1) l ≡ cond (starts_with eqb l key) (Some (p + 1 + length key)) None
        → cond t (after_key key (p + 1) l) None ≡ cond (t && starts_with eqb l key) (Some (p + suc (length key))) None
    go true ih = ih ∙ ap (λ (x : ℕ). cond (starts_with eqb l key) (Some x) None) e
    go false ih = refl

-- what is found of a text from a place on: the part, or that the place is past the end
abbrev From : (text : List ℕ) (at : ℕ) → Option (Bor (List ℕ)) → Type 0
From text at o =
    MatchOption o ((length text < at) ⊎ (length text < length text))
    (λ x. (at ≤ length text) × (length text ≤ length text) × (x.now ≡ slice_range text at (length text)) × (length x.now + at ≡ length text))

-- with an empty slice in place of what is past the end
from : (text : List ℕ) (at : ℕ) (o : Option (Bor (List ℕ))) (empty r : Bor (List ℕ)) → From text at o → r ≡ unwrap_or o empty → empty.now ≡ []
    → r.now ≡ drop at text
from text at None empty r h e f =
    let g : length text ≤ at = omega arith in
    ap (λ (x : Bor (List ℕ)). x.now) e ∙ f ∙ sym (drop_of_length-le text g)
from text at (Some x) empty r h e f = ap (λ (y : Bor (List ℕ)). y.now) e ∙ h.2 ∙ take_rest text at

module _ (text key : List ℕ) (at : ℕ) (o : Option (Bor (List ℕ))) (empty r : Bor (List ℕ)) (t : Bool) (h : From text at o) (e : r ≡ unwrap_or o empty)
    (f : empty.now ≡ []) (test : t ≡ starts_with eqb r.now key) where
  tested : starts_with eqb (drop at text) key ≡ t
  tested = ap (λ (l : List ℕ). starts_with eqb l key) (sym (from text at o empty r h e f)) ∙ sym test

  pub key_starts : t ≡ true → Some (at + length key) ≡ after_key key at (drop at text)
  key_starts g = sym (key_in_front key at (drop at text) ∙ ap (λ (s : Bool). cond s (Some (at + length key)) None) (tested ∙ g))

  pub key_missing : t ≡ false → None ≡ after_key key at (drop at text)
  key_missing g = sym (key_in_front key at (drop at text) ∙ ap (λ (s : Bool). cond s (Some (at + length key)) None) (tested ∙ g))

-- ════ Both ways round ════

key_read : (key : List ℕ) (p : ℕ) (rest : List ℕ) → after_key key p (key ++ rest) ≡ Some (p + length key)
unfolding after_key
key_read [] p rest = ap Some (omega arith)
key_read (k ∷ key) p rest =
    let e : p + 1 + length key ≡ p + suc (length key) = omega arith in
    rw (eq-eqb k k refl) (key_read key (p + 1) rest ∙ ap Some e)

-- a key that stands in the text is found
pub key_reads : (text key : List ℕ) (p q : ℕ) → Stands text p key q → after_key key p (drop p text) ≡ Some q
key_reads text key p q s =
    let e : p + length key ≡ q = omega (arith, s.place) in
    ap (after_key key p) s.is ∙ key_read key p (drop q text) ∙ ap Some e

record Was (key : List ℕ) (p : ℕ) (l : List ℕ) (q : ℕ) : Type 0 where
  rest : List ℕ
  text : l ≡ key ++ rest
  place : q ≡ p + length key

key_was : (key : List ℕ) (p : ℕ) (l : List ℕ) (q : ℕ) → after_key key p l ≡ Some q → Was key p l q
unfolding after_key
key_was [] p l q e = let x : p ≡ q = cc in record { rest = l; text = refl; place = omega arith }
key_was (k ∷ key) p [] q e = let z : ◌≡◌ {A = ℕ} 0 1 = cc in absurd (omega arith)
key_was (k ∷ key) p (b ∷ l) q e = go (eqb b k) refl e (λ f. key_was key (p + 1) l q f)
  where
    go : (t : Bool) → eqb b k ≡ t → cond t (after_key key (p + 1) l) None ≡ Some q → (after_key key (p + 1) l ≡ Some q → Was key (p + 1) l q)
        → Was (k ∷ key) p (b ∷ l) q
    go true g f ih =
        let w = ih f in
        let x : b ≡ k = eqb-true b k g in
        let y : l ≡ key ++ w.rest = w.text in
        record { rest = w.rest; text = cc; place = omega (arith, w.place) }
    go false g f ih = let z : ◌≡◌ {A = ℕ} 0 1 = cc in absurd (omega arith)

-- a key that is found stands in the text
pub key_stands : (text key : List ℕ) (p q : ℕ) → after_key key p (drop p text) ≡ Some q → Stands text p key q
key_stands text key p q e =
    let w = key_was key p (drop p text) q e in
    stands text p key w.rest q w.text w.place
