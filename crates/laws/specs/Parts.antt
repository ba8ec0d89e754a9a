-- Parts of a list from a place on. Assumes nothing.
use Rattle.std.specs.Prelude.{◌≡◌, List, ◌∷◌, ◌++◌, ℕ, ◌+◌, ◌-◌, ◌<◌, length, take, drop, get_or}
use Rattle.std.proofs.Common.{sym, ap, ◌∙◌, subst, append_assoc, add-one, arith, length-drop, length-append, drop-cons, drop-drop, take_all}
use Rattle.std.proofs.Math.Seq.{drop-append_seam}

module _ {A : Type 0} where
  -- the element at a place, and the part after it
  pub drop_one : (l : List A) (i : ℕ) (d : A) → i < length l → drop i l ≡ get_or l i d ∷ drop (i + 1) l
  drop_one l i d h = rw (add-one i, drop-cons l i d h)

  -- `&l[k..]`
  pub take_rest : (l : List A) (k : ℕ) → take (length l - k) (drop k l) ≡ drop k l
  take_rest l k = take_all (length l - k) (drop k l) (omega (arith, length-drop k l))

  -- the part stands in the list from place p on, and q is the place after it
  pub record Stands (l : List A) (p : ℕ) (part : List A) (q : ℕ) : Type 0 where
    pub is : drop p l ≡ part ++ drop q l
    pub place : q ≡ p + length part

  -- it stands where the list goes on with it
  pub stands : (l : List A) (p : ℕ) (part rest : List A) (q : ℕ) → drop p l ≡ part ++ rest → q ≡ p + length part → Stands l p part q
  stands l p part rest q e f =
      let r : drop q l ≡ rest =
      ap (λ (k : ℕ). drop k l) f ∙ sym (drop-drop (length part) p l) ∙ ap (drop (length part)) e ∙ drop-append_seam part rest in
      record { is = e ∙ ap (λ (z : List A). part ++ z) (sym r); place = f }

  pub stands_as : {l a b : List A} {p q : ℕ} → a ≡ b → Stands l p a q → Stands l p b q
  stands_as {l} {a} {b} {p} {q} e s = subst (λ (z : List A). Stands l p z q) e s

  -- one part after another is one part, and back
  pub stands_then : {l a b : List A} {p q r : ℕ} → Stands l p a q → Stands l q b r → Stands l p (a ++ b) r
  stands_then {l} {a} {b} {p} {q} {r} s t =
      record {
        is = s.is ∙ ap (λ (z : List A). a ++ z) t.is ∙ sym (append_assoc a b (drop r l));
        place = omega (arith, s.place, t.place, length-append a b);
      }

  pub stands_first : {l : List A} {p r : ℕ} (a b : List A) → Stands l p (a ++ b) r → Stands l p a (p + length a)
  stands_first {l} {p} {r} a b s = stands l p a (b ++ drop r l) (p + length a) (s.is ∙ append_assoc a b (drop r l)) (omega arith)

  pub stands_second : {l : List A} {p r : ℕ} (a b : List A) → Stands l p (a ++ b) r → Stands l (p + length a) b r
  stands_second {l} {p} {r} a b s =
      let e : drop (p + length a) l ≡ b ++ drop r l =
      sym (drop-drop (length a) p l) ∙ ap (drop (length a)) (s.is ∙ append_assoc a b (drop r l)) ∙ drop-append_seam a (b ++ drop r l) in
      record { is = e; place = omega (arith, s.place, length-append a b) }
