-- Where a text stops being right, line after line: at a line that no right text has there, or past the last one. Assumes nothing.
use Rattle.std.proofs.Common.{Ok, Err}
use mathlib.Core.Path.{◌≡◌, refl, sym, ap, ◌∙◌, subst}
use mathlib.Core.List.{List, [], ◌++◌}
use Prim.Native.Nat.{ℕ, suc, ◌+◌, ◌≤◌, ◌<◌}
use native.Mathlib.Omega.{arith}
use lib.ListN.{length, drop, length-append, length-drop}
use Rattle.laws.specs.Parts.{Stands, stands}
use Rattle.listing.specs.Reading.{Lines}
use Rattle.listing.specs.Plain.{first_lines, FirstWrong}
use Rattle.listing.proofs.FirstLines.{first_fewer, first_none, Whole, whole_begins, whole_next, whole_same, whole_some}

-- ════ Right texts ════

-- a line that says something right, and what may follow it
pub record Line-then {A : Type 0} (spell : A → List ℕ) (Right : A → Type 0) (Rest : A → List ℕ → Type 0) (text : List ℕ) : Type 0 where
  pub says : A
  pub right : Right says
  pub rest : List ℕ
  pub is : text ≡ spell says ++ rest
  pub follows : Rest says rest

-- nothing after
abbrev pub End : List ℕ → Type 0
End text = text ≡ []

abbrev pub SomeText : (List ℕ → Type 0) → Type 0
SomeText Right = (t : List ℕ) × Right t

pub some_line : {A : Type 0} {spell : A → List ℕ} {Right : A → Type 0} {Rest : A → List ℕ → Type 0} (a : A) → Right a → SomeText (Rest a)
    → SomeText (Line-then spell Right Rest)
some_line {A} {spell} a r (t, g) = (spell a ++ t, record { says = a; right = r; rest = t; is = refl; follows = g })

-- ════ The first wrong line ════

pub same_wrong : {Right Same : List ℕ → Type 0} {text : List ℕ} {n : ℕ} → ((t : List ℕ) → Right t → Same t) → ((t : List ℕ) → Same t → Right t)
    → FirstWrong Right text n → FirstWrong Same text n
same_wrong h g f =
    let s = f.some_right in
    record { some_right = (s.0, h s.0 s.1, s.2); none_right = λ t r. f.none_right t (g t r) }

-- two lines can't both be the first wrong one
pub one_first : {Right : List ℕ → Type 0} {text : List ℕ} (m n : ℕ) → FirstWrong Right text m → FirstWrong Right text n → m < n → ⊥
one_first {Right} {text} m n f g h =
    let s = g.some_right in
    f.none_right s.0 s.1 (first_fewer (suc m) n s.0 text h s.2)

-- if a line is told, it is the first wrong one, the text's lines having numbers from `first` on
abbrev pub Told : (Right : List ℕ → Type 0) (text : List ℕ) (first : ℕ) → Lines → Type 0
Told Right text first (Ok q) = Unit {0}
Told Right text first (Err m) = (n : ℕ) × (m ≡ first + n) × FirstWrong Right text n

-- ════ Stops ════

module _ {A : Type 0} {spell : A → List ℕ} {Right : A → Type 0} {Rest : A → List ℕ → Type 0} (whole : (a : A) → Right a → Whole 1 (spell a)) where
  -- the text has no such line
  pub stops_here : (text : List ℕ) (p first : ℕ) → SomeText (Line-then spell Right Rest) → ((a : A) (q : ℕ) → Right a → Stands text p (spell a) q → ⊥)
      → Told (Line-then spell Right Rest) (drop p text) first (Err first)
  unfolding first_lines
  stops_here text p first s none = (
    0,
    omega arith,
    record {
      some_right = (s.0, s.1, refl);
      none_right = λ t r e.
          let l : List ℕ = spell r.says in
          let b = whole_begins (whole r.says r.right) (drop p text) r.rest (sym e ∙ ap (first_lines 1) r.is) in
          none r.says (p + length l) r.right (stands text p l b.0 (p + length l) b.1 refl);
    },
  )

  -- the text has this line, and stops later
  later : (a : A) (rest : List ℕ) (n : ℕ) → Right a → ((b : A) (t : List ℕ) → Right b → spell a ≡ spell b → Rest b t → Rest a t)
      → FirstWrong (Rest a) rest n → FirstWrong (Line-then spell Right Rest) (spell a ++ rest) (n + 1)
  later a rest n r same f =
      let w = whole a r in
      let s = f.some_right in
      record {
        some_right = (
          spell a ++ s.0,
          record { says = a; right = r; rest = s.0; is = refl; follows = s.1 },
          w.lines n s.0 ∙ ap (λ (z : List ℕ). spell a ++ z) s.2 ∙ sym (w.lines n rest),
        );
        none_right = λ t v e.
            let b = whole_begins w t rest (first_fewer 1 (suc (n + 1)) t (spell a ++ rest) (omega arith) e) in
            let c : suc n + 1 ≡ suc (n + 1) = omega arith in
            let i = whole_same b.0 v.rest w (whole v.says v.right) (sym b.1 ∙ v.is) in
            let g : Rest a b.0 = same v.says b.0 v.right i.0 (subst (Rest v.says) (sym i.1) v.follows) in
            f.none_right b.0 g (whole_next w (suc n) b.0 rest (rw c (sym (ap (first_lines (suc (n + 1))) b.1) ∙ e)));
      }

  -- the text has this line: what is told of those after it is told of the whole. The place after the line is in the text, or at its end
  pub told_after : (text : List ℕ) (p q first : ℕ) (a : A) → Right a → Stands text p (spell a) q
      → ((b : A) (t : List ℕ) → Right b → spell a ≡ spell b → Rest b t → Rest a t) → (found : Lines)
      → (q ≤ length text → Told (Rest a) (drop q text) (first + 1) found) → Told (Line-then spell Right Rest) (drop p text) first found
  told_after text p q first a r s same found then = go found (then inside)
    where
      inside : q ≤ length text
      inside =
          omega (arith, s.place, whole_some (spell a) (whole a r), length-drop p text, length-drop q text, length-append (spell a) (drop q text), ap length s.is)

      go : (f : Lines) → Told (Rest a) (drop q text) (first + 1) f → Told (Line-then spell Right Rest) (drop p text) first f
      go (Ok x) h = tt
      go (Err m) (n, e, f) =
          (n + 1, omega arith, subst (λ (z : List ℕ). FirstWrong (Line-then spell Right Rest) z (n + 1)) (sym s.is) (later a (drop q text) n r same f))

-- bytes past the last line
pub stops_past : (text : List ℕ) (p first : ℕ) → p ≤ length text → (p ≡ length text → ⊥) → Told End (drop p text) first (Err first)
unfolding first_lines
stops_past text p first h not = (
  0,
  omega arith,
  record {
    some_right = ([], refl, refl);
    none_right = λ t r e.
        let d : drop p text ≡ [] = first_none (drop p text) (sym e ∙ ap (first_lines 1) r) in
        not (omega (arith, ap length d, length-drop p text));
  },
)
