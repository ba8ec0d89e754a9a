-- The first lines of a text, and the parts that are whole lines. Assumes nothing.
use mathlib.Core.Path.{◌≡◌, refl, sym, ap, ◌∙◌}
use mathlib.Core.List.{List, [], ◌∷◌, ◌++◌, append_assoc, append-nil}
use mathlib.Core.Bool.{Bool, true, false, cond}
use Prim.Native.Nat.{ℕ, zero, suc, ◌+◌, ◌-◌, ◌/◌, ◌%◌, ◌≤◌, ◌<◌}
use native.Mathlib.Numerals.{add-one}
use native.Mathlib.Omega.{arith}
use lib.Dec.{ltb, eqb}
use lib.ListN.{length, drop}
use lib.Seq.{drop-append_seam}
use borrow.Author.Tests.{ne_eqb, eqb-false}
use Rattle.laws.specs.Tests.{never}
use Rattle.grammar.specs.Words.{rule_count, node_count}
use Rattle.text.specs.Written.{digits, decimal, hex_digit, hex}
use Rattle.listing.specs.Listing.{rules_key, nodes_key, literals_key, ending, numbers, line, literals_line, head_lines}
use Rattle.listing.specs.Plain.{first_lines}

-- ════ The first lines of a text ════

first_again : (m n : ℕ) (l : List ℕ) → m ≤ n → first_lines m (first_lines n l) ≡ first_lines m l
unfolding first_lines
first_again zero n l h = refl
first_again (suc m) zero l h = absurd (omega arith)
first_again (suc m) (suc n) [] h = refl
first_again (suc m) (suc n) (b ∷ l) h = go (eqb b 10) (first_again m n l (omega arith)) (first_again (suc m) (suc n) l h)
  where
    go : (t : Bool) → first_lines m (first_lines n l) ≡ first_lines m l → first_lines (suc m) (first_lines (suc n) l) ≡ first_lines (suc m) l
        → ◌≡◌ {A = List ℕ} (b ∷ cond t (first_lines m (cond t (first_lines n l) (first_lines (suc n) l))) (first_lines (suc m) (cond t (first_lines n l) (first_lines (suc n) l))))
        (b ∷ cond t (first_lines m l) (first_lines (suc m) l))
    go true e f = ap (λ (z : List ℕ). b ∷ z) e
    go false e f = ap (λ (z : List ℕ). b ∷ z) f

-- texts with the same first lines have fewer lines in common too
pub first_fewer : (m n : ℕ) (l k : List ℕ) → m ≤ n → first_lines n l ≡ first_lines n k → first_lines m l ≡ first_lines m k
first_fewer m n l k h e = sym (first_again m n l h) ∙ ap (first_lines m) e ∙ first_again m n k h

first_rest : (n : ℕ) (l : List ℕ) → (rest : List ℕ) × (l ≡ first_lines n l ++ rest)
unfolding first_lines
first_rest zero l = (l, refl)
first_rest (suc n) [] = ([], refl)
first_rest (suc n) (b ∷ l) = go (eqb b 10) (first_rest n l) (first_rest (suc n) l)
  where
    go : (t : Bool) → (rest : List ℕ) × (l ≡ first_lines n l ++ rest) → (rest : List ℕ) × (l ≡ first_lines (suc n) l ++ rest)
        → (rest : List ℕ) × ◌≡◌ {A = List ℕ} (b ∷ l) (b ∷ (cond t (first_lines n l) (first_lines (suc n) l) ++ rest))
    go true r s = (r.0, ap (λ (z : List ℕ). b ∷ z) r.1)
    go false r s = (s.0, ap (λ (z : List ℕ). b ∷ z) s.1)

pub first_none : (l : List ℕ) → first_lines 1 l ≡ [] → l ≡ []
unfolding first_lines
first_none [] e = refl
first_none (b ∷ l) e = let z : ◌≡◌ {A = ℕ} 0 1 = cc in absurd (omega arith)

-- ════ Whole lines ════

-- the part is n lines, whatever follows it
pub record Whole (n : ℕ) (part : List ℕ) : Type 0 where
  pub lines : (m : ℕ) (rest : List ℕ) → first_lines (m + n) (part ++ rest) ≡ part ++ first_lines m rest

pub whole_then : {m n : ℕ} {a b : List ℕ} → Whole m a → Whole n b → Whole (m + n) (a ++ b)
whole_then {m} {n} {a} {b} h g =
    record {
      lines = λ k rest.
          let e : k + (m + n) ≡ k + n + m = omega arith in
          ap (first_lines (k + (m + n))) (append_assoc a b rest) ∙ ap (λ (z : ℕ). first_lines z (a ++ (b ++ rest))) e ∙ h.lines (k + n) (b ++ rest)
          ∙ ap (λ (z : List ℕ). a ++ z) (g.lines k rest) ∙ sym (append_assoc a b (first_lines k rest));
    }

front_same : (a u v : List ℕ) → a ++ u ≡ a ++ v → u ≡ v
front_same a u v e = sym (drop-append_seam a u) ∙ ap (drop (length a)) e ∙ drop-append_seam a v

module _ {n : ℕ} {part : List ℕ} (w : Whole n part) where
  pub whole_first : (rest : List ℕ) → first_lines n (part ++ rest) ≡ part
  unfolding first_lines
  whole_first rest =
      let e : n ≡ 0 + n = omega arith in
      ap (λ (z : ℕ). first_lines z (part ++ rest)) e ∙ w.lines 0 rest ∙ append-nil part

  -- a text with the same first lines begins with the part too
  pub whole_begins : (l rest : List ℕ) → first_lines n l ≡ first_lines n (part ++ rest) → (more : List ℕ) × (l ≡ part ++ more)
  whole_begins l rest e =
      let r = first_rest n l in
      (r.0, r.1 ∙ ap (λ (z : List ℕ). z ++ r.0) (e ∙ whole_first rest))

  -- what follows the part has the lines after the part's
  pub whole_next : (m : ℕ) (l k : List ℕ) → first_lines (m + n) (part ++ l) ≡ first_lines (m + n) (part ++ k) → first_lines m l ≡ first_lines m k
  whole_next m l k e = front_same part (first_lines m l) (first_lines m k) (sym (w.lines m l) ∙ e ∙ w.lines m k)

-- so many lines in front of a text are one part
pub whole_same : {n : ℕ} {a b : List ℕ} (l k : List ℕ) → Whole n a → Whole n b → a ++ l ≡ b ++ k → (a ≡ b) × (l ≡ k)
whole_same {n} {a} {b} l k v w e =
    let f : a ≡ b = sym (whole_first v l) ∙ ap (first_lines n) e ∙ whole_first w k in
    (f, front_same a l k (e ∙ ap (λ (z : List ℕ). z ++ k) (sym f)))

-- a line has bytes
pub whole_some : (part : List ℕ) → Whole 1 part → 0 < length part
unfolding first_lines
whole_some [] w = let z : ◌≡◌ {A = ℕ} 0 1 = cc (w.lines 0 (0 ∷ [])) in absurd (omega arith)
whole_some (b ∷ part) w = omega arith

-- ════ Written lines are whole ════

-- bytes of a line that go on: none of them is byte 10
pub record Inside (bytes : List ℕ) : Type 0 where
  pub goes_on : (m : ℕ) (rest : List ℕ) → first_lines (suc m) (bytes ++ rest) ≡ bytes ++ first_lines (suc m) rest

inside_one : (b : ℕ) → (b ≡ 10 → ⊥) → Inside (b ∷ [])
unfolding first_lines
inside_one b h = record { goes_on = λ m rest. rw (ne_eqb b 10 h) }

inside_then : {a b : List ℕ} → Inside a → Inside b → Inside (a ++ b)
inside_then {a} {b} h g =
    record {
      goes_on = λ m rest.
          ap (first_lines (suc m)) (append_assoc a b rest) ∙ h.goes_on m (b ++ rest) ∙ ap (λ (z : List ℕ). a ++ z) (g.goes_on m rest)
          ∙ sym (append_assoc a b (first_lines (suc m) rest));
    }

inside_line : {a b : List ℕ} → Inside a → Whole 1 b → Whole 1 (a ++ b)
inside_line {a} {b} h w =
    record {
      lines = λ m rest.
          ap (first_lines (m + 1)) (append_assoc a b rest) ∙ ap (λ (z : ℕ). first_lines z (a ++ (b ++ rest))) (add-one m) ∙ h.goes_on m (b ++ rest)
          ∙ ap (λ (z : ℕ). a ++ first_lines z (b ++ rest)) (sym (add-one m)) ∙ ap (λ (z : List ℕ). a ++ z) (w.lines m rest) ∙ sym (append_assoc a b (first_lines m rest));
    }

-- a key, by a look at its bytes
abbrev tenless : List ℕ → Bool
tenless [] = true
tenless (b ∷ bytes) = cond (eqb b 10) false (tenless bytes)

pub inside : (bytes : List ℕ) → tenless bytes ≡ true → Inside bytes
inside [] e = record { goes_on = λ m rest. refl }
inside (b ∷ bytes) e = go (eqb b 10) refl e (inside bytes)
  where
    go : (t : Bool) → eqb b 10 ≡ t → cond t false (tenless bytes) ≡ true → (tenless bytes ≡ true → Inside bytes) → Inside (b ∷ bytes)
    go true g f ih = never f
    go false g f ih = inside_then (inside_one b (eqb-false b 10 g)) (ih f)

line_end : Whole 1 (10 ∷ [])
unfolding first_lines
line_end = record { lines = λ m rest. rw (add-one m) }

inside_digits : (f n : ℕ) → Inside (digits f n)
unfolding digits
inside_digits zero n = inside_one (48 + n) (omega arith)
inside_digits (suc f) n = go (ltb n 10) (inside_digits f (n / 10))
  where
    go : (t : Bool) → Inside (digits f (n / 10)) → Inside (cond t ((48 + n) ∷ []) (digits f (n / 10) ++ ((48 + n % 10) ∷ [])))
    go true h = inside_one (48 + n) (omega arith)
    go false h = inside_then h (inside_one (48 + n % 10) (omega arith))

inside_decimal : (n : ℕ) → Inside (decimal n)
unfolding decimal
inside_decimal n = inside_digits 9 n

hex_high : (n : ℕ) → hex_digit n ≡ 10 → ⊥
unfolding hex_digit
hex_high n = go (ltb n 10)
  where
    go : (t : Bool) → cond t (48 + n) (97 + (n - 10)) ≡ 10 → ⊥
    go true e = omega arith
    go false e = omega arith

inside_hex : (bytes : List ℕ) → Inside (hex bytes)
unfolding hex
inside_hex [] = record { goes_on = λ m rest. refl }
inside_hex (b ∷ bytes) =
    inside_then (inside_one (hex_digit (b / 16)) (hex_high (b / 16)))
    (inside_then (inside_one (hex_digit (b % 16)) (hex_high (b % 16))) (inside_hex bytes))

-- a key, and hex or decimals up to the line's end
module _ {key : List ℕ} (h : Inside key) where
  pub decimal_line : (n : ℕ) → Whole 1 (key ++ (decimal n ++ (10 ∷ [])))
  decimal_line n = inside_line h (inside_line (inside_decimal n) line_end)

  pub hex_line : (bytes : List ℕ) → Whole 1 (key ++ (hex bytes ++ (10 ∷ [])))
  hex_line bytes = inside_line h (inside_line (inside_hex bytes) line_end)

  numbers_whole : (n : ℕ) (ns : List ℕ) → Whole 1 (numbers (n ∷ ns))
  unfolding numbers ending
  numbers_whole n [] = inside_line (inside_decimal n) line_end
  numbers_whole n (k ∷ ns) =
      rw (ne_eqb (length (k ∷ ns)) 0 (omega arith))
      (inside_line (inside_decimal n) (inside_line (inside_one 32 (omega arith)) (numbers_whole k ns)))

  pub line_whole : (ns : List ℕ) → 0 < length ns → Whole 1 (line key ns)
  unfolding line
  line_whole [] g = absurd (omega arith)
  line_whole (n ∷ ns) g = inside_line h (numbers_whole n ns)

-- ════ The first three lines of a listing ════

pub literals_whole : (literals : List ℕ) → Whole 1 (literals_line literals)
unfolding literals_line
literals_whole literals = hex_line (inside literals_key refl) literals

pub head_whole : (words literals : List ℕ) → Whole 3 (head_lines words literals)
unfolding head_lines
head_whole words literals =
    whole_then (line_whole (inside rules_key refl) (rule_count words ∷ []) (omega arith))
    (whole_then (line_whole (inside nodes_key refl) (node_count words ∷ []) (omega arith)) (literals_whole literals))
