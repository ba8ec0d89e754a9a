-- What a reader finds stands in the text: a line, lines, the head's lines. Assumes nothing.
use Rattle.std.proofs.Common.{Option, Some, None, Ok, Err}
use mathlib.Core.Path.{◌≡◌, refl, sym, ap, ◌∙◌}
use mathlib.Core.List.{List, [], ◌∷◌, ◌++◌, append_assoc}
use mathlib.Core.Bool.{Bool, true, false, cond}
use Prim.Native.Nat.{ℕ, zero, suc, ◌+◌, ◌*◌, ◌≤◌}
use native.Mathlib.Omega.{arith}
use lib.ListN.{length, take, drop, length-append}
use lib.Seq.{take_at, drop_at}
use Rattle.laws.specs.Below.{AllBelow, below_append}
use Rattle.laws.specs.Parts.{Stands, stands_as, stands_then}
use Rattle.text.specs.Stored.{Taken, taking, also}
use Rattle.text.specs.Found.{on_place, on_number, pairs}
use Rattle.text.specs.Written.{decimal}
use Rattle.text.proofs.Keys.{key_stands}
use Rattle.text.proofs.Numbers.{number_stands, number_within_lem}
use Rattle.text.proofs.Pairs.{pairs_stand}
use Rattle.listing.specs.Listing.{literals_key, ending, numbers, line, record_lines, literals_line}
use Rattle.listing.specs.Reading.{Lines, number_within, pairs_within, decimal_at, key_at, numbers_at, line_at, lines_at, count_at, literals_at}
use Rattle.laws.specs.Range.{within, within_facts}
use Rattle.listing.proofs.Lines.{line_is}

-- bytes of the text say n 16-bit words
pub record Words-stand (text : List ℕ) (p : ℕ) (bytes : List ℕ) (q n : ℕ) (words : List ℕ) : Type 0 where
  pub part : Stands text p bytes q
  pub count : length words ≡ n
  pub all : AllBelow 65536 words

module _ (text : List ℕ) where
  empty : {p q : ℕ} → p ≡ q → Stands text p [] q
  empty {p} {q} e = record { is = ap (λ (z : ℕ). drop z text) e; place = omega arith }

  numbers_then : (n : ℕ) (ns : List ℕ) (k p x q : ℕ) → length ns ≡ k → Stands text p (decimal n ++ (ending k ∷ [])) x → Stands text x (numbers ns) q
      → Stands text p (numbers (n ∷ ns)) q
  unfolding numbers
  numbers_then n ns k p x q e s t =
      stands_as (append_assoc (decimal n) (ending k ∷ []) (numbers ns) ∙ ap (λ (z : ℕ). decimal n ++ ending z ∷ numbers ns) (sym e)) (stands_then s t)

  pub numbers_found : (count p q : ℕ) → (numbers_at text count p).found ≡ Some q
      → Words-stand text p (numbers (numbers_at text count p).numbers) q count (numbers_at text count p).numbers
  unfolding numbers_at numbers
  numbers_found zero p q e = let z : p ≡ q = cc in record { part = empty z; count = refl; all = tt }
  numbers_found (suc k) p q e = go (decimal_at text (ending k) p) refl (λ x. numbers_found k x q) e
    where
      found : Option (ℕ × ℕ) → Taken (Option ℕ)
      found r = on_number (taking [] None) (λ n x. also (n ∷ []) (numbers_at text k x)) r

      go : (r : Option (ℕ × ℕ)) → decimal_at text (ending k) p ≡ r
          → ((x : ℕ) → (numbers_at text k x).found ≡ Some q → Words-stand text x (numbers (numbers_at text k x).numbers) q k (numbers_at text k x).numbers)
          → (found r).found ≡ Some q → Words-stand text p (numbers (found r).numbers) q (suc k) (found r).numbers
      go (Some (n, x)) f ih g =
          let m = ih x g in
          record {
            part = numbers_then n (numbers_at text k x).numbers k p x q m.count (number_stands text (ending k) 65535 p n x (omega arith) f) m.part;
            count = ap suc m.count;
            all = (omega (arith, number_within_lem (ending k) 65535 p (drop p text) n x (omega arith) f), m.all);
          }
      go None f ih g = let z : ◌≡◌ {A = ℕ} 0 1 = cc in absurd (omega arith)

  pub line_found : (key : List ℕ) (count p q : ℕ) → (line_at text key count p).found ≡ Some q
      → Words-stand text p (line key (line_at text key count p).numbers) q count (line_at text key count p).numbers
  unfolding line_at
  line_found key count p q = go (key_at text key p) refl
    where
      found : Option ℕ → Taken (Option ℕ)
      found r = on_place (taking [] None) (λ x. numbers_at text count x) r

      go : (r : Option ℕ) → key_at text key p ≡ r → (found r).found ≡ Some q → Words-stand text p (line key (found r).numbers) q count (found r).numbers
      go (Some x) f e =
          let m = numbers_found count x q e in
          record { part = stands_as (line_is key (numbers_at text count x).numbers) (stands_then (key_stands text key p x f) m.part); count = m.count; all = m.all }
      go None f e = let z : ◌≡◌ {A = ℕ} 0 1 = cc in absurd (omega arith)

  pub lines_found : (key : List ℕ) (width count n p q : ℕ) → (lines_at text key width count n p).found ≡ Ok q
      → Words-stand text p (record_lines key width count (lines_at text key width count n p).numbers) q (count * width) (lines_at text key width count n p).numbers
  unfolding lines_at record_lines
  lines_found key width zero n p q e = let z : p ≡ q = cc in record { part = empty z; count = omega arith; all = tt }
  lines_found key width (suc k) n p q e = go (line_at text key width p).found refl (λ x. lines_found key width k (n + 1) x q) e
    where
      a : List ℕ
      a = (line_at text key width p).numbers

      found : Option ℕ → Taken Lines
      found r = also a (on_place (taking [] (Err n)) (λ x. lines_at text key width k (n + 1) x) r)

      more : ℕ → List ℕ
      more x = (lines_at text key width k (n + 1) x).numbers

      go : (r : Option ℕ) → (line_at text key width p).found ≡ r
          → ((x : ℕ) → (lines_at text key width k (n + 1) x).found ≡ Ok q → Words-stand text x (record_lines key width k (more x)) q (k * width) (more x))
          → (found r).found ≡ Ok q
          → Words-stand text p (line key (take width (found r).numbers) ++ record_lines key width k (drop width (found r).numbers)) q (suc k * width) (found r).numbers
      go (Some x) f ih g =
          let w = line_found key width p x f in
          let m = ih x g in
          record {
            part = rw (take_at a (more x) width w.count, drop_at a (more x) width w.count) (stands_then w.part m.part);
            count = length-append a (more x) ∙ omega (arith, w.count, m.count);
            all = below_append 65536 a (more x) w.all m.all;
          }
      go None f ih g = let z : ◌≡◌ {A = ℕ} 0 1 = cc in absurd (omega arith)

  -- ════ The head's lines ════

  pub record Count-stands (key : List ℕ) (low high p n q : ℕ) : Type 0 where
    pub part : Stands text p (line key (n ∷ [])) q
    pub least : low ≤ n
    pub most : n ≤ high

  pub count_found : (key : List ℕ) (low high p n q : ℕ) → count_at text key low high p ≡ Some (n, q) → Count-stands key low high p n q
  unfolding count_at line numbers ending
  count_found key low high p n q = go (key_at text key p) refl
    where
      inside : (x m y : ℕ) (t : Bool) → key_at text key p ≡ Some x → decimal_at text 10 x ≡ Some (m, y) → within low high m ≡ t → cond {A = Option (ℕ × ℕ)} t (Some (m, y)) None ≡ Some (n, q)
          → Count-stands key low high p n q
      inside x m y true f g h e =
          let a : m ≡ n = ap (on_number 0 (λ b c. b)) e in
          let b : y ≡ q = ap (on_number 0 (λ b c. c)) e in
          let d : decimal_at text 10 x ≡ Some (n, q) = g ∙ e in
          let w = within_facts low high m h in
          record {
            part = stands_then (key_stands text key p x f) (number_stands text 10 65535 x n q (omega arith) d);
            least = omega arith;
            most = omega arith;
          }
      inside x m y false f g h e = let z : ◌≡◌ {A = ℕ} 0 1 = cc in absurd (omega arith)

      found : (x : ℕ) (r : Option (ℕ × ℕ)) → key_at text key p ≡ Some x → decimal_at text 10 x ≡ r → number_within low high r ≡ Some (n, q) → Count-stands key low high p n q
      found x (Some (m, y)) f g e = inside x m y (within low high m) f g refl e
      found x None f g e = let z : ◌≡◌ {A = ℕ} 0 1 = cc in absurd (omega arith)

      go : (r : Option ℕ) → key_at text key p ≡ r → on_place None (λ x. number_within low high (decimal_at text 10 x)) r ≡ Some (n, q) → Count-stands key low high p n q
      go (Some x) f e = found x (decimal_at text 10 x) f refl e
      go None f e = let z : ◌≡◌ {A = ℕ} 0 1 = cc in absurd (omega arith)

  pub record Literals-stand (p n q : ℕ) (literals : List ℕ) : Type 0 where
    pub part : Stands text p (literals_line literals) q
    pub most : n ≤ 4096
    pub count : n ≡ length literals
    pub all : AllBelow 256 literals

  pub literals_found : (p n q : ℕ) → (literals_at text p).found ≡ Some (n, q) → Literals-stand p n q (literals_at text p).numbers
  unfolding literals_at literals_line
  literals_found p n q = go (key_at text literals_key p) refl
    where
      at : ℕ → Taken (Option (ℕ × ℕ))
      at x = pairs 0 x (drop x text)

      inside : (x m y : ℕ) (t : Bool) → key_at text literals_key p ≡ Some x → (at x).found ≡ Some (m, y) → within 0 4096 m ≡ t → cond {A = Option (ℕ × ℕ)} t (Some (m, y)) None ≡ Some (n, q)
          → Literals-stand p n q (at x).numbers
      inside x m y true f g h e =
          let a : m ≡ n = ap (on_number 0 (λ b c. b)) e in
          let b : y ≡ q = ap (on_number 0 (λ b c. c)) e in
          let d : (at x).found ≡ Some (n, q) = g ∙ e in
          let w = within_facts 0 4096 m h in
          let s = pairs_stand text x n q d in
          record { part = stands_then (key_stands text literals_key p x f) s.part; most = omega arith; count = s.count; all = s.all }
      inside x m y false f g h e = let z : ◌≡◌ {A = ℕ} 0 1 = cc in absurd (omega arith)

      found : (x : ℕ) (r : Option (ℕ × ℕ)) → key_at text literals_key p ≡ Some x → (at x).found ≡ r
          → on_number None (λ m y. cond {A = Option (ℕ × ℕ)} (within 0 4096 m) (Some (m, y)) None) r ≡ Some (n, q) → Literals-stand p n q (at x).numbers
      found x (Some (m, y)) f g e = inside x m y (within 0 4096 m) f g refl e
      found x None f g e = let z : ◌≡◌ {A = ℕ} 0 1 = cc in absurd (omega arith)

      go : (r : Option ℕ) → key_at text literals_key p ≡ r → (on_place (taking [] None) (λ x. pairs_within 0 4096 (at x)) r).found ≡ Some (n, q)
          → Literals-stand p n q (on_place (taking [] None) (λ x. pairs_within 0 4096 (at x)) r).numbers
      go (Some x) f e = found x (at x).found f refl e
      go None f e = let z : ◌≡◌ {A = ℕ} 0 1 = cc in absurd (omega arith)
