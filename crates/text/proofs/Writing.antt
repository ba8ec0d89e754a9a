-- Writers one after another, and a loop of writers. Assumes nothing.
use mathlib.Core.Path.{◌≡◌, refl, sym, ap, ◌∙◌, subst}
use mathlib.Core.List.{List, [], ◌++◌}
use mathlib.Core.Bool.{Bool, true, false}
use Prim.Native.Nat.{ℕ, ◌+◌, ◌≤◌}
use native.Mathlib.Omega.{arith}
use lib.Dec.{leb}
use lib.ListN.{length, length-append}
use lib.Seq.{sets, length-sets}
use borrow.Author.Tests.{leb-true, leb-false}
use Rattle.laws.specs.Stores.{sets_append, sets_past}
use Rattle.text.specs.Stored.{Wrote, largest_place, place_after}

-- one run of stores after another, where the second begins at the place after the first
pub stores_then : (l : List ℕ) (at : ℕ) (a b : List ℕ) (next : ℕ) → next ≡ place_after at (length a) → length l ≤ largest_place
    → sets (sets l at a) next b ≡ sets l at (a ++ b)
stores_then l at a b next e h = go (leb (at + length a) largest_place) refl
  where
    go : (t : Bool) → leb (at + length a) largest_place ≡ t → sets (sets l at a) next b ≡ sets l at (a ++ b)
    go true f =
        let g : next ≡ at + length a = omega (arith, leb-true (at + length a) largest_place f) in
        ap (λ (k : ℕ). sets (sets l at a) k b) g ∙ sets_append l at a b
    go false f =
        let n = length-sets l at a in
        let g = leb-false (at + length a) largest_place f in
        sets_past (sets l at a) next b (omega arith) ∙ sym (sets_past (sets l at a) (at + length a) b (omega arith))
        ∙ sets_append l at a b

-- one writer after another
pub wrote_then : {l l₁ l₂ a b : List ℕ} {at r₁ r₂ : ℕ} → length l ≤ largest_place → Wrote l at a r₁ l₁ → Wrote l₁ r₁ b r₂ l₂
    → Wrote l at (a ++ b) r₂ l₂
wrote_then {l} {l₁} {l₂} {a} {b} {at} {r₁} {r₂} h x y =
    record {
      next_is = simp length-append (omega (arith, x.next_is, y.next_is));
      stored = y.stored ∙ ap (λ (m : List ℕ). sets m r₁ b) x.stored ∙ stores_then l at a b r₁ x.next_is h;
    }

-- the same numbers, said in another way
pub wrote_as : {l l₁ a b : List ℕ} {at r : ℕ} → a ≡ b → Wrote l at a r l₁ → Wrote l at b r l₁
wrote_as {l} {l₁} {a} {b} {at} {r} e x = subst (λ (z : List ℕ). Wrote l at z r l₁) e x

-- what a pass over an empty slice leaves of the slice whose front it is
pub nothing_stored : {x numbers : List ℕ} {at r : ℕ} → Wrote [] at numbers r x → (l : List ℕ) → x ++ l ≡ l
nothing_stored {x} {numbers} {at} w l = ap (λ (z : List ℕ). z ++ l) (w.stored ∙ sets_past [] at numbers (omega arith))

-- what is left to be stored, where `all` was to be stored from place at₀ on: a loop's invariant
pub record Left (l : List ℕ) (at : ℕ) (a l₀ : List ℕ) (at₀ : ℕ) (all : List ℕ) : Type 0 where
  pub place : at ≤ largest_place
  pub next_is : place_after at (length a) ≡ place_after at₀ (length all)
  pub stores : sets l at a ≡ sets l₀ at₀ all

pub left_all : (l : List ℕ) (at : ℕ) (all : List ℕ) → at ≤ largest_place → Left l at all l at all
left_all l at all h = record { place = h; next_is = refl; stores = refl }

pub left_length : {l l₀ a all : List ℕ} {at at₀ : ℕ} → Left l at a l₀ at₀ all → length l ≡ length l₀
left_length {l} {l₀} {a} {all} {at} {at₀} x = sym (length-sets l at a) ∙ ap length x.stores ∙ length-sets l₀ at₀ all

pub left_step : {l l₁ l₀ whole a b all : List ℕ} {at r at₀ : ℕ} → length l₀ ≤ largest_place → Left l at whole l₀ at₀ all → whole ≡ a ++ b
    → Wrote l at a r l₁ → Left l₁ r b l₀ at₀ all
left_step {l} {l₁} {l₀} {whole} {a} {b} {all} {at} {r} {at₀} h x e w =
    let n : length whole ≡ length a + length b = rw (e, length-append) in
    let s : length l ≤ largest_place = omega (arith, left_length x) in
    record {
      place = omega (arith, w.next_is);
      next_is = omega (arith, w.next_is, x.next_is);
      stores =
          ap (λ (m : List ℕ). sets m r b) w.stored ∙ stores_then l at a b r w.next_is s
          ∙ ap (λ (m : List ℕ). sets l at m) (sym e) ∙ x.stores;
    }

pub left_done : {l l₀ a all : List ℕ} {at at₀ : ℕ} → Left l at a l₀ at₀ all → a ≡ [] → Wrote l₀ at₀ all at l
left_done {l} {l₀} {a} {all} {at} {at₀} x e =
    let n : length a ≡ 0 = ap length e in
    record { next_is = omega (arith, x.next_is); stored = ap (λ (m : List ℕ). sets l at m) (sym e) ∙ x.stores }
