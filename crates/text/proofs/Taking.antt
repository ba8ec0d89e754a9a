-- Readers that store what they take: one after another, and a loop of them. Assumes nothing.
use mathlib.Core.Path.{◌≡◌, refl, sym, ap, ◌∙◌, subst}
use mathlib.Core.List.{List, [], ◌++◌}
use Prim.Native.Nat.{ℕ, ◌≤◌}
use native.Mathlib.Omega.{arith}
use lib.ListN.{length}
use lib.Seq.{sets, length-sets}
use Rattle.laws.specs.Stores.{sets_past}
use Rattle.text.specs.Stored.{Wrote, Taken, taking, also, Took, largest_place, place_after}
use Rattle.text.proofs.Writing.{stores_then}

module _ {F : Type 0} where
  pub took_length : {t : Taken F} {l l₁ : List ℕ} {at : ℕ} {f : F} → Took t l at f l₁ → length l₁ ≡ length l
  took_length {t} {l} {l₁} {at} w = ap length w.stored ∙ length-sets l at t.numbers

  -- nothing was taken
  pub took_none : (f : F) (l : List ℕ) (at : ℕ) → Took (taking [] f) l at f l
  took_none f l at = record { found_is = refl; stored = refl }

  pub took_as : {t u : Taken F} {l l₁ : List ℕ} {at : ℕ} {f : F} → t ≡ u → Took t l at f l₁ → Took u l at f l₁
  took_as {t} {u} {l} {l₁} {at} {f} e w = subst (λ (z : Taken F). Took z l at f l₁) e w

  -- what a pass over an empty slice leaves of the slice whose front it is
  pub nothing_taken : {t : Taken F} {x : List ℕ} {at : ℕ} {f : F} → Took t [] at f x → (l : List ℕ) → x ++ l ≡ l
  nothing_taken {t} {x} {at} w l = ap (λ (z : List ℕ). z ++ l) (w.stored ∙ sets_past [] at t.numbers (omega arith))

  -- a reader after a writer
  pub wrote_took : {t : Taken F} {l l₁ l₂ vs : List ℕ} {at r : ℕ} {f : F} → length l ≤ largest_place → Wrote l at vs r l₁ → Took t l₁ r f l₂
      → Took (also vs t) l at f l₂
  wrote_took {t} {l} {l₁} {l₂} {vs} {at} {r} h x y =
      record {
        found_is = y.found_is;
        stored =
            y.stored ∙ ap (λ (m : List ℕ). sets m r t.numbers) x.stored ∙ stores_then l at vs t.numbers r x.next_is h;
      }

  -- what is still to be taken and stored, where t₀ was to be, from place at₀ on: a loop's invariant
  pub record Still (t : Taken F) (l : List ℕ) (at : ℕ) (t₀ : Taken F) (l₀ : List ℕ) (at₀ : ℕ) : Type 0 where
    pub found_is : t.found ≡ t₀.found
    pub stores : sets l at t.numbers ≡ sets l₀ at₀ t₀.numbers

  pub still_all : (t : Taken F) (l : List ℕ) (at : ℕ) → Still t l at t l at
  still_all t l at = record { found_is = refl; stores = refl }

  pub still_length : {t t₀ : Taken F} {l l₀ : List ℕ} {at at₀ : ℕ} → Still t l at t₀ l₀ at₀ → length l ≡ length l₀
  still_length {t} {t₀} {l} {l₀} {at} {at₀} x = sym (length-sets l at t.numbers) ∙ ap length x.stores ∙ length-sets l₀ at₀ t₀.numbers

  pub still_step : {t t₁ t₀ : Taken F} {l l₁ l₀ vs : List ℕ} {at r at₀ : ℕ} → length l₀ ≤ largest_place → Still t l at t₀ l₀ at₀ → t ≡ also vs t₁
      → Wrote l at vs r l₁ → Still t₁ l₁ r t₀ l₀ at₀
  still_step {t} {t₁} {t₀} {l} {l₁} {l₀} {vs} {at} {r} {at₀} h x e w =
      let s : length l ≤ largest_place = omega (arith, still_length x) in
      record {
        found_is = ap (λ (u : Taken F). u.found) (sym e) ∙ x.found_is;
        stores =
            ap (λ (m : List ℕ). sets m r t₁.numbers) w.stored ∙ stores_then l at vs t₁.numbers r w.next_is s
            ∙ ap (λ (u : Taken F). sets l at u.numbers) (sym e) ∙ x.stores;
      }

  -- no more is taken
  pub still_end : {t t₀ : Taken F} {l l₀ : List ℕ} {at at₀ : ℕ} {f : F} → Still t l at t₀ l₀ at₀ → t ≡ taking [] f → Took t₀ l₀ at₀ f l
  still_end {t} {t₀} {l} {l₀} {at} {at₀} x e =
      record {
        found_is = ap (λ (u : Taken F). u.found) (sym e) ∙ x.found_is;
        stored = ap (λ (u : Taken F). sets l at u.numbers) (sym e) ∙ x.stores;
      }

  -- the last numbers were stored by a reader that found no more
  pub still_last : {G : Type 0} {t t₀ : Taken F} {u : Taken G} {l l₁ l₀ : List ℕ} {at at₀ : ℕ} {f : F} {g : G} → Still t l at t₀ l₀ at₀
      → Took u l at g l₁ → t ≡ taking u.numbers f → Took t₀ l₀ at₀ f l₁
  still_last {G} {t} {t₀} {u} {l} {l₁} {l₀} {at} {at₀} x w e =
      record {
        found_is = ap (λ (z : Taken F). z.found) (sym e) ∙ x.found_is;
        stored = w.stored ∙ ap (λ (z : Taken F). sets l at z.numbers) (sym e) ∙ x.stores;
      }

  -- a reader's numbers as stores
  pub took_wrote : {t : Taken F} {l l₁ : List ℕ} {at r : ℕ} {f : F} → Took t l at f l₁ → r ≡ place_after at (length t.numbers) → Wrote l at t.numbers r l₁
  took_wrote w e = record { next_is = e; stored = w.stored }

  -- the same numbers, with another finding
  pub took_to : {G : Type 0} {t : Taken G} {l l₁ : List ℕ} {at : ℕ} {f k : F} {g : G} → Took t l at g l₁ → f ≡ k → Took (taking t.numbers k) l at f l₁
  took_to w e = record { found_is = e; stored = w.stored }
