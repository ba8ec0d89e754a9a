-- Runs of stores into a list: `sets l i vs` stores vs from place i on, and nothing past the list's end. Assumes nothing.
use Rattle.std.specs.Prelude.{◌≡◌, refl, List, [], ◌∷◌, ◌++◌, ℕ, suc, ◌+◌, ◌≤◌, length, set}
use Rattle.std.proofs.Math.Path.{ap}
use Rattle.std.proofs.Common.{◌∙◌, add-zero, zero-add, arith, length-set}
use Rattle.std.proofs.Math.ListN.{drop}
use Rattle.std.proofs.lemmas.List.Edits.{sets}
use Rattle.std.proofs.Math.Seq.{sets-eq, set_out}

module _ {A : Type 0} where
  -- one run after another is one run
  pub sets_append : (l : List A) (i : ℕ) (a b : List A) → sets (sets l i a) (i + length a) b ≡ sets l i (a ++ b)
  sets_append l i [] b = ap (λ (k : ℕ). sets l k b) (add-zero i)
  sets_append l i (x ∷ a) b =
      let e : i + suc (length a) ≡ suc i + length a = omega arith in
      ap (λ (k : ℕ). sets (sets (set l i x) (suc i) a) k b) e ∙ sets_append (set l i x) (suc i) a b

  -- storing past the end is no change
  pub sets_past : (l : List A) (i : ℕ) (a : List A) → length l ≤ i → sets l i a ≡ l
  sets_past l i [] h = refl
  sets_past l i (x ∷ a) h =
      sets_past (set l i x) (suc i) a (omega (arith, length-set l i x)) ∙ set_out l i x h

  -- a list with new contents in front
  unfoldable pub over : List A → List A → List A
  over front l = front ++ drop (length front) l

  pub sets_front : (l front : List A) → length front ≤ length l → sets l 0 front ≡ over front l
  unfolding over
  sets_front l front h =
      sets-eq front l 0 (omega arith) ∙ ap (λ (k : ℕ). front ++ drop k l) (zero-add (length front))
