-- What follows from the promises of `bench` and `display`: no two results are allowed, demand 3 for what a display run gives, that each Text of either
-- is there with its bytes, and that the two agree where both run. Assumes nothing.
use mathlib.Core.Path.{◌≡◌, sym, ap, ◌∙◌}
use mathlib.Core.List.{List}
use Prim.Native.Nat.{ℕ}
use lib.ListN.{length}
use Rattle.grammar.specs.Form.{passed}
use Rattle.grammar.specs.declared.Answer.{Answer}
use Rattle.grammar.specs.declared.Mode.{Mode}
use Rattle.grammar.specs.declared.Mode.TheVariants.{Bench, Display}
use Rattle.grammar.specs.Answer.{type_check, answer, left_after, work_after}
use Rattle.grammar.specs.Demand.{WellTyped, TextsThere}
use Rattle.grammar.proofs.Demand.{display_well_typed, same_check, same_answer}
use Rattle.grammar.proofs.Texts.{texts_there}

module _ (words literals message : List ℕ) (budget : ℕ) (lent : List ℕ) where
  -- a record and a work area afterwards that the promise of a mode's run allows
  pub record Allowed (mode : Mode) (record₁ : Answer) (work : List ℕ) : Type 0 where
    pub gives : record₁ ≡ answer mode words literals message budget (length lent)
    pub leaves : work ≡ work_after mode words literals message lent

  pub one_result : {mode : Mode} {a b : Answer} {w x : List ℕ} → Allowed mode a w → Allowed mode b x → (a ≡ b) × (w ≡ x)
  one_result p q = (p.gives ∙ sym q.gives, p.leaves ∙ sym q.leaves)

  -- demand 3
  pub displayed : {a : Answer} {w : List ℕ} → Allowed Display a w → WellTyped words a
  displayed p = rw p.gives (display_well_typed words literals message budget (length lent))

  -- each Text fits the slice it names, bench or display
  pub texts_fit : {mode : Mode} {a : Answer} {w : List ℕ} → Allowed mode a w → TextsThere message literals a
  texts_fit {mode} p = rw p.gives (texts_there words literals message mode budget (length lent))

  -- 'Where both run, they agree'
  pub both_agree : {a b : Answer} {w x : List ℕ} → type_check words literals ≡ passed → Allowed Bench a w → Allowed Display b x → (a ≡ b) × (w ≡ x)
  unfolding work_after
  both_agree e p q = (
    p.gives ∙ same_answer words literals e message budget (length lent) ∙ sym q.gives,
    p.leaves ∙ ap (λ v. left_after v lent) (same_check words literals e (length message) (length lent)) ∙ sym q.leaves,
  )
