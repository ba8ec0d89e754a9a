-- For every budget the machine over trees comes to rest with what the written meaning gives. Assumes nothing.
use mathlib.Core.Path.{◌≡◌, refl, ap, ◌∙◌}
use mathlib.Core.List.{[]}
use Prim.Native.Nat.{ℕ, ◌+◌, ◌≤◌, ◌<◌}
use Rattle.grammar.specs.Tree.{Parsing}
use Rattle.grammar.specs.Run.{Slots, Setting, Tally, Applied, apply}
use Rattle.grammar.proofs.Fuel.{Since, since_matched, since_failed, since_ended, apply_since}
use Rattle.machine.proofs.StackMachine.{entering, matching, failing, step}
use Rattle.machine.proofs.TreeMachine.{TreeState, final, read}
use Rattle.machine.proofs.Watching.{Holds}
use Rattle.machine.proofs.Correct.{correct}
use Rattle.machine.proofs.Resting.{final_rest, watch}

module _ (S : Setting) (budget deepest : ℕ) where
  -- what the result says, under an empty stack
  told : {r : Applied} {v : ℕ} (x : TreeState) → Since budget v r → Holds (λ y. read (final S budget deepest y)) r [] x → read (final S budget deepest x) ≡ r
  unfolding step read
  told x (since_matched {at = at} {slots = slots} t c) h = h ∙ ap read (final_rest S budget deepest (matching at slots t []) refl)
  told x (since_failed {slots = slots} t c) h = h ∙ ap read (final_rest S budget deepest (failing slots t []) refl)
  told x (since_ended t c) h = h

  pub trees_mean : (fuel : ℕ) (p : Parsing) (at : ℕ) (slots : Slots) (t : Tally) → t.visits ≤ budget → budget < fuel + t.visits →
      read (final S budget deepest (entering p at slots t [])) ≡ apply S budget deepest fuel 1 p at slots t
  trees_mean fuel p at slots t le enough =
      told (entering p at slots t []) (apply_since S budget deepest fuel 1 p at slots t le enough)
      (correct S budget deepest (λ y. read (final S budget deepest y)) (watch S budget deepest) fuel p at slots t []).holds
