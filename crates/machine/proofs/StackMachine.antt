-- A machine that applies nodes with a stack of its own in place of recursion, over any nodes and frames. A step is one visit or one return. Only
-- `admitted` mentions the budget: with none left the machine rests where it is, and BUDGET is read off. Assumes nothing.
use mathlib.Core.Path.{◌≡◌, refl, ap, ◌∙◌}
use mathlib.Core.List.{List, [], ◌∷◌, map}
use Prim.Native.Nat.{ℕ, zero, suc}
use lib.ListN.{length, length-map}
use Rattle.grammar.specs.declared.Ending.{Ending}
use Rattle.grammar.specs.declared.Ending.TheVariants.{Budget, Deep}
use Rattle.grammar.specs.declared.Value.{Value}
use Rattle.grammar.specs.Values.{Evaluated, value, ends}
use Rattle.grammar.specs.Run.{Slots, Tally, counted, Applied, matched, failed, ended, out_of_fuel, Due, fine, no_budget, too_deep, due}

-- ════ States ════

pub data State (Node Frame : Type 0) : Type 0 where
  entering : Node → (at : ℕ) → Slots → Tally → List Frame → State Node Frame  -- a visit is due
  matching : (at : ℕ) → Slots → Tally → List Frame → State Node Frame  -- the part of the topmost frame's node has matched
  failing : Slots → Tally → List Frame → State Node Frame  -- it has failed
  halted : Ending → (place : ℕ) → Tally → State Node Frame

-- what a leaf's result makes of the machine. (No leaf gives out_of_fuel)
unfoldable pub resume : {Node Frame : Type 0} → Applied → List Frame → State Node Frame
resume (matched at slots t) σ = matching at slots t σ
resume (failed slots t) σ = failing slots t σ
resume (ended why k t) σ = halted why k t
resume out_of_fuel σ = halted Budget 0 (record { visits = 0 })

-- goes on with what the arguments of a call gave
unfoldable pub with_arguments : {Node Frame : Type 0} → Evaluated (List Value) → Tally → (List Value → State Node Frame) → State Node Frame
with_arguments (value given) t go = go given
with_arguments (ends why k) t go = halted why k t

-- ════ Steps ════

-- what a machine does at a node whose visit is counted, and with its topmost frame when the part has matched, or failed
pub record Moves (Node Frame : Type 0) : Type 0 where
  pub number : Node → ℕ
  pub begin : Node → (at : ℕ) → Slots → Tally → List Frame → State Node Frame
  pub on_matched : Frame → (at : ℕ) → Slots → Tally → List Frame → State Node Frame
  pub on_failed : Frame → Slots → Tally → List Frame → State Node Frame

module _ {Node Frame : Type 0} (moves : Moves Node Frame) where
  -- the gate: with no budget left the machine stays as it is
  unfoldable pub admitted : Due → Node → (at : ℕ) → Slots → Tally → List Frame → State Node Frame
  admitted fine p at slots t σ = moves.begin p at slots (counted t) σ
  admitted no_budget p at slots t σ = entering p at slots t σ
  admitted too_deep p at slots t σ = halted Deep (moves.number p) t

  module _ (budget deepest : ℕ) where
    unfoldable pub step : State Node Frame → State Node Frame
    step (entering p at slots t σ) = admitted (due budget deepest (suc (length σ)) t.visits) p at slots t σ
    step (matching at slots t []) = matching at slots t []
    step (matching at slots t (frame ∷ σ)) = moves.on_matched frame at slots t σ
    step (failing slots t []) = failing slots t []
    step (failing slots t (frame ∷ σ)) = moves.on_failed frame slots t σ
    step (halted why k t) = halted why k t

    unfoldable pub steps : ℕ → State Node Frame → State Node Frame
    steps zero x = x
    steps (suc n) x = steps n (step x)

-- ════ A machine that stands for another ════

module _ {Node Frame Node' Frame' : Type 0} (f : Node → Node') (g : Frame → Frame') where
  -- by what its nodes and frames stand for
  unfoldable pub meant : State Node Frame → State Node' Frame'
  meant (entering p at slots t σ) = entering (f p) at slots t (map g σ)
  meant (matching at slots t σ) = matching at slots t (map g σ)
  meant (failing slots t σ) = failing slots t (map g σ)
  meant (halted why k t) = halted why k t

  pub meant_resume : (r : Applied) (σ : List Frame) → meant (resume r σ) ≡ resume r (map g σ)
  unfolding meant resume
  meant_resume (matched at slots t) σ = refl
  meant_resume (failed slots t) σ = refl
  meant_resume (ended why k t) σ = refl
  meant_resume out_of_fuel σ = refl

  pub meant_arguments : (e : Evaluated (List Value)) (t : Tally) (go : List Value → State Node Frame) (go' : List Value → State Node' Frame') →
      ((vs : List Value) → meant (go vs) ≡ go' vs) → meant (with_arguments e t go) ≡ with_arguments e t go'
  unfolding meant with_arguments
  meant_arguments (value vs) t go go' h = h vs
  meant_arguments (ends why k) t go go' h = refl

  -- each move of the one is that of the other
  pub record Follows (moves : Moves Node Frame) (moves' : Moves Node' Frame') : Type 0 where
    pub named : (p : Node) → moves'.number (f p) ≡ moves.number p
    pub begins : (p : Node) (at : ℕ) (slots : Slots) (t : Tally) (σ : List Frame) →
        meant (moves.begin p at slots t σ) ≡ moves'.begin (f p) at slots t (map g σ)
    pub matches : (frame : Frame) (at : ℕ) (slots : Slots) (t : Tally) (σ : List Frame) →
        meant (moves.on_matched frame at slots t σ) ≡ moves'.on_matched (g frame) at slots t (map g σ)
    pub fails : (frame : Frame) (slots : Slots) (t : Tally) (σ : List Frame) →
        meant (moves.on_failed frame slots t σ) ≡ moves'.on_failed (g frame) slots t (map g σ)

  module _ (moves : Moves Node Frame) (moves' : Moves Node' Frame') (follows : Follows moves moves') (budget deepest : ℕ) where
    admitted_meant : (d : Due) (p : Node) (at : ℕ) (slots : Slots) (t : Tally) (σ : List Frame) →
        meant (admitted moves d p at slots t σ) ≡ admitted moves' d (f p) at slots t (map g σ)
    unfolding admitted meant
    admitted_meant fine p at slots t σ = follows.begins p at slots (counted t) σ
    admitted_meant no_budget p at slots t σ = refl
    admitted_meant too_deep p at slots t σ = rw (follows.named p)

    -- step for step
    step_meant : (x : State Node Frame) → meant (step moves budget deepest x) ≡ step moves' budget deepest (meant x)
    unfolding step meant
    step_meant (entering p at slots t σ) = rw (length-map σ g) (admitted_meant (due budget deepest (suc (length σ)) t.visits) p at slots t σ)
    step_meant (matching at slots t []) = refl
    step_meant (matching at slots t (frame ∷ σ)) = follows.matches frame at slots t σ
    step_meant (failing slots t []) = refl
    step_meant (failing slots t (frame ∷ σ)) = follows.fails frame slots t σ
    step_meant (halted why k t) = refl

    pub steps_meant : (n : ℕ) (x : State Node Frame) → meant (steps moves budget deepest n x) ≡ steps moves' budget deepest n (meant x)
    unfolding steps
    steps_meant zero x = refl
    steps_meant (suc n) x = steps_meant n (step moves budget deepest x) ∙ ap (steps moves' budget deepest n) (step_meant x)
