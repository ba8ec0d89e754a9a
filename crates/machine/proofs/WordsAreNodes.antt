-- The machine in words goes step for step with the machine over node numbers that run record and work area stand for, and keeps to the first W words.
-- Assumes nothing but that the table's words are 16-bit numbers, the message is at most 65,535 bytes and the work area has W words.
use mathlib.Core.Path.{◌≡◌, refl, ap, ◌∙◌}
use mathlib.Core.Bool.{Bool, true, false, cond}
use mathlib.Core.List.{List}
use Prim.Native.Nat.{ℕ, zero, suc, ◌+◌, ◌≤◌, ◌<◌}
use native.Mathlib.Omega.{arith}
use native.Mathlib.Numerals.{add-one}
use borrow.Author.Tests.{leb-true}
use lib.Dec.{ltb, leb}
use lib.ListN.{length}
use Rattle.laws.specs.Windows.{Same}
use Rattle.grammar.specs.Words.{node_at}
use Rattle.grammar.specs.Run.{Due, fine, no_budget, too_deep, due}
use Rattle.grammar.specs.Answer.{deepest_visit, work_words}
use Rattle.frames.specs.Frames.{slots_in, node_in}
use Rattle.stages.specs.declared.Stage.{Stage}
use Rattle.stages.specs.declared.Stage.TheVariants as St
use Rattle.stages.specs.declared.Run.{Run}
use Rattle.stages.specs.Stages.{Stepped, with}
use Rattle.visits.specs.Visits.{visited, admitted}
use Rattle.returns.specs.Returns.{back_matched, back_failed}
use Rattle.machine.specs.Step.{step_in, step_of, steps_of}
use Rattle.machine.proofs.StackMachine as Stack
use Rattle.machine.proofs.StackMachine.{matching, failing}
use Rattle.machine.proofs.NodeMachine.{NodeState, node_moves}
use Rattle.machine.proofs.Decoded.{frame_in, frames_in, frames_length}
use Rattle.machine.proofs.Ranges.{Short}
use Rattle.machine.proofs.Fitting.{Fits, StateFits, step_fits}
use Rattle.machine.proofs.WordVisits.{tally, state_in, state_at, Goes, here, begun_goes}
use Rattle.machine.proofs.WordReturns.{matched_in_goes, failed_in_goes}

-- a visit that may be made finds room for its frame
due_shallow : (a b : Bool) → cond a (cond b fine too_deep) no_budget ≡ fine → b ≡ true
due_shallow true true e = refl
due_shallow true false e = let z : ◌≡◌ {A = ℕ} 0 1 = cc in absurd (omega arith)
due_shallow false b e = let z : ◌≡◌ {A = ℕ} 0 1 = cc in absurd (omega arith)

fine_shallow : (budget deepest depth visits : ℕ) → due budget deepest depth visits ≡ fine → depth ≤ deepest
unfolding due
fine_shallow budget deepest depth visits e = leb-true depth deepest (due_shallow (ltb visits budget) (leb depth deepest) e)

module _ (words literals message : List ℕ) (short : Short words) (small : length message < 65536) (area : List ℕ) (room : work_words ≤ length area) where
  module _ (r : Run) (w : List ℕ) (few : r.frames ≤ 256) (same : Same work_words (length area) area w) where
    -- at rest
    rests : (stage : Stage) → r.stage ≡ stage → Goes area (with r w) (state_in stage r.at r.frames r.visits w)
    unfolding state_at
    rests stage e = here area room r w same few (ap (λ s. state_in s r.at r.frames r.visits w) e)

    module _ (budget : ℕ) where
      admitted_goes : (d : Due) (k : ℕ) → due budget deepest_visit (r.frames + 1) r.visits ≡ d → r.stage ≡ St.Enter k →
          k < 65536 → Fits message r.at (slots_in w) (frames_in r.frames w) →
          Goes area (admitted words literals message d k r w)
          (Stack.admitted (node_moves words literals message) d k r.at (slots_in w) (tally r.visits) (frames_in r.frames w))
      unfolding admitted Stack.admitted state_at state_in
      admitted_goes fine k d e node f =
          let shallow : r.frames + 1 ≤ 256 = fine_shallow budget deepest_visit (r.frames + 1) r.visits d in
          begun_goes words literals message short small area room (visited r) w same (node_at words k) k (omega arith) node f.inside f.ranged
      admitted_goes no_budget k d e node f = rests (St.Enter k) e
      admitted_goes too_deep k d e node f = here area room r w same few refl

      matched_goes : (n : ℕ) → r.frames ≡ n → r.stage ≡ St.Matched → Fits message r.at (slots_in w) (frames_in n w) →
          Goes area (back_matched words literals message n r w)
          (Stack.step (node_moves words literals message) budget deepest_visit (matching r.at (slots_in w) (tally r.visits) (frames_in n w)))
      unfolding back_matched Stack.step state_at state_in frames_in frame_in
      matched_goes zero top e f = here area room r w same few ((rests St.Matched e).is ∙ ap (λ n. state_in St.Matched r.at n r.visits w) top)
      matched_goes (suc d) top e f =
          matched_in_goes area room r w same d top few words literals message short small (node_at words (node_in w d)) f.inside f.frames.0.inside f.ranged

      failed_goes : (n : ℕ) → r.frames ≡ n → r.stage ≡ St.Failed →
          Goes area (back_failed words literals message n r w)
          (Stack.step (node_moves words literals message) budget deepest_visit (failing (slots_in w) (tally r.visits) (frames_in n w)))
      unfolding back_failed Stack.step state_at state_in frames_in frame_in
      failed_goes zero top e = here area room r w same few ((rests St.Failed e).is ∙ ap (λ n. state_in St.Failed r.at n r.visits w) top)
      failed_goes (suc d) top e = failed_in_goes area room r w same d top few (node_at words (node_in w d))

      step_in_goes : (stage : Stage) → r.stage ≡ stage → StateFits message (state_in stage r.at r.frames r.visits w) →
          Goes area (step_in words literals message budget stage r w)
          (Stack.step (node_moves words literals message) budget deepest_visit (state_in stage r.at r.frames r.visits w))
      unfolding step_in Stack.step state_in
      step_in_goes (St.Enter k) e f =
          rw (frames_length r.frames w, ← (add-one r.frames))
          (admitted_goes (due budget deepest_visit (r.frames + 1) r.visits) k refl e f.0 f.1)
      step_in_goes St.Matched e f = matched_goes r.frames refl e f
      step_in_goes St.Failed e f = failed_goes r.frames refl e
      step_in_goes (St.Deep k) e f = rests (St.Deep k) e
      step_in_goes (St.Stuck k) e f = rests (St.Stuck k) e
      step_in_goes (St.Overflow k) e f = rests (St.Overflow k) e
      step_in_goes (St.ZeroDivisor k) e f = rests (St.ZeroDivisor k) e

  step_goes : (budget : ℕ) (s : Stepped) (x : NodeState) → Goes area s x → StateFits message x →
      Goes area (step_of words literals message budget s.run s.work) (Stack.step (node_moves words literals message) budget deepest_visit x)
  unfolding step_of state_at
  step_goes budget s x g f =
      rw (← g.is) (step_in_goes s.run s.work g.few g.same budget s.run.stage refl (rw (← g.is) at f))

  -- step for step
  pub steps_go : (budget n : ℕ) (s : Stepped) (x : NodeState) → Goes area s x → StateFits message x →
      Goes area (steps_of words literals message budget n s) (Stack.steps (node_moves words literals message) budget deepest_visit n x)
  unfolding steps_of Stack.steps
  steps_go budget zero s x g f = g
  steps_go budget (suc n) s x g f =
      steps_go budget n (step_of words literals message budget s.run s.work) (Stack.step (node_moves words literals message) budget deepest_visit x)
      (step_goes budget s x g f) (step_fits message words literals short small budget deepest_visit x f)
