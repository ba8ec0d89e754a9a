-- One step of a run, in words: what it does to the run record and to the work area. A step is a visit (document 01, 'Running'), or a return to
-- the node of the top frame. Assumes nothing.
use Rattle.std.specs.Prelude.{List, ℕ, zero, suc, ◌+◌}
use Rattle.grammar.specs.Run.{due}
use Rattle.grammar.specs.Answer.{deepest_visit}
use Rattle.stages.specs.declared.Stage.{Stage}
use Rattle.stages.specs.declared.Stage.TheVariants as S
use Rattle.stages.specs.declared.Run.{Run}
use Rattle.stages.specs.Stages.{Stepped, with}
use Rattle.visits.specs.Visits.{admitted}
use Rattle.returns.specs.Returns.{back_matched, back_failed}

module _ (words literals message : List ℕ) (budget : ℕ) where
  unfoldable pub step_in : Stage → Run → List ℕ → Stepped
  step_in (S.Enter k) r w = admitted words literals message (due budget deepest_visit (r.frames + 1) r.visits) k r w
  step_in S.Matched r w = back_matched words literals message r.frames r w
  step_in S.Failed r w = back_failed words literals message r.frames r w
  step_in (S.Deep k) r w = with r w
  step_in (S.Stuck k) r w = with r w
  step_in (S.Overflow k) r w = with r w
  step_in (S.ZeroDivisor k) r w = with r w

  -- one step
  unfoldable pub step_of : Run → List ℕ → Stepped
  step_of r w = step_in r.stage r w

  -- n steps
  unfoldable pub steps_of : ℕ → Stepped → Stepped
  steps_of zero s = s
  steps_of (suc n) s = steps_of n (step_of s.run s.work)
