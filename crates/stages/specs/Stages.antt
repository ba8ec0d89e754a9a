-- The run record with the work area, and the changes of the record that visits and returns share. Assumes nothing.
use Rattle.std.specs.Prelude.{List, ℕ}
use Rattle.grammar.specs.declared.Fault.TheVariants.{Overflow, ZeroDivisor}
use Rattle.grammar.specs.declared.Ending.{Ending}
use Rattle.grammar.specs.declared.Ending.TheVariants.{Budget, Deep, Stuck, «Fault» as AtFault}
use Rattle.stages.specs.declared.Stage.{Stage}
use Rattle.stages.specs.declared.Stage.TheVariants as S
use Rattle.stages.specs.declared.Run.{Run}

-- a run record with the work area
pub record Stepped : Type 0 where
  pub run : Run
  pub work : List ℕ

abbrev pub with : Run → List ℕ → Stepped
with r w = record { run = r; work = w }

-- at a stage, a position, with so many frames
abbrev pub moved : Run → Stage → (at frames : ℕ) → Run
moved r stage at frames = record { stage = stage; at = at; frames = frames; visits = r.visits }

-- at another stage, where it is
abbrev pub staged : Run → Stage → Run
staged r stage = moved r stage r.at r.frames

-- 'STUCK, FAULT, BUDGET, DEEP end the run at once'. (An expression never ends a run by the budget or the
-- depth, so the first two lines are never met.)
unfoldable pub ended_at : Ending → ℕ → Stage
ended_at Budget k = S.Stuck k
ended_at Deep k = S.Deep k
ended_at Stuck k = S.Stuck k
ended_at (AtFault Overflow) k = S.Overflow k
ended_at (AtFault ZeroDivisor) k = S.ZeroDivisor k
