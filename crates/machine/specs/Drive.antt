-- A whole run, in words: from the start rule's body until it rests, then its answer record and the work area afterwards. Assumes nothing.
use Rattle.std.specs.Prelude.{List, [], Result, Ok, Err, Bool, false, ℕ, ◌+◌, ◌-◌, ◌*◌, ltb}
use Rattle.grammar.specs.declared.Fault.TheVariants.{Overflow, ZeroDivisor}
use Rattle.grammar.specs.declared.Ending.{Ending}
use Rattle.grammar.specs.declared.Ending.TheVariants.{Budget, Deep, Stuck, «Fault» as AtFault}
use Rattle.grammar.specs.declared.Answer.{Answer}
use Rattle.grammar.specs.Numbers.{DONE, NOMATCH}
use Rattle.grammar.specs.Words.{rule_word}
use Rattle.grammar.specs.Answer.{answered, ending_number, work_words}
use Rattle.frames.specs.Frames.{cleared, unset}
use Rattle.stages.specs.declared.Stage.{Stage}
use Rattle.stages.specs.declared.Stage.TheVariants as S
use Rattle.stages.specs.declared.Run.{Run}
use Rattle.grammar.specs.declared.Ended.{Ended}
use Rattle.grammar.specs.declared.Value.{Value}
use Rattle.calls.specs.Calls.{returned_by}
use Rattle.stages.specs.Stages.{Stepped, with}
use Rattle.machine.specs.Step.{steps_of}

-- What falls with each step: the visits left, the frames, and the stage. At rest a step changes nothing, so as many steps as this are enough
unfoldable pub rank : Stage → ℕ
rank (S.Enter k) = 1
rank S.Matched = 2
rank S.Failed = 2
rank (S.Deep k) = 0
rank (S.Stuck k) = 0
rank (S.Overflow k) = 0
rank (S.ZeroDivisor k) = 0

unfoldable pub weight : (budget : ℕ) → Run → ℕ
weight budget r = 4 * (budget - r.visits) + 2 * r.frames + rank r.stage

-- a run goes on where a visit is due and some budget is left, and where there is a frame to return to
unfoldable pub goes_on_in : Stage → (budget : ℕ) → Run → Bool
goes_on_in (S.Enter k) budget r = ltb r.visits budget
goes_on_in S.Matched budget r = ltb 0 r.frames
goes_on_in S.Failed budget r = ltb 0 r.frames
goes_on_in (S.Deep k) budget r = false
goes_on_in (S.Stuck k) budget r = false
goes_on_in (S.Overflow k) budget r = false
goes_on_in (S.ZeroDivisor k) budget r = false

abbrev pub goes_on : (budget : ℕ) → Run → Bool
goes_on budget r = goes_on_in r.stage budget r

-- 'Consumed and values are zero or absent unless DONE'
abbrev pub ended_answer : Ending → ℕ → Run → Answer
ended_answer why k r = answered (ending_number why) k 0 r.visits []

-- the start rule's 'returned values are the record's'
unfoldable pub done_answer : Result (List Value) Ended → Run → Answer
done_answer (Ok values) r = record {
  number = DONE;
  place = 0;
  consumed = r.at;
  visits = r.visits;
  values = values;
}
done_answer (Err end) r = ended_answer end.why end.node r

-- the answer record, and the work area
pub record Ran : Type 0 where
  pub answer : Answer
  pub work : List ℕ

abbrev pub recorded : Answer → List ℕ → Ran
recorded a w = record { answer = a; work = w }

-- the start rule's body, with nothing counted
abbrev pub started : List ℕ → Run
started words = record { stage = S.Enter (rule_word words 0 0); at = 0; frames = 0; visits = 0 }

module _ (words literals message : List ℕ) where
  -- as many steps as the run can make
  unfoldable pub driven : (budget : ℕ) → Stepped → Stepped
  driven budget s = steps_of words literals message budget (weight budget s.run) s

  -- the answer of a run at rest. Where a visit is due, the budget is spent
  unfoldable pub concluded_in : Stage → Run → List ℕ → Answer
  concluded_in (S.Enter k) r w = ended_answer Budget k r
  concluded_in S.Matched r w = done_answer (returned_by words literals message 0 w) r
  concluded_in S.Failed r w = answered NOMATCH 0 0 r.visits []
  concluded_in (S.Deep k) r w = ended_answer Deep k r
  concluded_in (S.Stuck k) r w = ended_answer Stuck k r
  concluded_in (S.Overflow k) r w = ended_answer (AtFault Overflow) k r
  concluded_in (S.ZeroDivisor k) r w = ended_answer (AtFault ZeroDivisor) k r

  unfoldable pub concluded : Stepped → Answer
  concluded s = concluded_in s.run.stage s.run s.work

  -- 'The start rule runs in the same way with all slots unset'
  unfoldable pub rested : (budget : ℕ) → List ℕ → Stepped
  rested budget w = driven budget (with (started words) (unset w))

  -- a run 'leaves the first W words zero'
  unfoldable pub ran : (budget : ℕ) → List ℕ → Ran
  ran budget w = recorded (concluded (rested budget w)) (cleared (rested budget w).work work_words)
