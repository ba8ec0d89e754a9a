-- A return to the node of the top frame, in words: what it does to the run record and to the work area (document 01, 'Running'). Frame d is the
-- top one, d frames below it. Assumes nothing.
use Rattle.std.specs.Prelude.{List, [], ◌∷◌, Result, Ok, Err, ℕ, zero, suc, ◌+◌}
use Rattle.grammar.specs.declared.Node.{Node}
use Rattle.grammar.specs.declared.Node.TheVariants as N
use Rattle.grammar.specs.Words.{word, returned_count, node_at}
use Rattle.grammar.specs.Run.{message_part}
use Rattle.frames.specs.Frames.{written, node_in, phase_in, from_in, saved, in_second, restored}
use Rattle.grammar.specs.declared.Ended.{Ended}
use Rattle.grammar.specs.declared.Value.{Value}
use Rattle.calls.specs.Calls.{received, returned_by}
use Rattle.stages.specs.declared.Stage.TheVariants as S
use Rattle.stages.specs.declared.Run.{Run}
use Rattle.stages.specs.Stages.{Stepped, with, moved, staged, ended_at}

-- a called body has matched: the caller's slots are back, and its receiving slots take what the rule returned
unfoldable pub returned : Result (List Value) Ended → (m : ℕ) → (slots : List ℕ) → (d : ℕ) → Run → List ℕ → Stepped
returned (Ok values) m slots d r w = with (moved r S.Matched r.at d) (received m slots values (restored w d))
returned (Err end) m slots d r w = with (staged r (ended_at end.why end.node)) w

-- a sequence's part matched: on to the second part, or done. The first number is the phase
unfoldable pub sequence_matched : ℕ → (b d : ℕ) → Run → List ℕ → Stepped
sequence_matched zero b d r w = with (staged r (S.Enter b)) (in_second w d)
sequence_matched (suc _) b d r w = with (moved r S.Matched r.at d) w

-- 'both arms start from the place and slots the choice began with'
unfoldable pub choice_failed : ℕ → (b d : ℕ) → Run → List ℕ → Stepped
choice_failed zero b d r w = with (moved r (S.Enter b) (from_in w d) r.frames) (in_second (restored w d) d)
choice_failed (suc _) b d r w = with (moved r S.Failed r.at d) (restored w d)

-- 'A failing node gives back the slots it began with'
unfoldable pub given_back : ℕ → Run → List ℕ → Stepped
given_back d r w = with (moved r S.Failed r.at d) (restored w d)

-- the part of the node of frame d failed. A node without parts has no frame; if one stood there, it would give back the slots too
unfoldable pub failed_in : Node → ℕ → Run → List ℕ → Stepped
failed_in N.Unknown d r w = given_back d r w
failed_in N.Empty d r w = given_back d r w
failed_in (N.Terminal a) d r w = given_back d r w
failed_in (N.Sequence a b) d r w = given_back d r w
failed_in (N.Choice a b) d r w = choice_failed (phase_in w d) b d r w
-- 'A repeat ends only when its part fails, and then stands as after the last full round'
failed_in (N.Repeat a) d r w = with (moved r S.Matched (from_in w d) d) (restored w d)
-- 'not hands on the slots its part left, matched or failed. Not consumes nothing'
failed_in (N.Not a) d r w = with (moved r S.Matched (from_in w d) d) w
failed_in (N.Call q a b c e s t u v) d r w = given_back d r w
failed_in (N.Bind s a) d r w = given_back d r w
failed_in (N.Update s a) d r w = given_back d r w
failed_in (N.Constraint a) d r w = given_back d r w
failed_in (N.Bool b) d r w = given_back d r w
failed_in (N.Integer z) d r w = given_back d r w
failed_in (N.Text start length) d r w = given_back d r w
failed_in (N.Slot s) d r w = given_back d r w
failed_in (N.Binary op a b) d r w = given_back d r w
failed_in (N.Negation a) d r w = given_back d r w

module _ (words literals message : List ℕ) where
  -- the call whose record lies at a place
  abbrev pub returned_at : (place d : ℕ) → Run → List ℕ → Stepped
  returned_at place d r w =
      let field : ℕ → ℕ = λ j. word words (place + j) in
      returned (returned_by words literals message (field 1) w) (returned_count words (field 1)) (field 6 ∷ field 7 ∷ field 8 ∷ field 9 ∷ []) d r w

  -- the part of the node of frame d matched. A node without parts has no frame; if one stood there, it would match
  unfoldable pub matched_in : Node → ℕ → Run → List ℕ → Stepped
  matched_in N.Unknown d r w = with (moved r S.Matched r.at d) w
  matched_in N.Empty d r w = with (moved r S.Matched r.at d) w
  matched_in (N.Terminal a) d r w = with (moved r S.Matched r.at d) w
  matched_in (N.Sequence a b) d r w = sequence_matched (phase_in w d) b d r w
  -- 'Choice keeps the prefix of the part that matched'
  matched_in (N.Choice a b) d r w = with (moved r S.Matched r.at d) w
  -- 'A round may consume nothing'; 'rounds of a repeat don't deepen'
  matched_in (N.Repeat a) d r w = with (staged r (S.Enter a)) (saved w d r.at)
  -- 'not hands on the slots its part left, matched or failed'
  matched_in (N.Not a) d r w = with (moved r S.Failed r.at d) w
  matched_in (N.Call q a b c e s t u v) d r w = returned (returned_by words literals message q w) (returned_count words q) (s ∷ t ∷ u ∷ v ∷ []) d r w
  -- 'Bind consumes what its part consumes'
  matched_in (N.Bind s a) d r w = with (moved r S.Matched r.at d) (written w s (message_part (from_in w d) r.at))
  matched_in (N.Update s a) d r w = with (moved r S.Matched r.at d) w
  matched_in (N.Constraint a) d r w = with (moved r S.Matched r.at d) w
  matched_in (N.Bool b) d r w = with (moved r S.Matched r.at d) w
  matched_in (N.Integer z) d r w = with (moved r S.Matched r.at d) w
  matched_in (N.Text start length) d r w = with (moved r S.Matched r.at d) w
  matched_in (N.Slot s) d r w = with (moved r S.Matched r.at d) w
  matched_in (N.Binary op a b) d r w = with (moved r S.Matched r.at d) w
  matched_in (N.Negation a) d r w = with (moved r S.Matched r.at d) w

  -- a return to the top frame of so many; without a frame the run rests
  unfoldable pub back_matched : ℕ → Run → List ℕ → Stepped
  back_matched zero r w = with r w
  back_matched (suc d) r w = matched_in (node_at words (node_in w d)) d r w

  unfoldable pub back_failed : ℕ → Run → List ℕ → Stepped
  back_failed zero r w = with r w
  back_failed (suc d) r w = failed_in (node_at words (node_in w d)) d r w
