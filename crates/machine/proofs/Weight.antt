-- The steps of a run come to a rest: the weight falls with each step of a run that goes on, at rest a step changes nothing, and so as many steps
-- as the weight are enough. Assumes nothing.
use mathlib.Core.Path.{◌≡◌, refl, sym, ap, ◌∙◌}
use mathlib.Core.Bool.{Bool, true, false, ◌&&◌}
use mathlib.Core.List.{List, [], ◌∷◌}
use Prim.Native.Nat.{ℕ, zero, suc, ◌+◌, ◌-◌, ◌*◌, ◌≤◌, ◌<◌}
use native.Mathlib.Omega.{arith}
use borrow.Author.Tests.{ltb-true, ltb-false}
use lib.Dec.{ltb}
use Rattle.grammar.specs.declared.Fault.TheVariants.{Overflow, ZeroDivisor}
use Rattle.grammar.specs.declared.Ending.{Ending}
use Rattle.grammar.specs.declared.Ending.TheVariants.{Budget, Deep, Stuck, «Fault» as AtFault}
use Rattle.grammar.specs.declared.Value.{Value}
use Rattle.grammar.specs.declared.Node.{Node}
use Rattle.grammar.specs.declared.Node.TheVariants as N
use Rattle.grammar.specs.Words.{returned_count, node_at}
use Rattle.grammar.specs.Values.{Evaluated, value, ends}
use Rattle.grammar.specs.Run.{byte_stands, due}
use Rattle.grammar.specs.Answer.{deepest_visit}
use Rattle.frames.specs.Frames.{node_in, phase_in}
use Rattle.stages.specs.declared.Stage.{Stage}
use Rattle.stages.specs.declared.Stage.TheVariants as S
use Rattle.stages.specs.declared.Run.{Run}
use Rattle.std.specs.Prelude.{Result, Ok, Err}
use Rattle.grammar.specs.declared.Ended.{Ended}
use Rattle.grammar.specs.declared.Value.{Value}
use Rattle.calls.specs.Calls.{evaluated, returned_by}
use Rattle.stages.specs.Stages.{Stepped, with, moved, staged, ended_at}
use Rattle.visits.specs.Visits.{visited, consumed, updated, judged, constrained, opened, called, begun, admitted}
use Rattle.returns.specs.Returns.{returned, sequence_matched, choice_failed, given_back, failed_in, matched_in, back_matched, back_failed}
use Rattle.machine.specs.Step.{step_in, step_of, steps_of}
use Rattle.machine.specs.Drive.{rank, weight, goes_on_in, goes_on, driven}
use Rattle.visits.proofs.Arms.{admitted_none, admitted_deep, admitted_fine}
use Rattle.returns.proofs.Arms.{matched_rests, failed_rests}

-- ════ The weight falls ════

rank_most : (t : Stage) → rank t ≤ 2
unfolding rank
rank_most (S.Enter k) = omega arith
rank_most S.Matched = omega arith
rank_most S.Failed = omega arith
rank_most (S.Deep k) = omega arith
rank_most (S.Stuck k) = omega arith
rank_most (S.Overflow k) = omega arith
rank_most (S.ZeroDivisor k) = omega arith

rank_ended : (why : Ending) (k : ℕ) → rank (ended_at why k) ≡ 0
unfolding rank ended_at
rank_ended Budget k = refl
rank_ended Deep k = refl
rank_ended Stuck k = refl
rank_ended (AtFault Overflow) k = refl
rank_ended (AtFault ZeroDivisor) k = refl

module _ (B : ℕ) where
  -- the weight without the stage
  abbrev left : Run → ℕ
  left r = 4 * (B - r.visits) + 2 * r.frames

  staged_light : (r : Run) (t : Stage) → weight B (staged r t) ≤ left r + 2
  unfolding weight
  staged_light r t = omega (arith, rank_most t)

  ended_light : (r : Run) (why : Ending) (k : ℕ) → weight B (staged r (ended_at why k)) ≤ left r
  unfolding weight
  ended_light r why k = omega (arith, rank_ended why k)

  consumed_light : (b : Bool) (r : Run) → weight B (consumed b r) ≤ left r + 2
  unfolding consumed weight rank
  consumed_light true r = omega arith
  consumed_light false r = omega arith

  updated_light : (e : Evaluated Value) (s : ℕ) (r : Run) (w : List ℕ) → weight B (updated e s r w).run ≤ left r + 2
  unfolding updated
  updated_light (value v) s r w = staged_light r S.Matched
  updated_light (ends why j) s r w = staged_light r (ended_at why j)

  constrained_light : (e : Evaluated Value) (k : ℕ) (r : Run) → weight B (constrained e k r) ≤ left r + 2
  unfolding constrained
  constrained_light (value v) k r = staged_light r (judged v k)
  constrained_light (ends why j) k r = staged_light r (ended_at why j)

  opened_light : (k part : ℕ) (r : Run) (w : List ℕ) → weight B (opened k part r w).run ≤ left r + 3
  unfolding opened weight rank
  opened_light k part r w = omega arith

  called_light : (g : Result (List Value) Ended) (body k : ℕ) (r : Run) (w : List ℕ) → weight B (called g body k r w).run ≤ left r + 3
  unfolding called weight rank
  called_light (Ok vs) body k r w = omega arith
  called_light (Err end) body k r w = omega (arith, rank_ended end.why end.node)

  -- returns to frame d, the top one
  module _ (d : ℕ) (r : Run) (top : r.frames ≡ suc d) where
    popped_light : (t : Stage) (at : ℕ) → weight B (moved r t at d) < left r + 2
    unfolding weight
    popped_light t at = omega (arith, rank_most t)

    again_light : (a at : ℕ) → weight B (moved r (S.Enter a) at r.frames) < left r + 2
    unfolding weight rank
    again_light a at = omega arith

    sequence_light : (phase b : ℕ) (w : List ℕ) → weight B (sequence_matched phase b d r w).run < left r + 2
    unfolding sequence_matched
    sequence_light zero b w = again_light b r.at
    sequence_light (suc phase) b w = popped_light S.Matched r.at

    choice_light : (phase b : ℕ) (w : List ℕ) → weight B (choice_failed phase b d r w).run < left r + 2
    unfolding choice_failed
    choice_light zero b w = again_light b _
    choice_light (suc phase) b w = popped_light S.Failed r.at

    returned_light : (g : Result (List Value) Ended) (m : ℕ) (slots : List ℕ) (w : List ℕ) → weight B (returned g m slots d r w).run < left r + 2
    unfolding returned
    returned_light (Ok vs) m slots w = popped_light S.Matched r.at
    returned_light (Err end) m slots w = omega (arith, ended_light r end.why end.node)

    failed_light : (n : Node) (w : List ℕ) → weight B (failed_in n d r w).run < left r + 2
    unfolding failed_in given_back
    failed_light N.Unknown w = popped_light S.Failed r.at
    failed_light N.Empty w = popped_light S.Failed r.at
    failed_light (N.Terminal a) w = popped_light S.Failed r.at
    failed_light (N.Sequence a b) w = popped_light S.Failed r.at
    failed_light (N.Choice a b) w = choice_light (phase_in w d) b w
    failed_light (N.Repeat a) w = popped_light S.Matched _
    failed_light (N.Not a) w = popped_light S.Matched _
    failed_light (N.Call q a b c e s t u v) w = popped_light S.Failed r.at
    failed_light (N.Bind s a) w = popped_light S.Failed r.at
    failed_light (N.Update s a) w = popped_light S.Failed r.at
    failed_light (N.Constraint a) w = popped_light S.Failed r.at
    failed_light (N.Bool b) w = popped_light S.Failed r.at
    failed_light (N.Integer z) w = popped_light S.Failed r.at
    failed_light (N.Text start length) w = popped_light S.Failed r.at
    failed_light (N.Slot s) w = popped_light S.Failed r.at
    failed_light (N.Binary op a b) w = popped_light S.Failed r.at
    failed_light (N.Negation a) w = popped_light S.Failed r.at

module _ (words literals message : List ℕ) (B : ℕ) where
  begun_light : (n : Node) (k : ℕ) (r : Run) (w : List ℕ) → weight B (begun words literals message n k r w).run ≤ left B r + 3
  unfolding begun
  begun_light N.Unknown k r w = omega (arith, staged_light B r S.Matched)
  begun_light N.Empty k r w = omega (arith, staged_light B r S.Matched)
  begun_light (N.Terminal byte) k r w = omega (arith, consumed_light B (byte_stands message r.at byte && ltb r.at 65535) r)
  begun_light (N.Sequence a b) k r w = opened_light B k a r w
  begun_light (N.Choice a b) k r w = opened_light B k a r w
  begun_light (N.Repeat a) k r w = opened_light B k a r w
  begun_light (N.Not a) k r w = opened_light B k a r w
  begun_light (N.Call q a b c d s t u v) k r w = called_light B _ _ k r w
  begun_light (N.Bind s a) k r w = opened_light B k a r w
  begun_light (N.Update s e) k r w = omega (arith, updated_light B (evaluated words literals message e w) s r w)
  begun_light (N.Constraint e) k r w = omega (arith, constrained_light B (evaluated words literals message e w) k r)
  begun_light (N.Bool b) k r w = omega (arith, staged_light B r S.Matched)
  begun_light (N.Integer z) k r w = omega (arith, staged_light B r S.Matched)
  begun_light (N.Text start length) k r w = omega (arith, staged_light B r S.Matched)
  begun_light (N.Slot s) k r w = omega (arith, staged_light B r S.Matched)
  begun_light (N.Binary op a b) k r w = omega (arith, staged_light B r S.Matched)
  begun_light (N.Negation a) k r w = omega (arith, staged_light B r S.Matched)

  matched_light : (d : ℕ) (r : Run) (w : List ℕ) → r.frames ≡ suc d → (n : Node) → weight B (matched_in words literals message n d r w).run < left B r + 2
  unfolding matched_in
  matched_light d r w top N.Unknown = popped_light B d r top S.Matched r.at
  matched_light d r w top N.Empty = popped_light B d r top S.Matched r.at
  matched_light d r w top (N.Terminal a) = popped_light B d r top S.Matched r.at
  matched_light d r w top (N.Sequence a b) = sequence_light B d r top (phase_in w d) b w
  matched_light d r w top (N.Choice a b) = popped_light B d r top S.Matched r.at
  matched_light d r w top (N.Repeat a) = again_light B d r top a r.at
  matched_light d r w top (N.Not a) = popped_light B d r top S.Failed r.at
  matched_light d r w top (N.Call q a b c e s t u v) = returned_light B d r top (returned_by words literals message q w) (returned_count words q) (s ∷ t ∷ u ∷ v ∷ []) w
  matched_light d r w top (N.Bind s a) = popped_light B d r top S.Matched r.at
  matched_light d r w top (N.Update s a) = popped_light B d r top S.Matched r.at
  matched_light d r w top (N.Constraint a) = popped_light B d r top S.Matched r.at
  matched_light d r w top (N.Bool b) = popped_light B d r top S.Matched r.at
  matched_light d r w top (N.Integer z) = popped_light B d r top S.Matched r.at
  matched_light d r w top (N.Text start length) = popped_light B d r top S.Matched r.at
  matched_light d r w top (N.Slot s) = popped_light B d r top S.Matched r.at
  matched_light d r w top (N.Binary op a b) = popped_light B d r top S.Matched r.at
  matched_light d r w top (N.Negation a) = popped_light B d r top S.Matched r.at

  back_matched_light : (n : ℕ) (r : Run) (w : List ℕ) → r.frames ≡ n → 0 < n → weight B (back_matched words literals message n r w).run < left B r + 2
  unfolding back_matched
  back_matched_light zero r w top h = absurd (omega arith)
  back_matched_light (suc d) r w top h = matched_light d r w top (node_at words (node_in w d))

  back_failed_light : (n : ℕ) (r : Run) (w : List ℕ) → r.frames ≡ n → 0 < n → weight B (back_failed words literals message n r w).run < left B r + 2
  unfolding back_failed
  back_failed_light zero r w top h = absurd (omega arith)
  back_failed_light (suc d) r w top h = failed_light B d r top (node_at words (node_in w d)) w

  -- a visit that is made, or is too deep
  entered_light : (k : ℕ) (r : Run) (w : List ℕ) → r.visits < B → (b : Bool) → ltb r.frames 256 ≡ b
      → weight B (admitted words literals message (due B deepest_visit (r.frames + 1) r.visits) k r w).run < left B r + 1
  unfolding weight rank
  entered_light k r w h true e =
      rw (admitted_fine words literals message B k r w h (ltb-true r.frames 256 e))
      (omega (arith, begun_light (node_at words k) k (visited r) w))
  entered_light k r w h false e = rw (admitted_deep words literals message B k r w h (ltb-false r.frames 256 e)) (omega arith)

  step_light : (t : Stage) (r : Run) (w : List ℕ) → goes_on_in t B r ≡ true → weight B (step_in words literals message B t r w).run < left B r + rank t
  unfolding step_in goes_on_in rank
  step_light (S.Enter k) r w h = entered_light k r w (ltb-true r.visits B h) (ltb r.frames 256) refl
  step_light S.Matched r w h = back_matched_light r.frames r w refl (ltb-true 0 r.frames h)
  step_light S.Failed r w h = back_failed_light r.frames r w refl (ltb-true 0 r.frames h)
  step_light (S.Deep k) r w h = let z : ◌≡◌ {A = ℕ} 0 1 = cc in omega arith
  step_light (S.Stuck k) r w h = let z : ◌≡◌ {A = ℕ} 0 1 = cc in omega arith
  step_light (S.Overflow k) r w h = let z : ◌≡◌ {A = ℕ} 0 1 = cc in omega arith
  step_light (S.ZeroDivisor k) r w h = let z : ◌≡◌ {A = ℕ} 0 1 = cc in omega arith

  pub falls : (r : Run) (w : List ℕ) → goes_on B r ≡ true → weight B (step_of words literals message B r w).run < weight B r
  unfolding step_of weight
  falls r w h = step_light r.stage r w h

  -- ════ At rest a step changes nothing ════

  step_rests : (t : Stage) (r : Run) (w : List ℕ) → goes_on_in t B r ≡ false → step_in words literals message B t r w ≡ with r w
  unfolding step_in goes_on_in
  step_rests (S.Enter k) r w h = admitted_none words literals message B k r w (ltb-false r.visits B h)
  step_rests S.Matched r w h = let e : r.frames ≡ 0 = omega (arith, ltb-false 0 r.frames h) in matched_rests words literals message r w r.frames e
  step_rests S.Failed r w h = let e : r.frames ≡ 0 = omega (arith, ltb-false 0 r.frames h) in failed_rests words literals message r w r.frames e
  step_rests (S.Deep k) r w h = refl
  step_rests (S.Stuck k) r w h = refl
  step_rests (S.Overflow k) r w h = refl
  step_rests (S.ZeroDivisor k) r w h = refl

  pub rests : (r : Run) (w : List ℕ) → goes_on B r ≡ false → step_of words literals message B r w ≡ with r w
  unfolding step_of
  rests r w h = step_rests r.stage r w h

  -- ════ As many steps as the weight are enough ════

  abbrev one : Stepped → Stepped
  one s = step_of words literals message B s.run s.work

  abbrev many : ℕ → Stepped → Stepped
  many n s = steps_of words literals message B n s

  stops : (n : ℕ) (s : Stepped) → goes_on B s.run ≡ false → many n s ≡ s
  unfolding steps_of
  stops zero s h = refl
  stops (suc n) s h = ap (many n) (rests s.run s.work h) ∙ stops n s h

  -- at rest, or after one step that falls
  resting_or : (n m : ℕ) (s : Stepped) (b : Bool) → goes_on B s.run ≡ b
      → (weight B (one s).run < weight B s.run → many n s ≡ many m s) → many n s ≡ many m s
  resting_or n m s true e f = f (falls s.run s.work e)
  resting_or n m s false e f = stops n s e ∙ sym (stops m s e)

  enough : (n m : ℕ) (s : Stepped) → weight B s.run ≤ n → weight B s.run ≤ m → many n s ≡ many m s
  unfolding steps_of
  enough zero m s h g = resting_or zero m s (goes_on B s.run) refl (λ f. absurd (omega arith))
  enough (suc n) zero s h g = resting_or (suc n) zero s (goes_on B s.run) refl (λ f. absurd (omega arith))
  enough (suc n) (suc m) s h g =
      resting_or (suc n) (suc m) s (goes_on B s.run) refl (λ f. enough n m (one s) (omega arith) (omega arith))

  one_more : (n : ℕ) (s : Stepped) → many (suc n) s ≡ many n (one s)
  unfolding steps_of
  one_more n s = refl

  -- a step changes nothing of what a run comes to
  pub driven_step : (s : Stepped) → goes_on B s.run ≡ true → driven words literals message B (one s) ≡ driven words literals message B s
  unfolding driven
  driven_step s e =
      let f = falls s.run s.work e in
      let n : ℕ = weight B s.run in
      enough (weight B (one s).run) n (one s) (omega arith) (omega arith)
      ∙ (sym (one_more n s) ∙ enough (suc n) n s (omega arith) (omega arith))

  pub driven_rest : (s : Stepped) → goes_on B s.run ≡ false → driven words literals message B s ≡ s
  unfolding driven
  driven_rest s e = stops (weight B s.run) s e
