-- A return in words to the node of the top frame is the return of the machine over node numbers. Assumes nothing but that the table's words are 16-bit
-- numbers, the message is at most 65,535 bytes and the work area has W words.
use mathlib.Core.Path.{◌≡◌, refl, ap}
use mathlib.Core.Bool.{cond, true}
use mathlib.Core.List.{List, ◌∷◌, []}
use Prim.Native.Nat.{ℕ, zero, suc, ◌≤◌, ◌<◌}
use native.Mathlib.Omega.{arith}
use lib.ListN.{length}
use Rattle.laws.specs.Windows.{Same, same_trans}
use Rattle.grammar.specs.declared.Fault.TheVariants.{Overflow, ZeroDivisor}
use Rattle.grammar.specs.declared.Value.{Value}
use Rattle.grammar.specs.declared.Node.{Node}
use Rattle.grammar.specs.declared.Node.TheVariants as N
use Rattle.grammar.specs.Words.{returned_count}
use Rattle.grammar.specs.Tree.{four}
use Rattle.grammar.specs.Values.{Evaluated}
use Rattle.grammar.specs.Run.{Tally, matched, with_value, receive, message_part}
use Rattle.grammar.specs.Answer.{work_words}
use Rattle.frames.specs.Frames.{base, slots_in, node_in, phase_in, from_in, restored}
use Rattle.stages.specs.declared.Stage.TheVariants as St
use Rattle.stages.specs.declared.Run.{Run}
use Rattle.calls.specs.Calls.{given_by, four_of, returned_by}
use Rattle.stages.specs.Stages.{with, moved, ended_at}
use Rattle.returns.specs.Returns.{returned, sequence_matched, choice_failed, given_back, failed_in, matched_in}
use Rattle.machine.proofs.StackMachine.{entering, matching, failing, resume}
use Rattle.machine.proofs.NodeMachine as Node
use Rattle.machine.proofs.NodeMachine.{NodeState, NodeFrame, node_frame}
use Rattle.machine.proofs.Decoded.{is_later, kept_in, frame_in, frames_in, frame_same, frames_same, saved_same, second_same, restored_same, written_same}
use Rattle.machine.proofs.Decoded.{saved_slots, saved_frames, second_slots, second_frames, restored_slots, written_slots}
use Rattle.machine.proofs.CallSlots.{received_same, received_slots}
use Rattle.machine.proofs.Ranges.{Yields, yields, yields_stuck, yields_fault, Short, AllInRange, ManyInRange}
use Rattle.machine.proofs.Fitting.{part_ranged, returned_ranged}
use Rattle.machine.proofs.WordVisits.{tally, state_in, state_at, Goes, four_alike, here}

module _ (area : List ℕ) (room : work_words ≤ length area) (r : Run) (w : List ℕ) (same : Same work_words (length area) area w) where
  -- frame d is on top
  module _ (d : ℕ) (top : r.frames ≡ suc d) (few : r.frames ≤ 256) where
    abbrev t : Tally
    t = tally r.visits

    frame_fits : base (suc d) ≤ length w
    frame_fits = omega (arith, same.long)

    -- it is popped, and nothing written
    popped : {r' : Run} {x : NodeState} → r'.frames ≡ d → state_at (with r' w) ≡ x → Goes area (with r' w) x
    popped e is = here area room r w same (omega arith) is

    -- its slots are in use again
    restored_frames : frames_in d (restored w d) ≡ frames_in d w
    restored_frames = frames_same d (restored_same w d (omega arith)) (omega (arith, frame_fits))

    restored_area : Same work_words (length area) area (restored w d)
    restored_area = same_trans same (restored_same w d (omega arith))

    given_back_goes : Goes area (given_back d r w) (failing (kept_in w d) t (frames_in d w))
    unfolding given_back state_at state_in
    given_back_goes = record { is = rw (restored_slots w d frame_fits, restored_frames); few = omega arith; same = restored_area }

    repeated_goes : Goes area (with (moved r St.Matched (from_in w d) d) (restored w d)) (matching (from_in w d) (kept_in w d) t (frames_in d w))
    unfolding state_at state_in
    repeated_goes = record { is = rw (restored_slots w d frame_fits, restored_frames); few = omega arith; same = restored_area }

    -- its second part is next
    sequence_goes : (phase b : ℕ) → Goes area (sequence_matched phase b d r w)
        (cond (is_later phase) (matching r.at (slots_in w) t (frames_in d w))
        (entering b r.at (slots_in w) t (node_frame (node_in w d) true (from_in w d) (kept_in w d) ∷ frames_in d w)))
    unfolding sequence_matched is_later state_at state_in
    sequence_goes zero b = record {
      is = rw (top, second_slots w d frame_fits, second_frames w d frame_fits);
      few = few;
      same = same_trans same (second_same w d (omega arith));
    }
    sequence_goes (suc _) b = popped refl refl

    choice_goes : (phase b : ℕ) → Goes area (choice_failed phase b d r w)
        (cond (is_later phase) (failing (kept_in w d) t (frames_in d w))
        (entering b (from_in w d) (kept_in w d) t (node_frame (node_in w d) true (from_in w d) (kept_in w d) ∷ frames_in d w)))
    unfolding choice_failed is_later state_at state_in given_back frame_in
    choice_goes zero b =
        let fits : base (suc d) ≤ length (restored w d) = omega (arith, restored_area.long) in
        record {
          is = rw (top, second_slots (restored w d) d fits, restored_slots w d frame_fits, second_frames (restored w d) d fits, restored_frames)
              (ap (λ (f : NodeFrame). entering b (from_in w d) (kept_in w d) t (node_frame f.node true f.from f.kept ∷ frames_in d w))
              (frame_same d (restored_same w d (omega arith)) frame_fits));
          few = few;
          same = same_trans restored_area (second_same (restored w d) d (omega arith));
        }
    choice_goes (suc _) b = given_back_goes

    -- its slots take what the rule returned
    returned_goes : {count : ℕ} {e : Evaluated (List Value)} (m s₀ s₁ s₂ s₃ : ℕ) → length (four m s₀ s₁ s₂ s₃) ≤ count → Yields (ManyInRange count) e →
        Goes area (returned (given_by e) m (s₀ ∷ s₁ ∷ s₂ ∷ s₃ ∷ []) d r w)
        (resume (with_value e t (λ vs. matched r.at (receive (kept_in w d) (four m s₀ s₁ s₂ s₃) vs) t)) (frames_in d w))
    unfolding returned given_by with_value resume state_at state_in ended_at
    returned_goes m s₀ s₁ s₂ s₃ enough (yields {a = vs} h) =
        let w₁ = restored w d in
        let long : length w₁ ≡ length area = restored_area.long in
        record {
          is = rw (
            received_slots m s₀ s₁ s₂ s₃ vs w₁ (omega arith) h.ranged (omega (arith, h.many)),
            restored_slots w d frame_fits,
            frames_same d (received_same (omega arith) m s₀ s₁ s₂ s₃ (four_of vs) w₁) (omega arith),
            restored_frames,
          );
          few = omega arith;
          same = same_trans restored_area (received_same (omega arith) m s₀ s₁ s₂ s₃ (four_of vs) w₁);
        }
    returned_goes m s₀ s₁ s₂ s₃ enough yields_stuck = here area room r w same few refl
    returned_goes m s₀ s₁ s₂ s₃ enough (yields_fault {why = Overflow}) = here area room r w same few refl
    returned_goes m s₀ s₁ s₂ s₃ enough (yields_fault {why = ZeroDivisor}) = here area room r w same few refl

    pub failed_in_goes : (n : Node) → Goes area (failed_in n d r w) (Node.on_failed n (frame_in w d) (slots_in w) t (frames_in d w))
    unfolding failed_in Node.on_failed frame_in state_at state_in
    failed_in_goes N.Unknown = given_back_goes
    failed_in_goes N.Empty = given_back_goes
    failed_in_goes (N.Terminal byte) = given_back_goes
    failed_in_goes (N.Sequence a b) = given_back_goes
    failed_in_goes (N.Choice a b) = choice_goes (phase_in w d) b
    failed_in_goes (N.Repeat a) = repeated_goes
    failed_in_goes (N.Not a) = popped refl refl
    failed_in_goes (N.Call q a b c e s₀ s₁ s₂ s₃) = given_back_goes
    failed_in_goes (N.Bind s a) = given_back_goes
    failed_in_goes (N.Update s e) = given_back_goes
    failed_in_goes (N.Constraint e) = given_back_goes
    failed_in_goes (N.Bool b) = given_back_goes
    failed_in_goes (N.Integer z) = given_back_goes
    failed_in_goes (N.Text start len) = given_back_goes
    failed_in_goes (N.Slot s) = given_back_goes
    failed_in_goes (N.Binary op a b) = given_back_goes
    failed_in_goes (N.Negation a) = given_back_goes

    module _ (words literals message : List ℕ) (short : Short words) (small : length message < 65536) where
      pub matched_in_goes : (n : Node) → r.at ≤ length message → from_in w d ≤ length message → AllInRange (slots_in w) →
          Goes area (matched_in words literals message n d r w) (Node.on_matched words literals message n (frame_in w d) r.at (slots_in w) t (frames_in d w))
      unfolding matched_in Node.on_matched Node.returned_by returned_by frame_in state_at state_in
      matched_in_goes N.Unknown at from ranged = popped refl refl
      matched_in_goes N.Empty at from ranged = popped refl refl
      matched_in_goes (N.Terminal byte) at from ranged = popped refl refl
      matched_in_goes (N.Sequence a b) at from ranged = sequence_goes (phase_in w d) b
      matched_in_goes (N.Choice a b) at from ranged = popped refl refl
      matched_in_goes (N.Repeat a) at from ranged = record {
        is = rw (top, saved_slots w d frame_fits r.at, saved_frames w d frame_fits r.at (omega arith));
        few = few;
        same = same_trans same (saved_same w d r.at (omega arith));
      }
      matched_in_goes (N.Not a) at from ranged = popped refl refl
      matched_in_goes (N.Call q a b c e s₀ s₁ s₂ s₃) at from ranged =
          returned_goes (returned_count words q) s₀ s₁ s₂ s₃ (four_alike (returned_count words q) s₀ s₁ s₂ s₃ _ _ _ _)
          (returned_ranged message words literals short small q (slots_in w) ranged)
      matched_in_goes (N.Bind s a) at from ranged =
          let part = message_part (from_in w d) r.at in
          record {
            is = rw (
              written_slots w (omega (arith, frame_fits)) s (part_ranged message small (from_in w d) r.at from at),
              frames_same d (written_same w s part (omega arith)) (omega (arith, frame_fits)),
            );
            few = omega arith;
            same = same_trans same (written_same w s part (omega arith));
          }
      matched_in_goes (N.Update s e) at from ranged = popped refl refl
      matched_in_goes (N.Constraint e) at from ranged = popped refl refl
      matched_in_goes (N.Bool b) at from ranged = popped refl refl
      matched_in_goes (N.Integer z) at from ranged = popped refl refl
      matched_in_goes (N.Text start len) at from ranged = popped refl refl
      matched_in_goes (N.Slot s) at from ranged = popped refl refl
      matched_in_goes (N.Binary op a b) at from ranged = popped refl refl
      matched_in_goes (N.Negation a) at from ranged = popped refl refl
