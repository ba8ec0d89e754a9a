-- A step in words is a step of the machine over node numbers that run record and work area stand for. It keeps to the first W words. Assumes nothing
-- but that the table's words are 16-bit numbers, the message is at most 65,535 bytes and the work area has W words.
use mathlib.Core.Path.{◌≡◌, refl}
use mathlib.Core.Bool.{Bool, true, false, cond, ◌&&◌}
use mathlib.Core.List.{List, [], ◌∷◌}
use Prim.Native.Nat.{ℕ, suc, ◌+◌, ◌≤◌, ◌<◌}
use native.Mathlib.Omega.{arith}
use native.Mathlib.Numerals.{add-one}
use borrow.Author.Tests.{ltb-true, lt-ltb}
use lib.Dec.{ltb, eqb}
use lib.ListN.{length, get_or, set, length-take}
use Rattle.values.specs.Slots.{InRange}
use Rattle.laws.specs.Windows.{Same, same_trans}
use Rattle.laws.specs.Tests.{both_left}
use Rattle.grammar.specs.declared.Fault.TheVariants.{Overflow, ZeroDivisor}
use Rattle.grammar.specs.declared.Ending.TheVariants.{Deep, Stuck, «Fault» as AtFault}
use Rattle.grammar.specs.declared.Value.{Value}
use Rattle.grammar.specs.declared.Value.TheVariants as Val
use Rattle.grammar.specs.declared.Node.{Node}
use Rattle.grammar.specs.declared.Node.TheVariants as N
use Rattle.grammar.specs.Words.{rule_word, inherited_count}
use Rattle.grammar.specs.Tree.{four}
use Rattle.grammar.specs.Values.{Evaluated}
use Rattle.grammar.specs.Run.{Tally, matched, failed, with_value, judged, fresh, byte_stands}
use Rattle.grammar.specs.Answer.{setting_of, work_words}
use Rattle.frames.specs.Frames.{base, slots_in, pushed}
use Rattle.stages.specs.declared.Stage.{Stage}
use Rattle.stages.specs.declared.Stage.TheVariants as St
use Rattle.stages.specs.declared.Run.{Run}
use Rattle.calls.specs.Calls.{given_by, four_of}
use Rattle.stages.specs.Stages.{Stepped, with, staged, ended_at}
use Rattle.visits.specs.Visits.{consumed, updated, constrained, opened, called, begun}
use Rattle.visits.specs.Visits as Word
use Rattle.machine.proofs.StackMachine.{entering, matching, failing, halted, resume, with_arguments}
use Rattle.machine.proofs.NodeMachine as Node
use Rattle.machine.proofs.NodeMachine.{NodeState, NodeFrames, node_frame}
use Rattle.machine.proofs.Decoded.{frames_in, frames_same, pushed_same, written_same}
use Rattle.machine.proofs.Decoded.{pushed_slots, pushed_frames, written_slots}
use Rattle.machine.proofs.CallSlots.{inherited_same, inherited_slots}
use Rattle.machine.proofs.Ranges.{Yields, yields, yields_stuck, yields_fault, Short, AllInRange, ManyInRange, eval_ranged, eval_all_ranged}

-- ════ What run record and work area stand for ════

abbrev pub tally : ℕ → Tally
tally v = record { visits = v }

unfoldable pub state_in : Stage → (at frames visits : ℕ) → List ℕ → NodeState
state_in (St.Enter k) at d v w = entering k at (slots_in w) (tally v) (frames_in d w)
state_in St.Matched at d v w = matching at (slots_in w) (tally v) (frames_in d w)
state_in St.Failed at d v w = failing (slots_in w) (tally v) (frames_in d w)
state_in (St.Deep k) at d v w = halted Deep k (tally v)
state_in (St.Stuck k) at d v w = halted Stuck k (tally v)
state_in (St.Overflow k) at d v w = halted (AtFault Overflow) k (tally v)
state_in (St.ZeroDivisor k) at d v w = halted (AtFault ZeroDivisor) k (tally v)

unfoldable pub state_at : Stepped → NodeState
state_at s = state_in s.run.stage s.run.at s.run.frames s.run.visits s.work

-- a run stands for a state, has frames for which there is room, and has kept to the first W words of the area that it was given
pub record Goes (area : List ℕ) (s : Stepped) (x : NodeState) : Type 0 where
  pub is : state_at s ≡ x
  pub few : s.run.frames ≤ 256
  pub same : Same work_words (length area) area s.work

-- at most four of four
four_few : (n a b c d : ℕ) → length (four n a b c d) ≤ 4
four_few n a b c d = omega (arith, length-take n (a ∷ b ∷ c ∷ d ∷ []))

pub four_alike : (n a b c d e f g h : ℕ) → length (four n a b c d) ≤ length (four n e f g h)
four_alike n a b c d e f g h = omega (arith, length-take n (a ∷ b ∷ c ∷ d ∷ []), length-take n (e ∷ f ∷ g ∷ h ∷ []))

module _ (area : List ℕ) (room : work_words ≤ length area) (r : Run) (w : List ℕ) (same : Same work_words (length area) area w) where
  abbrev t : Tally
  t = tally r.visits

  slots_fit : 32 ≤ length w
  slots_fit = omega (arith, same.long)

  -- nothing is written
  pub here : {r' : Run} {x : NodeState} → r'.frames ≤ 256 → state_at (with r' w) ≡ x → Goes area (with r' w) x
  here few is = record { is = is; few = few; same = same }

  -- ════ Visits ════

  module _ (few : r.frames < 256) where
    abbrev σ : NodeFrames
    σ = frames_in r.frames w

    stays : r.frames ≤ 256
    stays = omega arith

    frame_fits : base (suc r.frames) ≤ length w
    frame_fits = omega (arith, same.long)

    consumed_goes : (b : Bool) → Goes area (with (consumed b r) w) (resume (cond b (matched (r.at + 1) (slots_in w) t) (failed (slots_in w) t)) σ)
    unfolding consumed resume state_at state_in
    consumed_goes true = here stays refl
    consumed_goes false = here stays refl

    updated_goes : {e : Evaluated Value} (s : ℕ) → Yields InRange e →
        Goes area (updated e s r w) (resume (with_value e t (λ v. matched r.at (set (slots_in w) s v) t)) σ)
    unfolding updated with_value resume state_at state_in ended_at
    updated_goes s (yields {a = v} h) = record {
      is = rw (written_slots w slots_fit s h, frames_same r.frames (written_same w s v (omega arith)) (omega (arith, frame_fits)));
      few = stays;
      same = same_trans same (written_same w s v (omega arith));
    }
    updated_goes s yields_stuck = here stays refl
    updated_goes s (yields_fault {why = Overflow}) = here stays refl
    updated_goes s (yields_fault {why = ZeroDivisor}) = here stays refl

    judged_goes : (k : ℕ) (v : Value) → Goes area (with (staged r (Word.judged v k)) w) (resume (judged k v r.at (slots_in w) t) σ)
    unfolding judged Word.judged resume state_at state_in
    judged_goes k Val.Absent = here stays refl
    judged_goes k (Val.Bool true) = here stays refl
    judged_goes k (Val.Bool false) = here stays refl
    judged_goes k (Val.Integer z) = here stays refl
    judged_goes k (Val.Text s) = here stays refl

    constrained_goes : {e : Evaluated Value} (k : ℕ) → Yields InRange e →
        Goes area (with (constrained e k r) w) (resume (with_value e t (λ v. judged k v r.at (slots_in w) t)) σ)
    unfolding constrained with_value resume state_at state_in ended_at
    constrained_goes k (yields {a = v} h) = judged_goes k v
    constrained_goes k yields_stuck = here stays refl
    constrained_goes k (yields_fault {why = Overflow}) = here stays refl
    constrained_goes k (yields_fault {why = ZeroDivisor}) = here stays refl

    module _ (k : ℕ) (node : k < 65536) (place : r.at < 65536) where
      pushed_area : Same work_words (length area) area (pushed w r.frames k r.at)
      pushed_area = same_trans same (pushed_same w r.frames k r.at (omega arith))

      opened_goes : (part : ℕ) → Goes area (opened k part r w) (entering part r.at (slots_in w) t (node_frame k false r.at (slots_in w) ∷ σ))
      unfolding opened state_at state_in
      opened_goes part = record {
        is = rw (add-one r.frames, pushed_slots w r.frames frame_fits k r.at, pushed_frames w r.frames k r.at frame_fits node place);
        few = omega arith;
        same = pushed_area;
      }

      called_goes : {count : ℕ} {e : Evaluated (List Value)} (body : ℕ) → count ≤ 4 → Yields (ManyInRange count) e →
          Goes area (called (given_by e) body k r w)
          (with_arguments e t (λ given. entering body r.at (fresh given) t (node_frame k false r.at (slots_in w) ∷ σ)))
      unfolding called given_by with_arguments state_at state_in ended_at
      called_goes body four (yields {a = vs} h) =
          let w₁ = pushed w r.frames k r.at in
          let long : length w₁ ≡ length area = pushed_area.long in
          record {
            is = rw (
              add-one r.frames,
              inherited_slots vs w₁ (omega arith) h.ranged (omega (arith, h.many)),
              frames_same (suc r.frames) (inherited_same (omega arith) (four_of vs) w₁) (omega arith),
              pushed_frames w r.frames k r.at frame_fits node place,
            );
            few = omega arith;
            same = same_trans pushed_area (inherited_same (omega arith) (four_of vs) w₁);
          }
      called_goes body four yields_stuck = here stays refl
      called_goes body four (yields_fault {why = Overflow}) = here stays refl
      called_goes body four (yields_fault {why = ZeroDivisor}) = here stays refl

-- a byte that stands in the message does so below 65,535
stands_by : (message : List ℕ) (at byte : ℕ) (b : Bool) → byte_stands message at byte ≡ b → length message < 65536 → (b && ltb at 65535) ≡ b
unfolding byte_stands
stands_by message at byte true e small =
    let stands : at < length message = ltb-true at (length message) (both_left (ltb at (length message)) (eqb (get_or message at 0) byte) e) in
    lt-ltb at 65535 (omega arith)
stands_by message at byte false e small = refl

module _ (words literals message : List ℕ) (short : Short words) (small : length message < 65536) where
  module _ (area : List ℕ) (room : work_words ≤ length area) (r : Run) (w : List ℕ) (same : Same work_words (length area) area w) where
    pub begun_goes : (n : Node) (k : ℕ) → r.frames < 256 → k < 65536 → r.at ≤ length message → AllInRange (slots_in w) →
        Goes area (begun words literals message n k r w) (Node.begin words literals message k n r.at (slots_in w) (tally r.visits) (frames_in r.frames w))
    unfolding begun Node.begin state_at state_in
    begun_goes N.Unknown k few node place ranged = here area room r w same (omega arith) refl
    begun_goes N.Empty k few node place ranged = here area room r w same (omega arith) refl
    begun_goes (N.Terminal byte) k few node place ranged =
        rw (stands_by message r.at byte (byte_stands message r.at byte) refl small) (consumed_goes area room r w same few (byte_stands message r.at byte))
    begun_goes (N.Sequence a b) k few node place ranged = opened_goes area room r w same few k node (omega arith) a
    begun_goes (N.Choice a b) k few node place ranged = opened_goes area room r w same few k node (omega arith) a
    begun_goes (N.Repeat a) k few node place ranged = opened_goes area room r w same few k node (omega arith) a
    begun_goes (N.Not a) k few node place ranged = opened_goes area room r w same few k node (omega arith) a
    begun_goes (N.Call q a b c d s₀ s₁ s₂ s₃) k few node place ranged =
        called_goes area room r w same few k node (omega arith) (rule_word words q 0) (four_few (inherited_count words q) a b c d)
        (eval_all_ranged (setting_of words literals message) (slots_in w) ranged words short (four (inherited_count words q) a b c d))
    begun_goes (N.Bind s a) k few node place ranged = opened_goes area room r w same few k node (omega arith) a
    begun_goes (N.Update s e) k few node place ranged =
        updated_goes area room r w same few s (eval_ranged (setting_of words literals message) (slots_in w) ranged words short e)
    begun_goes (N.Constraint e) k few node place ranged =
        constrained_goes area room r w same few k (eval_ranged (setting_of words literals message) (slots_in w) ranged words short e)
    begun_goes (N.Bool b) k few node place ranged = here area room r w same (omega arith) refl
    begun_goes (N.Integer z) k few node place ranged = here area room r w same (omega arith) refl
    begun_goes (N.Text start len) k few node place ranged = here area room r w same (omega arith) refl
    begun_goes (N.Slot s) k few node place ranged = here area room r w same (omega arith) refl
    begun_goes (N.Binary op a b) k few node place ranged = here area room r w same (omega arith) refl
    begun_goes (N.Negation a) k few node place ranged = here area room r w same (omega arith) refl
