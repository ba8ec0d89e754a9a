-- What the words of a work area stand for, slots in use and frames, and what each store makes of it. Assumes nothing.
use mathlib.Core.Path.{◌≡◌, refl, sym, ap, ap₂, ◌∙◌}
use mathlib.Core.Bool.{Bool, true, false}
use mathlib.Core.List.{List, [], ◌∷◌}
use Prim.Native.Nat.{ℕ, zero, suc, ◌+◌, ◌*◌, ◌%◌, ◌≤◌, ◌<◌}
use native.Mathlib.Omega.{arith}
use borrow.Author.Tests.{ltb-true, ltb-false}
use lib.Dec.{ltb}
use lib.ListN.{length, take, set, replicate, length-set}
use lib.Seq.{get_or-set_same, get_or-set_other, length-take-le, take-set-lt, set_out}
use Rattle.laws.specs.Windows.{window, Same, Outside, same_self, same_trans, set_same, same_window}
use Rattle.grammar.specs.declared.Value.{Value}
use Rattle.grammar.specs.declared.Value.TheVariants as Val
use Rattle.grammar.specs.Run.{Slots}
use Rattle.values.specs.Slots.{value_of, slots_of, InRange, tag_of, payload_of}
use Rattle.values.proofs.SlotList.{slot_written}
use Rattle.frames.specs.Frames.{base, slots_in, written, unset, node_in, phase_in, from_in, saved, pushed, in_second, restored}
use Rattle.machine.proofs.NodeMachine.{NodeFrame, node_frame, NodeFrames}
use Rattle.machine.proofs.Areas.{copied_same, copied_window, cleared_same, cleared_is}

-- ════ Decoding ════

unfoldable pub is_later : (phase : ℕ) → Bool
is_later zero = false
is_later (suc _) = true

-- the slots that frame d keeps
unfoldable pub kept_in : List ℕ → ℕ → Slots
kept_in w d = slots_of (window (base d + 6) 32 w)

unfoldable pub frame_in : List ℕ → ℕ → NodeFrame
frame_in w d = node_frame (node_in w d) (is_later (phase_in w d)) (from_in w d) (kept_in w d)

-- the first d frames, the last of them on top
unfoldable pub frames_in : ℕ → List ℕ → NodeFrames
frames_in zero w = []
frames_in (suc d) w = frame_in w d ∷ frames_in d w

pub frames_length : (d : ℕ) (w : List ℕ) → length (frames_in d w) ≡ d
unfolding frames_in
frames_length zero w = refl
frames_length (suc d) w = ap suc (frames_length d w)

-- ════ Areas that are the same in part ════

pub slots_same : {w w' : List ℕ} → Same 0 32 w w' → 32 ≤ length w → slots_in w' ≡ slots_in w
unfolding slots_in window
slots_same s h = ap slots_of (same_window s 0 32 (omega arith) (omega arith) h)

pub frame_same : {w w' : List ℕ} (d : ℕ) → Same (base d) (base (suc d)) w w' → base (suc d) ≤ length w → frame_in w' d ≡ frame_in w d
unfolding frame_in node_in phase_in from_in kept_in
frame_same d s h =
    rw (
      s.word (base d) (omega arith) (omega arith),
      s.word (base d + 1) (omega arith) (omega arith),
      s.word (base d + 2) (omega arith) (omega arith),
      same_window s (base d + 6) 32 (omega arith) (omega arith) (omega arith),
    )

pub frames_same : {w w' : List ℕ} (d : ℕ) → Same 32 (base d) w w' → base d ≤ length w → frames_in d w' ≡ frames_in d w
unfolding frames_in
frames_same zero s h = refl
frames_same {w} {w'} (suc d) s h =
    ap₂ (λ (f : NodeFrame) (l : NodeFrames). f ∷ l)
    (frame_same d (record { long = s.long; word = λ i a b. s.word i (omega arith) b }) h)
    (frames_same d (record { long = s.long; word = λ i a b. s.word i a (omega arith) }) (omega arith))

-- ════ Where each store goes ════

module _ {low high : ℕ} where
  pub saved_same : (w : List ℕ) (d at : ℕ) → Outside (base d + 2) (base (suc d)) low high → Same low high w (saved w d at)
  unfolding saved
  saved_same w d at outside =
      same_trans (set_same w (base d + 2) at (λ l h. outside (base d + 2) (omega arith) (omega arith) l h))
      (copied_same (set w (base d + 2) at) 0 (base d + 6) 32 (λ i a b. outside i (omega arith) (omega arith)))

  pub pushed_same : (w : List ℕ) (d k at : ℕ) → Outside (base d) (base (suc d)) low high → Same low high w (pushed w d k at)
  unfolding pushed
  pushed_same w d k at outside =
      same_trans (set_same w (base d) k (λ l h. outside (base d) (omega arith) (omega arith) l h))
      (same_trans (set_same (set w (base d) k) (base d + 1) 0 (λ l h. outside (base d + 1) (omega arith) (omega arith) l h))
      (saved_same (set (set w (base d) k) (base d + 1) 0) d at (λ i a b. outside i (omega arith) b)))

  pub second_same : (w : List ℕ) (d : ℕ) → Outside (base d + 1) (base d + 2) low high → Same low high w (in_second w d)
  unfolding in_second
  second_same w d outside = set_same w (base d + 1) 1 (λ l h. outside (base d + 1) (omega arith) (omega arith) l h)

  pub restored_same : (w : List ℕ) (d : ℕ) → 32 ≤ low → Same low high w (restored w d)
  unfolding restored
  restored_same w d h = copied_same w (base d + 6) 0 32 (omega arith)

  pub unset_same : (w : List ℕ) → 32 ≤ low → Same low high w (unset w)
  unfolding unset
  unset_same w h = cleared_same w 32 h

  written_by : (t : Bool) (w : List ℕ) (s : ℕ) (v : Value) → ltb s 16 ≡ t → 32 ≤ low → Same low high w (written w s v)
  unfolding written
  written_by true w s v e h =
      let l : s < 16 = ltb-true s 16 e in
      rw e (same_trans (set_same w (2 * s) (tag_of v) (λ a b. omega arith)) (set_same (set w (2 * s) (tag_of v)) (2 * s + 1) (payload_of v) (λ a b. omega arith)))
  written_by false w s v e h = rw e (same_self w)

  pub written_same : (w : List ℕ) (s : ℕ) (v : Value) → 32 ≤ low → Same low high w (written w s v)
  written_same w s v h = written_by (ltb s 16) w s v refl h

-- ════ What each store puts there ════

-- the top frame stands in the area
module _ (w : List ℕ) (d : ℕ) (room : base (suc d) ≤ length w) where
  pub saved_slots : (at : ℕ) → slots_in (saved w d at) ≡ slots_in w
  saved_slots at = slots_same (saved_same w d at (omega arith)) (omega arith)

  pub saved_frames : (at : ℕ) → at < 65536 →
      frames_in (suc d) (saved w d at) ≡ node_frame (node_in w d) (is_later (phase_in w d)) at (slots_in w) ∷ frames_in d w
  unfolding frames_in frame_in node_in phase_in from_in kept_in saved slots_in window
  saved_frames at small =
      let w₁ = set w (base d + 2) at in
      let long : length w₁ ≡ length w = length-set w (base d + 2) at in
      let head : Same (base d) (base d + 2) w (saved w d at) = saved_same w d at (omega arith) in
      let place : Same (base d + 2) (base d + 3) w₁ (saved w d at) = copied_same w₁ 0 (base d + 6) 32 (omega arith) in
      let first : Same 0 32 w w₁ = set_same w (base d + 2) at (λ a b. omega arith) in
      let fits : at % 65536 ≡ at = omega arith in
      rw (
        head.word (base d) (omega arith) (omega arith),
        head.word (base d + 1) (omega arith) (omega arith),
        place.word (base d + 2) (omega arith) (omega arith),
        get_or-set_same w (base d + 2) at 0 (omega arith),
        fits,
        copied_window w₁ 0 (base d + 6) 32 (omega arith) (omega arith) (omega arith),
        same_window first 0 32 (omega arith) (omega arith) (omega arith),
        frames_same d (saved_same w d at (omega arith)) (omega arith),
      )

  pub pushed_slots : (k at : ℕ) → slots_in (pushed w d k at) ≡ slots_in w
  pushed_slots k at = slots_same (pushed_same w d k at (omega arith)) (omega arith)

  pub second_slots : slots_in (in_second w d) ≡ slots_in w
  second_slots = slots_same (second_same w d (omega arith)) (omega arith)

  pub second_frames : frames_in (suc d) (in_second w d) ≡ node_frame (node_in w d) true (from_in w d) (kept_in w d) ∷ frames_in d w
  unfolding frames_in frame_in node_in phase_in from_in kept_in is_later in_second
  second_frames =
      let head : Same (base d) (base d + 1) w (in_second w d) = second_same w d (omega arith) in
      let tail : Same (base d + 2) (base (suc d)) w (in_second w d) = second_same w d (omega arith) in
      rw (
        head.word (base d) (omega arith) (omega arith),
        get_or-set_same w (base d + 1) 1 0 (omega arith),
        tail.word (base d + 2) (omega arith) (omega arith),
        same_window tail (base d + 6) 32 (omega arith) (omega arith) (omega arith),
        frames_same d (second_same w d (omega arith)) (omega arith),
      )

  pub restored_slots : slots_in (restored w d) ≡ kept_in w d
  unfolding slots_in restored kept_in window
  restored_slots = ap slots_of (copied_window w (base d + 6) 0 32 (omega arith) (omega arith) (omega arith))

pub pushed_frames : (w : List ℕ) (d k at : ℕ) → base (suc d) ≤ length w → k < 65536 → at < 65536 →
    frames_in (suc d) (pushed w d k at) ≡ node_frame k false at (slots_in w) ∷ frames_in d w
unfolding pushed node_in phase_in is_later
pushed_frames w d k at room node place =
    let w₁ = set w (base d) k in
    let w₂ = set w₁ (base d + 1) 0 in
    let long₁ : length w₁ ≡ length w = length-set w (base d) k in
    let long₂ : length w₂ ≡ length w₁ = length-set w₁ (base d + 1) 0 in
    let fits : k % 65536 ≡ k = omega arith in
    let before : (low high : ℕ) → Outside (base d) (base d + 2) low high → Same low high w w₂ =
    λ low high outside. same_trans (set_same w (base d) k (λ l h. outside (base d) (omega arith) (omega arith) l h))
    (set_same w₁ (base d + 1) 0 (λ l h. outside (base d + 1) (omega arith) (omega arith) l h)) in
    saved_frames w₂ d (omega arith) at place
    ∙ rw (
      get_or-set_other w₁ (base d + 1) (base d) 0 0 (λ e. omega arith),
      get_or-set_same w (base d) k 0 (omega arith),
      get_or-set_same w₁ (base d + 1) 0 0 (omega arith),
      fits,
      slots_same (before 0 32 (omega arith)) (omega arith),
      frames_same d (before 32 (base d) (omega arith)) (omega arith),
    )

-- ════ Slots ════

slots_few : (n : ℕ) (words : List ℕ) → length words ≤ 2 * n → length (slots_of words) ≤ n
unfolding slots_of
slots_few n [] h = omega arith
slots_few n (a ∷ []) h = omega arith
slots_few zero (a ∷ b ∷ words) h = absurd (omega arith)
slots_few (suc n) (a ∷ b ∷ words) h = omega (arith, slots_few n words (omega arith))

module _ (w : List ℕ) (room : 32 ≤ length w) where
  written_slots_by : (t : Bool) (s : ℕ) {v : Value} → ltb s 16 ≡ t → InRange v → slots_in (written w s v) ≡ set (slots_in w) s v
  unfolding written slots_in
  written_slots_by true s {v} e r =
      let l : s < 16 = ltb-true s 16 e in
      rw (e, take-set-lt 32 (set w (2 * s) (tag_of v)) (2 * s + 1) (payload_of v) (omega arith), take-set-lt 32 w (2 * s) (tag_of v) (omega arith))
      (slot_written (take 32 w) s r)
  written_slots_by false s {v} e r =
      rw e (sym (set_out (slots_in w) s v (omega (arith, slots_few 16 (take 32 w) (omega (arith, length-take-le 32 w room)), ltb-false s 16 e))))

  pub written_slots : (s : ℕ) {v : Value} → InRange v → slots_in (written w s v) ≡ set (slots_in w) s v
  written_slots s r = written_slots_by (ltb s 16) s refl r

  pub unset_slots : slots_in (unset w) ≡ replicate 16 Val.Absent
  unfolding slots_in unset slots_of value_of
  unset_slots = rw (cleared_is w 32 room)
