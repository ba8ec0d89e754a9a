-- Both visits at once are three steps, and so come to the same rest. Assumes nothing.
use mathlib.Core.Bool.{Bool, true, false, cond, ◌&&◌, beq}
use mathlib.Core.List.{List}
use mathlib.Core.Path.{◌≡◌, refl, sym, ap, ◌∙◌}
use Prim.Native.Nat.{ℕ, zero, suc, ◌+◌, ◌-◌, ◌%◌, ◌≤◌, ◌<◌}
use native.Mathlib.Omega.{arith}
use borrow.Author.Tests.{eqb-true, eqb-false, leb-true, ltb-true, lt-ltb}
use lib.Dec.{eqb, leb, ltb}
use lib.ListN.{length, get_or, set, length-set}
use lib.Seq.{get_or-set_same, get_or-set_other, set-get_or}
use Rattle.laws.specs.Tests.{both, never}
use Rattle.laws.specs.Windows.{Same}
use Rattle.grammar.specs.Words.{word, node_start, kind_at, node_at, node_word}
use Rattle.grammar.specs.Run.{byte_stands}
use Rattle.frames.specs.Frames.{base, copied, node_in, phase_in, from_in, saved, pushed, in_second, restored}
use Rattle.stages.specs.declared.Stage.{Stage}
use Rattle.stages.specs.declared.Stage.TheVariants as S
use Rattle.stages.specs.declared.Run.{Run}
use Rattle.stages.specs.Stages.{Stepped, with, moved}
use Rattle.visits.specs.Visits.{visited, consumed, opened}
use Rattle.visits.proofs.Arms.{admitted_fine}
use Rattle.visits.proofs.ByKind.{begun_part, begun_terminal}
use Rattle.returns.specs.Returns.{matched_in, failed_in, given_back}
use Rattle.returns.proofs.Arms.{sequence_first, choice_first, matched_top, failed_top}
use Rattle.returns.proofs.ByKind.{matched_sequence, matched_choice, failed_sequence, failed_choice}
use Rattle.machine.specs.Step.{step_in, step_of}
use Rattle.machine.specs.Drive.{goes_on_in, goes_on}
use Rattle.machine.specs.Strides.{Strode, terminal_first, two_left, twice_visited, came_back, both_visited}
use Rattle.machine.proofs.Areas.{copied_same, copied_word}
use Rattle.machine.proofs.Decoded.{saved_same}
use Rattle.machine.proofs.Weight.{falls, driven_step}

-- ════ One stride after another ════

module _ (words literals message : List ℕ) (B : ℕ) where
  pub strode_step : (r : Run) (w : List ℕ) → goes_on B r ≡ true → Strode words literals message B (with r w) (step_of words literals message B r w)
  strode_step r w e = record { same = driven_step words literals message B (with r w) e; less = falls words literals message B r w e }

  strode_on : {s t u : Stepped} → Strode words literals message B s t → Strode words literals message B t u → Strode words literals message B s u
  strode_on a b = record { same = b.same ∙ a.same; less = omega (arith, a.less, b.less) }

-- ════ A new frame ════

-- words that are copied to where they stand already
copied_again : (w : List ℕ) (from to n : ℕ) → ((i : ℕ) → i < n → get_or w (from + i) 0 ≡ get_or w (to + i) 0) → copied w from to n ≡ w
unfolding copied
copied_again w from to zero same = refl
copied_again w from to (suc n) same =
    rw (copied_again w from to n (λ i h. same i (omega arith)), same n (omega arith)) (set-get_or w (to + n) 0)

module _ (w : List ℕ) (d k at : ℕ) (room : base (suc d) ≤ length w) where
  first : List ℕ
  first = set w (base d) k

  two : List ℕ
  two = set first (base d + 1) 0

  head : Same (base d) (base d + 2) two (pushed w d k at)
  unfolding pushed first two
  head = saved_same two d at (omega arith)

  pushed_node : k < 65536 → node_in (pushed w d k at) d ≡ k
  unfolding node_in first two
  pushed_node h =
      let fits : k % 65536 ≡ k = omega arith in
      rw (head.word (base d) (omega arith) (omega arith), get_or-set_other first (base d + 1) (base d) 0 0 (λ e. omega arith), get_or-set_same w (base d) k 0 (omega arith), fits)

  pushed_phase : phase_in (pushed w d k at) d ≡ 0
  unfolding phase_in first two
  pushed_phase =
      let long : length first ≡ length w = length-set w (base d) k in
      rw (head.word (base d + 1) (omega arith) (omega arith), get_or-set_same first (base d + 1) 0 0 (omega arith))

  module _ where
    three : List ℕ
    three = set two (base d + 2) at

    long : length three ≡ length w
    unfolding first two three
    long = length-set two (base d + 2) at ∙ (length-set first (base d + 1) 0 ∙ length-set w (base d) k)

    pushed_from : at < 65536 → from_in (pushed w d k at) d ≡ at
    unfolding from_in pushed saved first two three
    pushed_from h =
        let place : Same (base d + 2) (base d + 3) three (pushed w d k at) = copied_same three 0 (base d + 6) 32 (omega arith) in
        let fits : at % 65536 ≡ at = omega arith in
        let l : length two ≡ length w = length-set first (base d + 1) 0 ∙ length-set w (base d) k in
        rw (place.word (base d + 2) (omega arith) (omega arith), get_or-set_same two (base d + 2) at 0 (omega arith), fits)

    -- the slots that it keeps are those in use
    pushed_restored : restored (pushed w d k at) d ≡ pushed w d k at
    unfolding restored pushed saved first two three
    pushed_restored =
        let slots : Same 0 32 three (pushed w d k at) = copied_same three 0 (base d + 6) 32 (omega arith) in
        copied_again (pushed w d k at) (base d + 6) 0 32
        (λ i h.
        let e : 0 + i ≡ i = omega arith in
        copied_word three 0 (base d + 6) 32 (omega arith) (omega (arith, long)) i h ∙ rw e (sym (slots.word i (omega arith) (omega arith))))

-- ════ What the code's tests decide ════

pub two_facts : (B room : ℕ) (r : Run) → two_left B room r ≡ true → (9760 ≤ room) × (r.frames < 255) × (r.visits + 1 < B)
unfolding two_left
two_facts B room r left =
    let a = both (leb 9760 room) _ left in
    let b = both (ltb r.frames 255) _ a.1 in
    let c = both (ltb r.visits B) _ b.1 in
    (leb-true _ _ a.0, ltb-true _ _ b.0, omega (arith, ltb-true r.visits B c.0, ltb-true 1 (B - r.visits) c.1))

module _ (b : ℕ) (r : Run) (w : List ℕ) (after : ℕ) where
  pub came_on : (sequence stands : Bool) → beq stands sequence ≡ true → after ≡ cond stands (r.at + 1) r.at
      → with (twice_visited r (S.Enter b) after (r.frames + 1)) (in_second w r.frames) ≡ came_back sequence stands b r w
  unfolding came_back
  came_on true true e h = rw h
  came_on true false e h = never e
  came_on false true e h = never e
  came_on false false e h = rw h

  pub came_off : (sequence stands : Bool) (t : Stage) → beq stands sequence ≡ false → after ≡ cond stands (r.at + 1) r.at → t ≡ cond stands S.Matched S.Failed
      → with (twice_visited r t after r.frames) w ≡ came_back sequence stands b r w
  unfolding came_back
  came_off true true t e h g = never (sym e)
  came_off true false t e h g = rw (h, g)
  came_off false true t e h g = rw (h, g)
  came_off false false t e h g = never (sym e)

-- what was read on the way
pub both_read : (words message : List ℕ) (k : ℕ) (r : Run) (w : List ℕ) {place part a byte kind b : ℕ} {stands : Bool} {p : List ℕ}
    → place ≡ node_start words k → kind ≡ word words place → a ≡ word words (place + 1) → part ≡ node_start words a → byte ≡ word words (part + 1)
    → stands ≡ (byte_stands message r.at byte && ltb r.at 65535) → b ≡ word words (place + 2) → p ≡ pushed w r.frames k r.at
    → came_back (eqb kind 3) stands b r p ≡ both_visited words message k r w
unfolding both_visited
both_read words message k r w at kind a part byte stands b p = rw (p, b, stands, byte, part, a, kind, at)

-- ════ Three steps ════

module _ (words literals message : List ℕ) (B k : ℕ) (r : Run) (w : List ℕ) (due : r.stage ≡ S.Enter k) (terminal : terminal_first words k ≡ true)
    (left : two_left B (length w) r ≡ true) (node : k < 65536) (small : r.at < 65536) where
  part : ℕ
  part = node_word words k 1

  kinds : (3 ≤ kind_at words k) × (kind_at words k ≤ 4) × (kind_at words part ≡ 2)
  unfolding terminal_first part
  kinds =
      let a = both (leb 3 (kind_at words k)) _ terminal in
      let b = both (leb (kind_at words k) 4) _ a.1 in
      (leb-true _ _ a.0, leb-true _ _ b.0, eqb-true _ _ b.1)

  room : (9760 ≤ length w) × (r.frames < 255) × (r.visits + 1 < B)
  room = two_facts B (length w) r left

  p : List ℕ
  p = pushed w r.frames k r.at

  opening : Run
  opening = moved (visited r) (S.Enter part) r.at (r.frames + 1)

  step₁ : step_of words literals message B r w ≡ with opening p
  unfolding step_of step_in opened opening p part
  step₁ =
      ap (λ (t : Stage). step_in words literals message B t r w) due
      ∙ (admitted_fine words literals message B k r w (omega (arith, room.2)) (omega (arith, room.1))
      ∙ begun_part words literals message k (visited r) w kinds.0 (omega (arith, kinds.1)))

  stands : Bool
  stands = byte_stands message r.at (node_word words part 1) && ltb r.at 65535

  step₂ : step_of words literals message B opening p ≡ with (consumed stands (visited opening)) p
  unfolding step_of step_in opening stands
  step₂ =
      admitted_fine words literals message B part opening p (omega (arith, room.2)) (omega (arith, room.1))
      ∙ begun_terminal words literals message part (visited opening) p kinds.2

  -- the frame is the one that was made
  frame : (node_in p r.frames ≡ k) × (phase_in p r.frames ≡ 0) × (from_in p r.frames ≡ r.at) × (restored p r.frames ≡ p)
  unfolding p
  frame =
      let fits : base (suc r.frames) ≤ length w = omega (arith, room.0, room.1) in (
        pushed_node w r.frames k r.at fits node,
        pushed_phase w r.frames k r.at fits,
        pushed_from w r.frames k r.at fits small,
        pushed_restored w r.frames k r.at fits,
      )

  -- a part that matched, and one that failed, in a sequence and in a choice
  came : Bool → Run
  came b = consumed b (visited opening)

  matched_back : step_of words literals message B (came true) p ≡ matched_in words literals message (node_at words k) r.frames (came true) p
  unfolding step_of step_in came consumed opening
  matched_back =
      let e : r.frames + 1 - 1 ≡ r.frames = omega arith in
      matched_top words literals message (came true) p (r.frames + 1) (λ z. absurd (omega arith)) ∙ rw (e, frame.0)

  failed_back : step_of words literals message B (came false) p ≡ failed_in (node_at words k) r.frames (came false) p
  unfolding step_of step_in came consumed opening
  failed_back =
      let e : r.frames + 1 - 1 ≡ r.frames = omega arith in
      failed_top words literals message (came false) p (r.frames + 1) (λ z. absurd (omega arith)) ∙ rw (e, frame.0)

  step₃ : (sequence b : Bool) → eqb (kind_at words k) 3 ≡ sequence → step_of words literals message B (came b) p ≡ came_back sequence b (node_word words k 2) r p
  unfolding came consumed came_back opening given_back
  step₃ true true e =
      let visits : r.visits + 1 + 1 ≡ r.visits + 2 = omega arith in
      matched_back ∙ (matched_sequence words literals message k r.frames (came true) p (eqb-true _ _ e)
      ∙ (sequence_first (node_word words k 2) r.frames (came true) p (phase_in p r.frames) frame.1 ∙ rw visits))
  step₃ true false e =
      let visits : r.visits + 1 + 1 ≡ r.visits + 2 = omega arith in
      let kind : kind_at words k ≡ 3 = eqb-true _ _ e in
      failed_back ∙ (failed_sequence words literals message k r.frames (came false) p kind ∙ rw (visits, frame.3))
  step₃ false true e =
      let visits : r.visits + 1 + 1 ≡ r.visits + 2 = omega arith in
      let other : kind_at words k ≡ 3 → ⊥ = eqb-false _ _ e in
      let kind : kind_at words k ≡ 4 = omega (arith, kinds, other) in
      matched_back ∙ (matched_choice words literals message k r.frames (came true) p kind ∙ rw visits)
  step₃ false false e =
      let visits : r.visits + 1 + 1 ≡ r.visits + 2 = omega arith in
      let other : kind_at words k ≡ 3 → ⊥ = eqb-false _ _ e in
      let kind : kind_at words k ≡ 4 = omega (arith, kinds, other) in
      failed_back ∙ (failed_choice words literals message k r.frames (came false) p kind
      ∙ (choice_first (node_word words k 2) r.frames (came false) p (phase_in p r.frames) frame.1 ∙ rw (visits, frame.2, frame.3)))

  goes_back : (b : Bool) → goes_on B (came b) ≡ true
  unfolding goes_on_in came consumed opening
  goes_back true = lt-ltb 0 (r.frames + 1) (omega arith)
  goes_back false = lt-ltb 0 (r.frames + 1) (omega arith)

  goes_in : goes_on B opening ≡ true
  unfolding goes_on_in opening
  goes_in = lt-ltb (r.visits + 1) B room.2

  pub strode_both : goes_on B r ≡ true → Strode words literals message B (with r w) (both_visited words message k r w)
  unfolding both_visited stands came p part
  strode_both on =
      let a : Strode words literals message B (with r w) (with opening p) = rw (← step₁) (strode_step words literals message B r w on) in
      let b : Strode words literals message B (with opening p) (with (came stands) p) = rw (← step₂) (strode_step words literals message B opening p goes_in) in
      let c : Strode words literals message B (with (came stands) p) (came_back (eqb (kind_at words k) 3) stands (node_word words k 2) r p) =
      rw (← step₃ (eqb (kind_at words k) 3) stands refl) (strode_step words literals message B (came stands) p (goes_back stands)) in
      strode_on words literals message B a (strode_on words literals message B b c)
