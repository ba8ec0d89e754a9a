-- Laws of a return's definitions, one to a case: what the code's tests decide. Assumes nothing.
use mathlib.Core.Path.{◌≡◌, refl}
use mathlib.Core.List.{List}
use Prim.Native.Nat.{ℕ, zero, suc, ◌-◌}
use native.Mathlib.Omega.{arith}
use Rattle.grammar.specs.Words.{node_at}
use Rattle.frames.specs.Frames.{node_in, from_in, in_second, restored}
use Rattle.stages.specs.declared.Stage.TheVariants as S
use Rattle.stages.specs.declared.Run.{Run}
use Rattle.stages.specs.Stages.{with, moved, staged}
use Rattle.returns.specs.Returns.{sequence_matched, choice_failed, failed_in, matched_in, back_matched, back_failed}

-- ════ The phase of a sequence and of a choice ════

module _ (b d : ℕ) (r : Run) (w : List ℕ) where
  pub sequence_first : (phase : ℕ) → phase ≡ 0 → sequence_matched phase b d r w ≡ with (staged r (S.Enter b)) (in_second w d)
  unfolding sequence_matched
  sequence_first phase h = rw h

  pub sequence_second : (phase : ℕ) → (phase ≡ 0 → ⊥) → sequence_matched phase b d r w ≡ with (moved r S.Matched r.at d) w
  unfolding sequence_matched
  sequence_second zero h = absurd (h refl)
  sequence_second (suc phase) h = refl

  pub choice_first : (phase : ℕ) → phase ≡ 0 → choice_failed phase b d r w ≡ with (moved r (S.Enter b) (from_in w d) r.frames) (in_second (restored w d) d)
  unfolding choice_failed
  choice_first phase h = rw h

  pub choice_second : (phase : ℕ) → (phase ≡ 0 → ⊥) → choice_failed phase b d r w ≡ with (moved r S.Failed r.at d) (restored w d)
  unfolding choice_failed
  choice_second zero h = absurd (h refl)
  choice_second (suc phase) h = refl

-- ════ A return ════

module _ (words literals message : List ℕ) (r : Run) (w : List ℕ) where
  pub matched_rests : (n : ℕ) → n ≡ 0 → back_matched words literals message n r w ≡ with r w
  unfolding back_matched
  matched_rests n h = rw h

  pub matched_top : (n : ℕ) → (n ≡ 0 → ⊥) → back_matched words literals message n r w ≡ matched_in words literals message (node_at words (node_in w (n - 1))) (n - 1) r w
  unfolding back_matched
  matched_top zero h = absurd (h refl)
  matched_top (suc n) h = let e : suc n - 1 ≡ n = omega arith in rw e

  pub failed_rests : (n : ℕ) → n ≡ 0 → back_failed words literals message n r w ≡ with r w
  unfolding back_failed
  failed_rests n h = rw h

  pub failed_top : (n : ℕ) → (n ≡ 0 → ⊥) → back_failed words literals message n r w ≡ failed_in (node_at words (node_in w (n - 1))) (n - 1) r w
  unfolding back_failed
  failed_top zero h = absurd (h refl)
  failed_top (suc n) h = let e : suc n - 1 ≡ n = omega arith in rw e
