-- What a call writes into the slots in use: its arguments into fresh ones, and what it returns into its receiving ones. Assumes nothing.
use mathlib.Core.Path.{◌≡◌, refl, ◌∙◌}
use mathlib.Core.Bool.{Bool, true, false, cond}
use mathlib.Core.List.{List, [], ◌∷◌}
use Prim.Native.Nat.{ℕ, zero, suc, ◌≤◌}
use native.Mathlib.Omega.{arith}
use borrow.Author.Tests.{lt-ltb}
use lib.Dec.{ltb}
use lib.ListN.{length, set, get_or, replicate}
use lib.Seq.{take-nil}
use Rattle.laws.specs.Windows.{Same, same_self, same_trans}
use Rattle.grammar.specs.declared.Value.{Value}
use Rattle.grammar.specs.declared.Value.TheVariants as Val
use Rattle.grammar.specs.Tree.{four}
use Rattle.grammar.specs.Run.{Slots, fresh, receive}
use Rattle.values.specs.Slots.{InRange}
use Rattle.frames.specs.Frames.{slots_in, unset}
use Rattle.calls.specs.Calls.{value_at, four_of, inherited, received_at, received}
use Rattle.machine.proofs.Decoded.{written_same, unset_same, written_slots, unset_slots}
use Rattle.machine.proofs.Ranges.{AllInRange, in_range_at}

-- ════ Where they go ════

module _ {low high : ℕ} (slots_below : 32 ≤ low) where
  received_one : (t : Bool) (w : List ℕ) (i m s : ℕ) (v : Value) → ltb i m ≡ t → Same low high w (received_at i m s v w)
  unfolding received_at
  received_one true w i m s v e = rw e (written_same w s v slots_below)
  received_one false w i m s v e = rw e (same_self w)

  one : (w : List ℕ) (i m s : ℕ) (v : Value) → Same low high w (received_at i m s v w)
  one w i m s v = received_one (ltb i m) w i m s v refl

  pub received_same : (m s t u v : ℕ) (vs : List Value) (w : List ℕ) → Same low high w (received m (s ∷ t ∷ u ∷ v ∷ []) vs w)
  unfolding received
  received_same m s t u v vs w =
      same_trans (same_trans (same_trans (one w 0 m s (value_at vs 0)) (one _ 1 m t (value_at vs 1))) (one _ 2 m u (value_at vs 2))) (one _ 3 m v (value_at vs 3))

  pub inherited_same : (vs : List Value) (w : List ℕ) → Same low high w (inherited vs w)
  unfolding inherited
  inherited_same vs w =
      same_trans (unset_same w slots_below)
      (same_trans (written_same (unset w) 0 (value_at vs 0) slots_below)
      (same_trans (written_same _ 1 (value_at vs 1) slots_below) (same_trans (written_same _ 2 (value_at vs 2) slots_below) (written_same _ 3 (value_at vs 3) slots_below))))

-- ════ What stands there then ════

-- slot s takes a value, if place i of m is in use
abbrev taking : (i m s : ℕ) → Value → Slots → Slots
taking i m s v slots = cond (ltb i m) (set slots s v) slots

abbrev taking_four : (m s t u v : ℕ) → List Value → Slots → Slots
taking_four m s t u v vs slots =
    taking 3 m v (get_or vs 3 Val.Absent) (taking 2 m u (get_or vs 2 Val.Absent) (taking 1 m t (get_or vs 1 Val.Absent) (taking 0 m s (get_or vs 0 Val.Absent) slots)))

one_slots : (t : Bool) (w : List ℕ) (i m s : ℕ) {v : Value} → ltb i m ≡ t → 32 ≤ length w → InRange v →
    slots_in (received_at i m s v w) ≡ taking i m s v (slots_in w)
unfolding received_at
one_slots true w i m s e h r = rw e (written_slots w h s r)
one_slots false w i m s e h r = rw e

four_slots : (m s t u v : ℕ) (vs : List Value) (w : List ℕ) → 32 ≤ length w → AllInRange vs →
    slots_in (received m (s ∷ t ∷ u ∷ v ∷ []) (four_of vs) w) ≡ taking_four m s t u v vs (slots_in w)
unfolding received
four_slots m s t u v vs w h r =
    let w₁ = received_at 0 m s (get_or vs 0 Val.Absent) w in
    let w₂ = received_at 1 m t (get_or vs 1 Val.Absent) w₁ in
    let w₃ = received_at 2 m u (get_or vs 2 Val.Absent) w₂ in
    let long : (x : List ℕ) (i s₁ : ℕ) → length (received_at i m s₁ (get_or vs i Val.Absent) x) ≡ length x =
    λ x i s₁. (one {low = 32} {high = 32} (omega arith) x i m s₁ (get_or vs i Val.Absent)).long in
    rw (
      one_slots (ltb 3 m) w₃ 3 m v refl (omega (arith, long w 0 s, long w₁ 1 t, long w₂ 2 u)) (in_range_at vs 3 r),
      one_slots (ltb 2 m) w₂ 2 m u refl (omega (arith, long w 0 s, long w₁ 1 t)) (in_range_at vs 2 r),
      one_slots (ltb 1 m) w₁ 1 m t refl (omega (arith, long w 0 s)) (in_range_at vs 1 r),
      one_slots (ltb 0 m) w 0 m s refl h (in_range_at vs 0 r),
    )

-- a value for each receiving slot
receive_is : (m s t u v : ℕ) (vs : List Value) (slots : Slots) → length (four m s t u v) ≤ length vs →
    taking_four m s t u v vs slots ≡ receive slots (four m s t u v) vs
unfolding receive
receive_is zero s t u v vs slots h = refl
receive_is (suc zero) s t u v [] slots h = absurd (omega arith)
receive_is (suc zero) s t u v (a ∷ vs) slots h = refl
receive_is (suc (suc zero)) s t u v [] slots h = absurd (omega arith)
receive_is (suc (suc zero)) s t u v (a ∷ []) slots h = absurd (omega arith)
receive_is (suc (suc zero)) s t u v (a ∷ b ∷ vs) slots h = refl
receive_is (suc (suc (suc zero))) s t u v [] slots h = absurd (omega arith)
receive_is (suc (suc (suc zero))) s t u v (a ∷ []) slots h = absurd (omega arith)
receive_is (suc (suc (suc zero))) s t u v (a ∷ b ∷ []) slots h = absurd (omega arith)
receive_is (suc (suc (suc zero))) s t u v (a ∷ b ∷ c ∷ vs) slots h = refl
receive_is (suc (suc (suc (suc m)))) s t u v [] slots h = absurd (omega arith)
receive_is (suc (suc (suc (suc m)))) s t u v (a ∷ []) slots h = absurd (omega arith)
receive_is (suc (suc (suc (suc m)))) s t u v (a ∷ b ∷ []) slots h = absurd (omega arith)
receive_is (suc (suc (suc (suc m)))) s t u v (a ∷ b ∷ c ∷ []) slots h = absurd (omega arith)
receive_is (suc (suc (suc (suc m)))) s t u v (a ∷ b ∷ c ∷ d ∷ vs) slots h =
    let n = suc (suc (suc (suc m))) in
    rw (lt-ltb 0 n (omega arith), lt-ltb 1 n (omega arith), lt-ltb 2 n (omega arith), lt-ltb 3 n (omega arith), take-nil {A = ℕ} m)

pub received_slots : (m s t u v : ℕ) (vs : List Value) (w : List ℕ) → 32 ≤ length w → AllInRange vs → length (four m s t u v) ≤ length vs →
    slots_in (received m (s ∷ t ∷ u ∷ v ∷ []) (four_of vs) w) ≡ receive (slots_in w) (four m s t u v) vs
received_slots m s t u v vs w h r enough = four_slots m s t u v vs w h r ∙ receive_is m s t u v vs (slots_in w) enough

fresh_is : (vs : List Value) → length vs ≤ 4 → taking_four 4 0 1 2 3 vs (replicate 16 Val.Absent) ≡ fresh vs
unfolding fresh
fresh_is [] h = refl
fresh_is (a ∷ []) h = refl
fresh_is (a ∷ b ∷ []) h = refl
fresh_is (a ∷ b ∷ c ∷ []) h = refl
fresh_is (a ∷ b ∷ c ∷ d ∷ []) h = refl
fresh_is (a ∷ b ∷ c ∷ d ∷ e ∷ vs) h = absurd (omega arith)

-- fresh slots take the four values, Absent past their count
pub inherited_slots : (vs : List Value) (w : List ℕ) → 32 ≤ length w → AllInRange vs → length vs ≤ 4 → slots_in (inherited (four_of vs) w) ≡ fresh vs
unfolding inherited received received_at
inherited_slots vs w h r few =
    let long : length (unset w) ≡ length w = (unset_same {low = 32} {high = 32} w (omega arith)).long in
    four_slots 4 0 1 2 3 vs (unset w) (omega arith) r ∙ rw (unset_slots w h) (fresh_is vs few)
