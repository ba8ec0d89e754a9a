-- Results in two words: what code does with them is what the written meaning does with values. Assumes nothing.
use mathlib.Core.Path.{◌≡◌, refl, sym, ◌∙◌}
use mathlib.Core.Bool.{Bool, true, false, not, beq}
use mathlib.Core.List.{List}
use Prim.Native.Nat.{ℕ, zero, suc, ◌+◌, ◌*◌, ◌-◌, ◌/◌, ◌%◌, ◌<◌, ◌≤◌}
use native.Mathlib.Omega.{arith}
use borrow.Author.Tests.{ne_eqb, le-ltb, leb-true, eqb-true, eqb-false}
use lib.Dec.{eqb}
use lib.IntN.{ℤ, pos, negsuc}
use lib.ListN.{get_or, length, take, length-take}
use mir.Syntax.{w32}
use mir.Val.{SFits, bool_byte}
use Rattle.laws.specs.Tests.{never}
use Rattle.grammar.specs.declared.Arithmetic.{Arithmetic}
use Rattle.grammar.specs.declared.Arithmetic.TheVariants.{Add, Subtract, Multiply, Divide}
use Rattle.grammar.specs.declared.Operator.{Operator}
use Rattle.grammar.specs.declared.Operator.TheVariants.{Calculate, Equal, Greater, And, Or}
use Rattle.grammar.specs.declared.Fault.{Fault}
use Rattle.grammar.specs.declared.Fault.TheVariants.{Overflow, ZeroDivisor}
use Rattle.std.specs.Prelude.{Ok, Err}
use Rattle.grammar.specs.declared.Span.{Span}
use Rattle.grammar.specs.declared.Value.{Value}
use Rattle.grammar.specs.declared.Value.TheVariants as Val
use Rattle.grammar.specs.Run.{Slots}
use Rattle.grammar.specs.Values.{Number, signed32, fitting, quotient, calculated, Evaluated, value, after, stuck, truth, number_at, present, want_integer, want_bool, want_text, integers, same_integer, same_texts, equal, negated}
use Rattle.values.specs.Slots.{value_of, slot_at}
use Rattle.values.specs.Words.{word_of, integer_of}
use Rattle.values.proofs.Complement.{signed_is, integer_word}
use Rattle.values.proofs.SlotList.{slot_read, slot_past, slot_among_first}
use Rattle.expressions.specs.Meant.{of_integers}
use Rattle.expressions.specs.Given.{given_of, integer_tags, text_tag, span_of, operator_of, leaf_of}

-- ════ Small numbers, by cases ════

abbrev pub eight : ℕ → ℕ
eight n = suc (suc (suc (suc (suc (suc (suc (suc n)))))))

-- a fact of 0 to 7 and of what lies past them is one of every number
pub by_number : (P : ℕ → Type 0) → P 0 → P 1 → P 2 → P 3 → P 4 → P 5 → P 6 → P 7 → ((n : ℕ) → P (eight n)) → (n : ℕ) → P n
by_number P a b c d e f g h past zero = a
by_number P a b c d e f g h past (suc zero) = b
by_number P a b c d e f g h past (suc (suc zero)) = c
by_number P a b c d e f g h past (suc (suc (suc zero))) = d
by_number P a b c d e f g h past (suc (suc (suc (suc zero)))) = e
by_number P a b c d e f g h past (suc (suc (suc (suc (suc zero))))) = f
by_number P a b c d e f g h past (suc (suc (suc (suc (suc (suc zero)))))) = g
by_number P a b c d e f g h past (suc (suc (suc (suc (suc (suc (suc zero))))))) = h
by_number P a b c d e f g h past (suc (suc (suc (suc (suc (suc (suc (suc n)))))))) = past n

-- ════ Ends and values ════

pub stuck_is : (k : ℕ) → k < 65536 → ◌≡◌ {A = Evaluated Value} (given_of 5 k) (stuck k)
unfolding given_of
stuck_is k h = let e : k % 65536 ≡ k = omega arith in rw e

pub value_given : (tag payload : ℕ) → tag < 5 → given_of tag payload ≡ value (value_of tag payload)
unfolding given_of value_of
value_given tag payload = by_number (λ t. t < 5 → given_of t payload ≡ value (value_of t payload))
    (λ _. refl) (λ _. refl) (λ _. refl) (λ _. refl) (λ _. refl) (λ h. absurd (omega arith)) (λ h. absurd (omega arith)) (λ h. absurd (omega arith)) (λ n h. absurd (omega arith)) tag

pub end_given : (tag payload : ℕ) (f : Value → Evaluated Value) → 5 ≤ tag → given_of tag payload ≡ after (given_of tag payload) f
unfolding given_of
end_given tag payload f = by_number (λ t. 5 ≤ t → given_of t payload ≡ after (given_of t payload) f)
    (λ h. absurd (omega arith)) (λ h. absurd (omega arith)) (λ h. absurd (omega arith)) (λ h. absurd (omega arith)) (λ h. absurd (omega arith)) (λ _. refl) (λ _. refl) (λ _. refl) (λ n h. refl) tag

-- 5 and what has no line
pub stuck_given : (tag payload : ℕ) → 5 ≤ tag → (tag ≡ 6 → ⊥) → (tag ≡ 7 → ⊥) → ◌≡◌ {A = Evaluated Value} (stuck (payload % 65536)) (given_of tag payload)
unfolding given_of
stuck_given tag payload = by_number (λ t. 5 ≤ t → (t ≡ 6 → ⊥) → (t ≡ 7 → ⊥) → ◌≡◌ {A = Evaluated Value} (stuck (payload % 65536)) (given_of t payload))
    (λ h. absurd (omega arith)) (λ h. absurd (omega arith)) (λ h. absurd (omega arith)) (λ h. absurd (omega arith)) (λ h. absurd (omega arith)) (λ h a b. refl) (λ h a b. absurd (a refl)) (λ h a b. absurd (b refl)) (λ n h a b. refl) tag

-- ════ Values of another type ════

pub no_integer : (k tag payload : ℕ) (f : ℤ → Evaluated Value) → (tag ≡ 2 → ⊥) → stuck k ≡ want_integer k (value_of tag payload) f
unfolding value_of
no_integer k tag payload f = by_number (λ t. (t ≡ 2 → ⊥) → stuck k ≡ want_integer k (value_of t payload) f)
    (λ _. refl) (λ _. refl) (λ h. absurd (h refl)) (λ _. refl) (λ _. refl) (λ _. refl) (λ _. refl) (λ _. refl) (λ n _. refl) tag

pub no_bool : (k tag payload : ℕ) (f : Bool → Evaluated Value) → (tag ≡ 1 → ⊥) → stuck k ≡ want_bool k (value_of tag payload) f
unfolding value_of
no_bool k tag payload f = by_number (λ t. (t ≡ 1 → ⊥) → stuck k ≡ want_bool k (value_of t payload) f)
    (λ _. refl) (λ h. absurd (h refl)) (λ _. refl) (λ _. refl) (λ _. refl) (λ _. refl) (λ _. refl) (λ _. refl) (λ n _. refl) tag

no_text : (k tag payload : ℕ) (f : Span → Evaluated Value) → text_tag tag ≡ false → stuck k ≡ want_text k (value_of tag payload) f
unfolding value_of
no_text k tag payload f = by_number (λ t. text_tag t ≡ false → stuck k ≡ want_text k (value_of t payload) f)
    (λ _. refl) (λ _. refl) (λ _. refl) (λ h. never (sym h)) (λ h. never (sym h)) (λ _. refl) (λ _. refl) (λ _. refl) (λ n _. refl) tag

text_past : (tag : ℕ) → 5 ≤ tag → text_tag tag ≡ false
text_past tag h = rw (le-ltb tag 3 (omega arith), le-ltb tag 5 h)

a_text : (tag payload : ℕ) → text_tag tag ≡ true → value_of tag payload ≡ Val.Text (span_of tag payload)
unfolding value_of
a_text tag payload = by_number (λ t. text_tag t ≡ true → value_of t payload ≡ Val.Text (span_of t payload))
    never never never (λ _. refl) (λ _. refl) never never never (λ n h. never (sym (text_past (eight n) (omega arith)) ∙ h)) tag

-- ════ Equal ════

module _ (m l : List ℕ) (k vt vp wt wp : ℕ) where
  pub equal_integers : vt ≡ 2 → wt ≡ 2 → truth (same_integer (integer_of vp) (integer_of wp)) ≡ equal m l k (value_of vt vp) (value_of wt wp)
  unfolding value_of equal
  equal_integers e f = rw (e, f)

  pub equal_no_integer : vt ≡ 2 → (wt ≡ 2 → ⊥) → stuck k ≡ equal m l k (value_of vt vp) (value_of wt wp)
  unfolding value_of equal
  equal_no_integer e f = rw e (no_integer k wt wp _ f)

  pub equal_bools : vt ≡ 1 → wt ≡ 1 → truth (beq (eqb vp 1) (eqb wp 1)) ≡ equal m l k (value_of vt vp) (value_of wt wp)
  unfolding value_of equal
  equal_bools e f = rw (e, f)

  pub equal_no_bool : vt ≡ 1 → (wt ≡ 1 → ⊥) → stuck k ≡ equal m l k (value_of vt vp) (value_of wt wp)
  unfolding value_of equal
  equal_no_bool e f = rw e (no_bool k wt wp _ f)

  pub equal_texts : text_tag vt ≡ true → text_tag wt ≡ true → truth (same_texts m l (span_of vt vp) (span_of wt wp)) ≡ equal m l k (value_of vt vp) (value_of wt wp)
  unfolding equal
  equal_texts e f = rw (a_text vt vp e, a_text wt wp f)

  pub equal_no_text : text_tag vt ≡ true → text_tag wt ≡ false → stuck k ≡ equal m l k (value_of vt vp) (value_of wt wp)
  unfolding equal
  equal_no_text e f = rw (a_text vt vp e) (no_text k wt wp _ f)

pub equal_none : (m l : List ℕ) (k vt vp : ℕ) (w : Value) → (vt ≡ 2 → ⊥) → (vt ≡ 1 → ⊥) → text_tag vt ≡ false → stuck k ≡ equal m l k (value_of vt vp) w
unfolding value_of equal
equal_none m l k vt vp w = by_number (λ t. (t ≡ 2 → ⊥) → (t ≡ 1 → ⊥) → text_tag t ≡ false → stuck k ≡ equal m l k (value_of t vp) w)
    (λ a b c. refl) (λ a b c. absurd (b refl)) (λ a b c. absurd (a refl)) (λ a b c. never (sym c)) (λ a b c. never (sym c)) (λ a b c. refl) (λ a b c. refl) (λ a b c. refl)
    (λ n a b c. refl) vt

-- ════ Operators ════

-- past the numbers of the others
pub operator_or : (j : ℕ) → (j ≡ 0 → ⊥) → (j ≡ 1 → ⊥) → (j ≡ 2 → ⊥) → (j ≡ 3 → ⊥) → (j ≡ 4 → ⊥) → (j ≡ 5 → ⊥) → (j ≡ 6 → ⊥) → Or ≡ operator_of j
unfolding operator_of
operator_or j = by_number (λ i. (i ≡ 0 → ⊥) → (i ≡ 1 → ⊥) → (i ≡ 2 → ⊥) → (i ≡ 3 → ⊥) → (i ≡ 4 → ⊥) → (i ≡ 5 → ⊥) → (i ≡ 6 → ⊥) → Or ≡ operator_of i)
    (λ n0 n1 n2 n3 n4 n5 n6. absurd (n0 refl)) (λ n0 n1 n2 n3 n4 n5 n6. absurd (n1 refl)) (λ n0 n1 n2 n3 n4 n5 n6. absurd (n2 refl)) (λ n0 n1 n2 n3 n4 n5 n6. absurd (n3 refl))
    (λ n0 n1 n2 n3 n4 n5 n6. absurd (n4 refl)) (λ n0 n1 n2 n3 n4 n5 n6. absurd (n5 refl)) (λ n0 n1 n2 n3 n4 n5 n6. absurd (n6 refl)) (λ n0 n1 n2 n3 n4 n5 n6. refl)
    (λ n n0 n1 n2 n3 n4 n5 n6. refl) j

-- an operator that is none of these takes no Integers, or takes others too
pub not_of_integers : (op : Operator) (k : ℕ) (a b : ℤ) → ((how : Arithmetic) → op ≡ Calculate how → ⊥) → (op ≡ Greater → ⊥) → stuck k ≡ of_integers op k a b
unfolding of_integers
not_of_integers (Calculate how) k a b p q = absurd (p how refl)
not_of_integers Equal k a b p q = refl
not_of_integers Greater k a b p q = absurd (q refl)
not_of_integers And k a b p q = refl
not_of_integers Or k a b p q = refl

module _ (k vt vp wt wp : ℕ) (f : ℤ → ℤ → Evaluated Value) where
  pub two_integers : integer_tags vt wt ≡ true → f (integer_of vp) (integer_of wp) ≡ integers k (value_of vt vp) (value_of wt wp) f
  unfolding value_of
  two_integers both = by_left (eqb vt 2) refl
    where
      by_left : (t : Bool) → eqb vt 2 ≡ t → f (integer_of vp) (integer_of wp) ≡ integers k (value_of vt vp) (value_of wt wp) f
      by_left true e = rw (eqb-true vt 2 e, eqb-true wt 2 (rw e at both))
      by_left false e = never (rw e at both)

  pub not_two_integers : integer_tags vt wt ≡ false → stuck k ≡ integers k (value_of vt vp) (value_of wt wp) f
  unfolding value_of
  not_two_integers off = by_left (eqb vt 2) refl
    where
      by_left : (t : Bool) → eqb vt 2 ≡ t → stuck k ≡ integers k (value_of vt vp) (value_of wt wp) f
      by_left true e = rw (eqb-true vt 2 e) (no_integer k wt wp (f (integer_of vp)) (eqb-false wt 2 (rw e at off)))
      by_left false e = no_integer k vt vp _ (eqb-false vt 2 e)

pub right_bool : (k wp : ℕ) {wt : ℕ} → wt ≡ 1 → given_of 1 wp ≡ want_bool k (value_of wt wp) truth
unfolding given_of value_of
right_bool k wp e = rw e

pub negated_bool : (k payload : ℕ) {tag : ℕ} → tag ≡ 1 → truth (not (eqb payload 1)) ≡ negated k (value_of tag payload)
unfolding value_of negated
negated_bool k payload e = rw e

pub negated_other : (k tag payload : ℕ) → (tag ≡ 1 → ⊥) → stuck k ≡ negated k (value_of tag payload)
unfolding negated
negated_other k tag payload e = no_bool k tag payload _ e

-- ════ Leaves ════

module _ (words : List ℕ) (s k : ℕ) where
  pub slot_none : 16 ≤ s → stuck k ≡ present k (slot_at (take 32 words) s)
  slot_none h = rw (slot_past (take 32 words) s (omega (arith, length-take 32 words)))

  pub slot_short : s < 16 → length words ≤ 2 * s + 1 → stuck k ≡ present k (slot_at (take 32 words) s)
  slot_short h g = rw (slot_among_first 16 words s h, slot_past words s g)

  pub slot_there : s < 16 → 2 * s + 1 < length words → present k (value_of (get_or words (2 * s) 0) (get_or words (2 * s + 1) 0)) ≡ present k (slot_at (take 32 words) s)
  slot_there h g = rw (slot_among_first 16 words s h, slot_read words s g)

pub present_unset : (k payload : ℕ) {tag : ℕ} → tag ≡ 0 → stuck k ≡ present k (value_of tag payload)
unfolding value_of
present_unset k payload e = rw e

pub present_other : (k tag payload : ℕ) → 4 < tag → stuck k ≡ present k (value_of tag payload)
unfolding value_of
present_other k tag payload = by_number (λ t. 4 < t → stuck k ≡ present k (value_of t payload))
    (λ h. absurd (omega arith)) (λ h. absurd (omega arith)) (λ h. absurd (omega arith)) (λ h. absurd (omega arith)) (λ h. absurd (omega arith)) (λ _. refl) (λ _. refl) (λ _. refl) (λ n _. refl) tag

pub present_set : (k tag payload : ℕ) → (tag ≡ 0 → ⊥) → tag < 5 → given_of tag payload ≡ present k (value_of tag payload)
unfolding value_of given_of
present_set k tag payload = by_number (λ t. (t ≡ 0 → ⊥) → t < 5 → given_of t payload ≡ present k (value_of t payload))
    (λ n h. absurd (n refl)) (λ n h. refl) (λ n h. refl) (λ n h. refl) (λ n h. refl) (λ n h. absurd (omega arith)) (λ n h. absurd (omega arith)) (λ n h. absurd (omega arith))
    (λ i n h. absurd (omega arith)) tag

module _ (slots : Slots) (k a b : ℕ) where
  pub leaf_bool : {kind : ℕ} → kind ≡ 16 → truth (eqb a 1) ≡ leaf_of slots kind k a b
  unfolding leaf_of
  leaf_bool e = rw e

  leaf_integer : {kind : ℕ} → kind ≡ 17 → given_of 2 (a * 65536 + b) ≡ leaf_of slots kind k a b
  unfolding leaf_of given_of
  leaf_integer e = rw e (rw (signed_is a b))

  leaf_text : {kind : ℕ} → b < 65536 → kind ≡ 18 → given_of 4 (a * 65536 + b) ≡ leaf_of slots kind k a b
  unfolding leaf_of given_of
  leaf_text h e =
      let d : (a * 65536 + b) / 65536 ≡ a = omega arith in
      let r : (a * 65536 + b) % 65536 ≡ b = omega arith in
      rw (e, d, r)

  -- an Integer or a Text
  pub leaf_words : (kind : ℕ) → b < 65536 → 17 ≤ kind → kind < 19 → given_of (2 * (kind - 16)) (a * 65536 + b) ≡ leaf_of slots kind k a b
  leaf_words kind h low high = by_test (eqb kind 17) refl
    where
      by_test : (t : Bool) → eqb kind 17 ≡ t → given_of (2 * (kind - 16)) (a * 65536 + b) ≡ leaf_of slots kind k a b
      by_test true e = let is = eqb-true kind 17 e in let tag : 2 * (kind - 16) ≡ 2 = omega arith in rw tag (leaf_integer is)
      by_test false e = let is : kind ≡ 18 = omega (arith, eqb-false kind 17 e) in let tag : 2 * (kind - 16) ≡ 4 = omega arith in rw tag (leaf_text h is)

  pub leaf_slot : {kind : ℕ} → kind ≡ 19 → present k (get_or slots a Val.Absent) ≡ leaf_of slots kind k a b
  unfolding leaf_of
  leaf_slot e = rw e

  -- below 16
  pub leaf_other : (kind : ℕ) → kind < 16 → truth false ≡ leaf_of slots kind k a b
  unfolding leaf_of
  leaf_other kind h =
      rw (ne_eqb kind 16 (λ e. omega arith), ne_eqb kind 17 (λ e. omega arith), ne_eqb kind 18 (λ e. omega arith), ne_eqb kind 19 (λ e. omega arith))

-- ════ Bools and numbers that code has made ════

pub truth_is : (b : Bool) → given_of 1 (bool_byte b) ≡ truth b
unfolding given_of
truth_is true = refl
truth_is false = refl

signed_fits : (x : ℤ) → signed32 x ≡ true → SFits w32 x
signed_fits (pos n) h = record { sfits = omega (arith, leb-true n 2147483647 h) }
signed_fits (negsuc n) h = record { sfits = omega (arith, leb-true (n + 1) 2147483648 h) }

fitting_fits : (x z : ℤ) → fitting x ≡ Ok z → SFits w32 z
unfolding fitting
fitting_fits x z h = by_test (signed32 x) refl
  where
    by_test : (t : Bool) → signed32 x ≡ t → SFits w32 z
    by_test true e = let same : x ≡ z = cc (rw e at h) in rw (← same) (signed_fits x e)
    by_test false e = let z : ◌≡◌ {A = ℕ} 0 1 = cc (rw e at h) in absurd (omega arith)

-- a number that an operator gives is a 32-bit one
pub calculated_fits : (op : Arithmetic) (a b z : ℤ) → calculated op a b ≡ Ok z → SFits w32 z
unfolding calculated quotient
calculated_fits Add a b z h = fitting_fits _ z h
calculated_fits Subtract a b z h = fitting_fits _ z h
calculated_fits Multiply a b z h = fitting_fits _ z h
calculated_fits Divide a (pos zero) z h = let z : ◌≡◌ {A = ℕ} 0 1 = cc in absurd (omega arith)
calculated_fits Divide a (pos (suc b)) z h = fitting_fits _ z h
calculated_fits Divide a (negsuc b) z h = fitting_fits _ z h

module _ (k : ℕ) where
  pub number_is : (z : ℤ) → SFits w32 z → {n : Number} {p : ℕ} → n ≡ Ok z → p ≡ word_of z → given_of 2 p ≡ number_at k n
  unfolding given_of
  number_is z f e q = rw (e, q, integer_word z f)

  pub number_overflow : k < 65536 → {n : Number} {why : Fault} → n ≡ Err why → why ≡ Overflow → given_of 6 k ≡ number_at k n
  unfolding given_of
  number_overflow h e f = let s : k % 65536 ≡ k = omega arith in rw (e, f, s)

  pub number_zero_divisor : k < 65536 → {n : Number} {why : Fault} → n ≡ Err why → why ≡ ZeroDivisor → given_of 7 k ≡ number_at k n
  unfolding given_of
  number_zero_divisor h e f = let s : k % 65536 ≡ k = omega arith in rw (e, f, s)
