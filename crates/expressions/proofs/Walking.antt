-- The steps of the walk over an expression: each comes to the same result, and has less before it. Assumes nothing.
use mathlib.Core.Path.{◌≡◌, refl, sym, ap, ◌∙◌}
use mathlib.Core.Bool.{Bool, true, false, cond, beq}
use mathlib.Core.List.{List, []}
use Prim.Native.Nat.{ℕ, ◌+◌, ◌*◌, ◌-◌, ◌/◌, ◌%◌, ◌<◌, ◌≤◌}
use native.Mathlib.Omega.{arith}
use borrow.Author.Tests.{lt-ltb, le-ltb, lt-leb, ltb-true, ltb-false, leb-false, eqb-true, eqb-false}
use lib.Dec.{ltb, leb, eqb}
use lib.ListN.{get_or, set, length}
use Rattle.laws.specs.Pile.{nearer, opened, closed, heavy, burden, heavy_two, heavy_one}
use Rattle.laws.specs.Tests.{never}
use Rattle.grammar.specs.declared.Value.{Value}
use Rattle.grammar.specs.declared.Value.TheVariants as Val
use Rattle.grammar.specs.Values.{Evaluated, value, after, stuck, truth, look_left, operate, negated}
use Rattle.table.specs.declared.records.Head.{Head}
use Rattle.values.specs.Slots.{value_of}
use Rattle.expressions.specs.declared.results.Given.{Given}
use Rattle.expressions.specs.Given.{given_of, given, held, operator_of}
use Rattle.expressions.specs.Walks.{Asked, Work, left, right, opposing, work_of, work_in, at_work, work_at, Filled, gives_at, resolved, kept, owed, Goes, beginning, served, resting, turning, looks_no_further, Seen}
use Rattle.expressions.proofs.Givens.{by_number, value_given, end_given, no_bool}
use Rattle.expressions.proofs.Nodes.{operator_gives}

-- ════ Operators at work, in numbers ════

halves : (upper lower : ℕ) → lower < 4294967296 → work_at (at_work upper lower) ≡ work_in upper lower
halves upper lower h =
    let u : at_work upper lower / 4294967296 ≡ upper = omega arith in
    let l : at_work upper lower % 4294967296 ≡ lower = omega arith in
    rw (u, l)

module _ (upper lower : ℕ) where
  pub as_right : 0 < upper / 16777216 → work_in upper lower ≡ right (upper % 65536) (operator_of (upper / 65536 % 256)) (value_of (upper / 16777216 - 1) lower)
  unfolding work_in
  as_right h = rw (lt-ltb 0 (upper / 16777216) h)

  pub as_first : upper / 16777216 ≤ 0 → work_in upper lower ≡ work_of (upper / 65536 % 256) (upper % 65536) (lower % 65536)
  unfolding work_in
  as_first h = rw (le-ltb 0 (upper / 16777216) h)

module _ (j k : ℕ) (h : k < 65536) (i : j < 256) where
  pub at_first : (b : ℕ) → b < 65536 → work_at (at_work (j * 65536 + k) b) ≡ work_of j k b
  at_first b g =
      let upper = j * 65536 + k in
      let d : upper / 65536 ≡ j = omega arith in
      let o : j % 256 ≡ j = omega arith in
      let n : upper % 65536 ≡ k = omega arith in
      let s : b % 65536 ≡ b = omega arith in
      halves upper b (omega arith) ∙ as_first upper b (omega arith) ∙ rw (d, o, n, s)

  pub at_right : (tag payload : ℕ) → tag < 5 → payload < 4294967296
      → work_at (at_work ((tag + 1) * 16777216 + j * 65536 + k) payload) ≡ right k (operator_of j) (value_of tag payload)
  at_right tag payload g f =
      let upper = (tag + 1) * 16777216 + j * 65536 + k in
      let d : upper / 65536 ≡ (tag + 1) * 256 + j = omega arith in
      let e : ((tag + 1) * 256 + j) % 256 ≡ j = omega arith in
      let r : upper % 65536 ≡ k = omega arith in
      let q : upper / 16777216 ≡ tag + 1 = omega arith in
      let s : tag + 1 - 1 ≡ tag = omega arith in
      halves upper payload f ∙ as_right upper payload (omega arith) ∙ rw (r, d, e, q, s)

-- ════ Weights ════

module _ (A : Asked) where
  kept_some : (i : ℕ) (e : Work) → 0 < kept A i e
  unfolding kept
  kept_some i (left k op b) = omega arith
  kept_some i (right k op v) = omega arith
  kept_some i (opposing k) = omega arith

  -- an operator that begins weighs less than the node it is
  begins_lighter : (i : ℕ) (e : Work) → i < A.levels → 2 * heavy (A.levels - (i + 1)) + owed A i e < 2 * heavy (A.levels - i)
  unfolding kept burden
  begins_lighter i (left k op b) h = let l : A.levels - (i + 1) < A.levels - i = omega arith in let p = heavy_two l l in omega arith
  begins_lighter i (right k op v) h = let l : A.levels - (i + 1) < A.levels - i = omega arith in let p = heavy_one 0 l in omega arith
  begins_lighter i (opposing k) h = let l : A.levels - (i + 1) < A.levels - i = omega arith in let p = heavy_one 0 l in omega arith

  -- an end is a result that no operator changes
  pub end_stays : (i : ℕ) (e : Work) (g : Given) → 5 ≤ g.tag → given g ≡ resolved A i e (given g)
  unfolding resolved
  end_stays i (left k op b) g h = end_given g.tag g.payload _ h
  end_stays i (right k op v) g h = end_given g.tag g.payload _ h
  end_stays i (opposing k) g h = end_given g.tag g.payload _ h

pub held_given : (g : Given) → g.tag < 5 → given g ≡ value (held g)
held_given g h = value_given g.tag g.payload h

-- ════ The left value ════

pub as_left : (j k b : ℕ) → j < 8 → work_of j k b ≡ left k (operator_of j) b
as_left j k b h = rw (lt-ltb j 8 h)

module _ (m l : List ℕ) (k : ℕ) (rest : Evaluated Value) where
  -- and is 6, or is 7
  abbrev looked : ℕ → Value → Evaluated Value
  looked j v = look_left m l (operator_of j) k v rest

  look_eager : (j : ℕ) (v : Value) → j < 6 → rest ≡ looked j v
  unfolding operator_of look_left
  look_eager j v = by_number (λ i. i < 6 → rest ≡ look_left m l (operator_of i) k v rest)
      (λ _. refl) (λ _. refl) (λ _. refl) (λ _. refl) (λ _. refl) (λ _. refl) (λ h. absurd (omega arith)) (λ h. absurd (omega arith)) (λ n h. absurd (omega arith)) j

  look_no_bool : (j tag payload : ℕ) → 6 ≤ j → j < 8 → (tag ≡ 1 → ⊥) → stuck k ≡ looked j (value_of tag payload)
  unfolding operator_of look_left
  look_no_bool j tag payload low high n = by_test (eqb j 7) refl
    where
      by_test : (t : Bool) → eqb j 7 ≡ t → stuck k ≡ looked j (value_of tag payload)
      by_test true e = rw (eqb-true j 7 e) (no_bool k tag payload _ n)
      by_test false e = let s : j ≡ 6 = omega (arith, eqb-false j 7 e) in rw s (no_bool k tag payload _ n)

  abbrev chosen : Bool → Bool → Evaluated Value
  chosen b or = cond (beq b or) (truth b) rest

  look_bool : (j payload : ℕ) → 6 ≤ j → j < 8 → chosen (eqb payload 1) (eqb j 7) ≡ looked j (Val.Bool (eqb payload 1))
  unfolding operator_of look_left
  look_bool j payload low high = by_test (eqb j 7) refl (eqb payload 1)
    where
      by_test : (t : Bool) → eqb j 7 ≡ t → (b : Bool) → chosen b (eqb j 7) ≡ looked j (Val.Bool b)
      by_test true e true = rw (eqb-true j 7 e)
      by_test true e false = rw (eqb-true j 7 e)
      by_test false e true = let s : j ≡ 6 = omega (arith, eqb-false j 7 e) in rw s
      by_test false e false = let s : j ≡ 6 = omega (arith, eqb-false j 7 e) in rw s

  look_decided : (j tag payload : ℕ) → 6 ≤ j → j < 8 → tag ≡ 1 → beq (eqb payload 1) (eqb j 7) ≡ true → given_of 1 payload ≡ looked j (value_of tag payload)
  unfolding given_of value_of
  look_decided j tag payload low high e d = rw e (rw d at (look_bool j payload low high))

  look_open : (j tag payload : ℕ) → 6 ≤ j → j < 8 → tag ≡ 1 → beq (eqb payload 1) (eqb j 7) ≡ false → rest ≡ looked j (value_of tag payload)
  unfolding value_of
  look_open j tag payload low high e d = rw e (rw d at (look_bool j payload low high))

module _ (j : ℕ) (v : Given) where
  -- in its order: how the test comes out
  no_further : 6 ≤ j → j < 8 → v.tag ≡ 1 → looks_no_further j v ≡ beq (eqb v.payload 1) (eqb j 7)
  no_further low high e = rw (le-ltb j 6 low, lt-leb 8 j high, e)

  -- the right operand is wanted
  pub wants_right : looks_no_further j v ≡ false → (m l : List ℕ) (k : ℕ) (rest : Evaluated Value) → (j < 8) × (rest ≡ look_left m l (operator_of j) k (held v) rest)
  wants_right off m l k rest = by_eager (ltb j 6) refl
    where
      by_bool : 6 ≤ j → j < 8 → (t : Bool) → eqb v.tag 1 ≡ t → (j < 8) × (rest ≡ look_left m l (operator_of j) k (held v) rest)
      by_bool low high true e =
          (high, look_open m l k rest j v.tag v.payload low high (eqb-true v.tag 1 e) (sym (no_further low high (eqb-true v.tag 1 e)) ∙ off))
      by_bool low high false e = never (sym (rw (le-ltb j 6 low, lt-leb 8 j high, e) at off))

      by_not : 6 ≤ j → (t : Bool) → leb 8 j ≡ t → (j < 8) × (rest ≡ look_left m l (operator_of j) k (held v) rest)
      by_not low true e = never (sym (rw (le-ltb j 6 low, e) at off))
      by_not low false e = by_bool low (omega (arith, leb-false 8 j e)) (eqb v.tag 1) refl

      by_eager : (t : Bool) → ltb j 6 ≡ t → (j < 8) × (rest ≡ look_left m l (operator_of j) k (held v) rest)
      by_eager true e = let h = ltb-true j 6 e in (omega arith, look_eager m l k rest j (held v) h)
      by_eager false e = by_not (ltb-false j 6 e) (leb 8 j) refl

  pub below_eight : looks_no_further j v ≡ false → j < 8
  below_eight off = (wants_right off [] [] 0 (given v)).0

  -- and where it isn't
  not_eager : looks_no_further j v ≡ true → 6 ≤ j
  not_eager on = by_eager (ltb j 6) refl
    where
      by_eager : (t : Bool) → ltb j 6 ≡ t → 6 ≤ j
      by_eager true e = never (rw e at on)
      by_eager false e = ltb-false j 6 e

  module _ (k b : ℕ) (A : Asked) (n : ℕ) where
    pub alone_not : {r : Evaluated Value} → 8 ≤ j → r ≡ negated k (held v) → r ≡ resolved A n (work_of j k b) (value (held v))
    unfolding resolved
    alone_not h same = rw (le-ltb j 8 h) same

    pub alone_stuck : {r : Evaluated Value} → looks_no_further j v ≡ true → j < 8 → (v.tag ≡ 1 → ⊥) → r ≡ stuck k → r ≡ resolved A n (work_of j k b) (value (held v))
    unfolding resolved
    alone_stuck on high e same =
        rw (as_left j k b high) (same ∙ look_no_bool A.setting.message A.setting.literals k _ j v.tag v.payload (not_eager on) high e)

    pub alone_decided : looks_no_further j v ≡ true → j < 8 → v.tag ≡ 1 → given_of 1 v.payload ≡ resolved A n (work_of j k b) (value (held v))
    unfolding resolved
    alone_decided on high e =
        let low = not_eager on in
        rw (as_left j k b high) (look_decided A.setting.message A.setting.literals k _ j v.tag v.payload low high e (sym (no_further low high e) ∙ on))

-- ════ Steps ════

abbrev operator : Head → (k : ℕ) → Work
operator h k = work_of (h.kind - 20) k h.b

module _ (A : Asked) (pile : List ℕ) (n : ℕ) (filled : Filled A.levels pile n) where
  module _ (e : Work) (a : ℕ) (g : Given) (same : given g ≡ gives_at A (n + 1) a) where
    -- the left or only operand has its value, or ends the run
    pub began_left : g.tag < 5 → Goes A (beginning A pile n e a) (served A pile n e (value (held g)))
    began_left h = nearer (beginning A pile n e a) filled (ap (resolved A n e) (sym (held_given g h) ∙ same)) (omega arith)

    pub began_end : 5 ≤ g.tag → Goes A (beginning A pile n e a) (resting A pile n (given g))
    began_end h = nearer (beginning A pile n e a) filled (end_stays A n e g h ∙ ap (resolved A n e) same) (omega arith)

  -- the right operand has, or ends it
  module _ (j k b : ℕ) (v g : Given) (same : given g ≡ gives_at A (n + 1) b) where
    pub turned_both : g.tag < 5 → Goes A (turning A pile n j k b v) (served A pile n (right k (operator_of j) (held v)) (value (held g)))
    unfolding resolved kept
    turned_both h = nearer (turning A pile n j k b v) filled (ap (resolved A n (right k (operator_of j) (held v))) (sym (held_given g h) ∙ same)) (omega arith)

    pub turned_end : 5 ≤ g.tag → Goes A (turning A pile n j k b v) (resting A pile n (given g))
    unfolding resolved kept
    turned_end h =
        nearer (turning A pile n j k b v) filled
        (end_stays A n (right k (operator_of j) (held v)) g h ∙ ap (resolved A n (right k (operator_of j) (held v))) same)
        (omega arith)

  -- an operand is an operator, and begins
  module _ {x : ℕ} {h : Head} (s : Seen A.words A.levels (n + 1) x h) (low : 20 ≤ h.kind) (fits : n < length pile) where
    pub began_work : (f : ℕ) (e : Work) → work_at f ≡ e → Goes A (beginning A pile n e x) (beginning A (set pile n f) (n + 1) (operator h x) h.a)
    began_work f e is =
        opened (beginning A pile n e x) filled fits (s.within low) (rw (is, operator_gives A s low)) (rw is (omega (arith, begins_lighter A (n + 1) (operator h x) (s.within low))))

    pub turned_work : (f j k : ℕ) (v : Given) → work_at f ≡ right k (operator_of j) (held v) → Goes A (turning A pile n j k x v) (beginning A (set pile n f) (n + 1) (operator h x) h.a)
    unfolding resolved kept
    turned_work f j k v is =
        opened (turning A pile n j k x v) filled fits (s.within low) (rw is (ap (λ (r : Evaluated Value). after r (λ w. operate A.setting.message A.setting.literals (operator_of j) k (held v) w)) (operator_gives A s low)))
        (rw is (omega (arith, begins_lighter A (n + 1) (operator h x) (s.within low))))

  -- an operator with its left or only value looks no further, or it has both values
  pub served_found : (e : Work) (r x : Evaluated Value) → x ≡ resolved A n e r → Goes A (served A pile n e r) (resting A pile n x)
  served_found e r x same = nearer (served A pile n e r) filled same (kept_some A n e)

-- a result goes to the number on top
pub popped : (A : Asked) (pile : List ℕ) (top : ℕ) (r : Evaluated Value) → Filled A.levels pile top → 0 < top → Goes A (resting A pile top r) (served A pile (top - 1) (work_at (get_or pile (top - 1) 0)) r)
popped A pile top r filled some = closed (resting A pile top r) filled some refl (omega arith)
