-- The whole walk over an expression: what it needs to go on, and what it gives when it rests. Assumes nothing.
use mathlib.Core.Path.{◌≡◌, refl, sym, ◌∙◌}
use mathlib.Core.Bool.{Bool, true, false}
use mathlib.Core.List.{List, ◌++◌}
use Prim.Native.Nat.{ℕ, ◌-◌, ◌<◌, ◌≤◌}
use native.Mathlib.Omega.{arith}
use borrow.Author.Tests.{leb-true, leb-false, ltb-true, ltb-false}
use lib.Dec.{leb}
use lib.ListN.{length, get_or-append}
use Rattle.laws.specs.Pile.{Alike, comes_to, through, through_alike, unmoved}
use Rattle.laws.specs.Tests.{never}
use Rattle.grammar.specs.declared.Value.{Value}
use Rattle.grammar.specs.Values.{Evaluated}
use Rattle.table.specs.declared.records.Head.{Head}
use Rattle.expressions.specs.declared.results.Given.{Given}
use Rattle.expressions.specs.declared.walks.Walk.{Walk}
use Rattle.expressions.specs.Given.{given, leaf_of}
use Rattle.expressions.specs.Walks.{Asked, work_at, Filled, gives_at, came, resolved_at, walking, operator_begins, goes_on, Seen, Rested}
use Rattle.expressions.proofs.Nodes.{leaf_gives, operator_gives}
use Rattle.expressions.proofs.Walking.{end_stays}
use Rattle.expressions.proofs.Halves.{found_walk}

-- ════ A walk that goes on ════

module _ (room : ℕ) (w : Walk) (on : goes_on room w ≡ true) where
  pub room_above : w.begins ≡ true → w.top < room
  unfolding goes_on
  room_above begins = ltb-true w.top room (rw begins at on)

  pub value_waited_for : w.begins ≡ false → (w.g.tag < 5) × (0 < w.top)
  unfolding goes_on
  value_waited_for found = by_test (leb 5 w.g.tag) refl
    where
      by_test : (t : Bool) → leb 5 w.g.tag ≡ t → (w.g.tag < 5) × (0 < w.top)
      by_test true e = never (rw (found, e) at on)
      by_test false e = (omega (arith, leb-false 5 w.g.tag e), ltb-true 0 w.top (rw (found, e) at on))

-- ════ A walk that rests ════

module _ (A : Asked) where
  -- a result was found, and is the walk's
  rests_with : (room : ℕ) (pile : List ℕ) (w : Walk) → goes_on room w ≡ false → w.begins ≡ false → given w.g ≡ comes_to (resolved_at A) (walking A pile w)
  unfolding goes_on comes_to through
  rests_with room pile w off found = by_test (leb 5 w.g.tag) refl
    where
      by_test : (t : Bool) → leb 5 w.g.tag ≡ t → given w.g ≡ comes_to (resolved_at A) (walking A pile w)
      by_test true e =
          rw (found_walk A pile w found) (sym (unmoved (resolved_at A) pile w.top (given w.g) (λ i f. sym (end_stays A i (work_at f) w.g (leb-true 5 w.g.tag e)))))
      by_test false e = let z : w.top ≡ 0 = omega (arith, ltb-false 0 w.top (rw (found, e) at off)) in rw (found_walk A pile w found, z)

  -- in a longer pile, which has room for all levels
  module _ (pile : List ℕ) {longer later : List ℕ} {w v : Walk} (on : Rested A longer w later v) (alike : Alike (length pile) pile longer) where
    in_longer : w.top ≤ length pile → comes_to (resolved_at A) (walking A longer w) ≡ comes_to (resolved_at A) (walking A pile w)
    unfolding comes_to walking
    in_longer room = through_alike (resolved_at A) pile longer w.top _ (λ i h. alike i (omega arith))

    -- no operator begins when it rests: it would be on a level that isn't looked at
    found_there : 0 < A.levels → A.levels ≤ length longer → (d : Bool) → v.begins ≡ d → v.begins ≡ false
    unfolding goes_on
    found_there some enough false found = found
    found_there some enough true begins =
        let high = ltb-false v.top (length longer) (rw begins at on.rests) in
        absurd (omega (arith, on.filled.each (v.top - 1) (omega arith)))

    pub long_enough : w.top ≤ length pile → 0 < A.levels → A.levels ≤ length longer → given v.g ≡ comes_to (resolved_at A) (walking A pile w)
    long_enough room some enough = rests_with (length longer) later v on.rests (found_there some enough v.begins refl) ∙ on.same ∙ in_longer room

  -- from node k
  module _ {k : ℕ} {h : Head} (seen : Seen A.words A.levels 0 k h) where
    whole : gives_at A 0 k ≡ came A k
    whole = let z : A.levels - 0 ≡ A.levels = omega arith in rw z

    -- a leaf, without a walk
    pub leaf_only : (g : Given) → given g ≡ leaf_of A.slots h.kind k h.a h.b → h.kind < 20 → given g ≡ came A k
    leaf_only g same low = leaf_gives A seen g same low ∙ whole

    module _ {pile later : List ℕ} {w : Walk} (on : Rested A pile (operator_begins h k 0) later w) (low : 20 ≤ h.kind) where
      from : comes_to (resolved_at A) (walking A pile (operator_begins h k 0)) ≡ came A k
      unfolding comes_to walking through
      from = operator_gives A seen low ∙ whole

      pub then_deeper : {a : Evaluated Value} → a ≡ comes_to (resolved_at A) (walking A later w) → a ≡ came A k
      then_deeper e = e ∙ on.same ∙ from

      pub short_enough : w.begins ≡ false → given w.g ≡ came A k
      short_enough found = then_deeper (rests_with (length pile) later w on.rests found)

-- ════ Piles ════

pub none_filled : (levels : ℕ) (pile : List ℕ) → Filled levels pile 0
none_filled levels pile = record { room = omega arith; each = λ i h. absurd (omega arith) }

-- put before others
pub alike_before : (pile others : List ℕ) {put : List ℕ} → put ≡ pile → Alike (length pile) pile (put ++ others)
alike_before pile others {put} e i h = rw e (get_or-append pile others 0 i h)
