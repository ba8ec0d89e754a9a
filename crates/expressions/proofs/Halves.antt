-- The two halves of a step of the walk over an expression, as code makes them. Assumes nothing.
use mathlib.Core.Path.{◌≡◌}
use mathlib.Core.Bool.{true, false}
use mathlib.Core.List.{List}
use Prim.Native.Nat.{ℕ, ◌+◌, ◌*◌, ◌-◌, ◌/◌, ◌%◌, ◌<◌, ◌≤◌}
use native.Mathlib.Omega.{arith}
use lib.ListN.{get_or, length}
use Rattle.laws.specs.Pile.{Walking, onward_again}
use Rattle.grammar.specs.declared.Value.{Value}
use Rattle.grammar.specs.Values.{Evaluated, value, operate}
use Rattle.table.specs.declared.records.Head.{Head}
use Rattle.expressions.specs.declared.results.Given.{Given}
use Rattle.expressions.specs.declared.walks.Halfway.{Halfway}
use Rattle.expressions.specs.declared.walks.Walk.{Walk}
use Rattle.expressions.specs.declared.walks.Way.{Way}
use Rattle.expressions.specs.declared.walks.Way.TheVariants.{Begins, Found, Left, Both}
use Rattle.expressions.specs.Given.{given, held, operator_of, leaf_of}
use Rattle.expressions.specs.Walks.{Asked, right, work_of, Filled, with_right, resolved, Goes, beginning, served, resting, turning, walking, in_way, halfway, result_found, half_found, has_left, has_both, looks_no_further, Seen, Opened, Reached, PastLeft, Steps}
use Rattle.expressions.proofs.Nodes.{leaf_gives}
use Rattle.expressions.proofs.Walking.{as_right, as_first, at_first, at_right, held_given, wants_right, as_left, began_left, began_end, began_work, turned_both, turned_end, turned_work, served_found, popped}

-- ════ Ways are apart ════

abbrev NoLeft : Way → Type 0
NoLeft way = way ≡ Left → ⊥

pub begins_apart : NoLeft Begins
begins_apart e = let z : ◌≡◌ {A = ℕ} 0 1 = cc in omega arith

pub found_apart : NoLeft Found
found_apart e = let z : ◌≡◌ {A = ℕ} 0 1 = cc in omega arith

pub both_apart : NoLeft Both
both_apart e = let z : ◌≡◌ {A = ℕ} 0 1 = cc in omega arith

-- ════ An operator begins ════

module _ (A : Asked) (pile : List ℕ) (w : Walk) where
  pub begins_walk : w.begins ≡ true → walking A pile w ≡ beginning A pile w.top (work_of w.j w.k w.b) w.a
  unfolding walking
  begins_walk e = rw e

  pub found_walk : w.begins ≡ false → walking A pile w ≡ resting A pile w.top (given w.g)
  unfolding walking
  found_walk e = rw e

module _ (A : Asked) (pile : List ℕ) (w : Walk) (begins : w.begins ≡ true) (filled : Filled A.levels pile w.top) {h : Head} (seen : Seen A.words A.levels (w.top + 1) w.a h) where
  pub entered_work : {later : List ℕ} {s : Halfway} → Opened pile w.top (w.j * 65536 + w.k) w.b w.a h later s → 20 ≤ h.kind → w.top < length pile → w.j < 256 → w.k < 65536 → w.b < 65536
      → Reached A (walking A pile w) later s
  unfolding in_way
  entered_work o low fits fj fk fb =
      rw (begins_walk A pile w begins, o.half, o.pile_is) record {
        on = began_work A pile w.top filled seen low fits _ (work_of w.j w.k w.b) (at_first w.j w.k fk fj w.b fb);
        ready = λ e. absurd (begins_apart e);
      }

  module _ (g : Given) (same : given g ≡ leaf_of A.slots h.kind w.a h.a h.b) (low : h.kind < 20) where
    pub entered_end : {s : Halfway} → s ≡ half_found g w.top → 5 ≤ g.tag → Reached A (walking A pile w) pile s
    unfolding in_way
    entered_end e end =
        rw (begins_walk A pile w begins, e) record {
          on = began_end A pile w.top filled (work_of w.j w.k w.b) w.a g (leaf_gives A seen g same low) end;
          ready = λ l. absurd (found_apart l);
        }

    pub entered_left : {s : Halfway} → s ≡ has_left w.j w.k w.b g w.top → g.tag < 5 → w.top < length pile → Reached A (walking A pile w) pile s
    unfolding in_way
    entered_left e is_value fits =
        rw (begins_walk A pile w begins, e) record {
          on = began_left A pile w.top filled (work_of w.j w.k w.b) w.a g (leaf_gives A seen g same low) is_value;
          ready = λ l. (is_value, fits);
        }

-- ════ A value was found ════

module _ (A : Asked) (pile : List ℕ) (w : Walk) (found : w.begins ≡ false) (is_value : w.g.tag < 5) (some : 0 < w.top) (filled : Filled A.levels pile w.top) where
  abbrev upper : ℕ
  upper = get_or pile (w.top - 1) 0 / 4294967296

  abbrev lower : ℕ
  lower = get_or pile (w.top - 1) 0 % 4294967296

  pub resumed_both : {s : Halfway} → s ≡ has_both (upper / 65536 % 256) (upper % 65536) (record { tag = upper / 16777216 - 1; payload = lower }) w.g (w.top - 1) → 0 < upper / 16777216
      → Reached A (walking A pile w) pile s
  unfolding in_way
  resumed_both e t =
      rw (found_walk A pile w found, e) record {
        on = rw (← as_right upper lower t, ← held_given w.g is_value) (popped A pile w.top (given w.g) filled some);
        ready = λ l. absurd (both_apart l);
      }

  pub resumed_left : {s : Halfway} → s ≡ has_left (upper / 65536 % 256) (upper % 65536) (lower % 65536) w.g (w.top - 1) → upper / 16777216 ≤ 0
      → Reached A (walking A pile w) pile s
  unfolding in_way
  resumed_left e t =
      rw (found_walk A pile w found, e) record {
        on = rw (← as_first upper lower t, ← held_given w.g is_value) (popped A pile w.top (given w.g) filled some);
        ready = λ l. (is_value, omega (arith, filled.room));
      }

-- ════ The right operand ════

module _ (A : Asked) (pile : List ℕ) (n j k b : ℕ) (v : Given) (filled : Filled A.levels pile n) {h : Head} (seen : Seen A.words A.levels (n + 1) b h) where
  pub right_work : {later : List ℕ} {s : Halfway} → Opened pile n ((v.tag + 1) * 16777216 + j * 65536 + k) v.payload b h later s → 20 ≤ h.kind → n < length pile → j < 256 → k < 65536
      → v.tag < 5 → v.payload < 4294967296 → PastLeft A (turning A pile n j k b v) later s
  unfolding in_way
  right_work o low fits fj fk is_value fp =
      rw (o.half, o.pile_is) record {
        on = turned_work A pile n filled seen low fits _ j k v (at_right j k fk fj v.tag v.payload is_value fp);
        past = begins_apart;
      }

  module _ (g : Given) (same : given g ≡ leaf_of A.slots h.kind b h.a h.b) (low : h.kind < 20) where
    pub right_end : {s : Halfway} → s ≡ half_found g n → 5 ≤ g.tag → PastLeft A (turning A pile n j k b v) pile s
    unfolding in_way
    right_end e end = rw e record { on = turned_end A pile n filled j k b v g (leaf_gives A seen g same low) end; past = found_apart }

    pub right_both : {s : Halfway} → s ≡ has_both j k v g n → g.tag < 5 → PastLeft A (turning A pile n j k b v) pile s
    unfolding in_way
    right_both e is_value = rw e record { on = turned_both A pile n filled j k b v g (leaf_gives A seen g same low) is_value; past = both_apart }

-- ════ The left value ════

module _ (A : Asked) (pile : List ℕ) (n j k b : ℕ) (v : Given) where
  pub left_alone : {s : Halfway} (r : Given) → Filled A.levels pile n → s ≡ half_found r n → given r ≡ resolved A n (work_of j k b) (value (held v))
      → PastLeft A (served A pile n (work_of j k b) (value (held v))) pile s
  unfolding in_way
  left_alone r filled e same = rw e record { on = served_found A pile n filled (work_of j k b) (value (held v)) (given r) same; past = found_apart }

  -- the same walk
  turns : looks_no_further j v ≡ false → served A pile n (work_of j k b) (value (held v)) ≡ turning A pile n j k b v
  unfolding resolved
  turns off =
      let wants = wants_right j v off A.setting.message A.setting.literals k (with_right A (n + 1) k (operator_of j) b (held v)) in
      rw (as_left j k b wants.0, ← wants.1)

  pub left_turns : {later : List ℕ} {s : Halfway} → looks_no_further j v ≡ false → PastLeft A (turning A pile n j k b v) later s → PastLeft A (served A pile n (work_of j k b) (value (held v))) later s
  left_turns off p = rw (turns off) p

-- ════ From half to half ════

module _ (A : Asked) (pile : List ℕ) (s : Halfway) (w : Walking (Evaluated Value)) (on : Goes A w (halfway A pile s)) where
  pub stays : NoLeft s.way → PastLeft A w pile s
  stays apart = record { on = on; past = apart }

  module _ (is : s.way ≡ Left) where
    has_left_lem : halfway A pile s ≡ served A pile s.top (work_of s.j s.k s.b) (value (held s.v))
    unfolding in_way
    has_left_lem = rw is

    pub left_on : {later : List ℕ} {t : Halfway}
        → (Filled A.levels pile s.top → PastLeft A (served A pile s.top (work_of s.j s.k s.b) (value (held s.v))) later t) → PastLeft A w later t
    left_on then =
        let there = rw has_left_lem at on in
        let p = then there.piled in
        record { on = onward_again there p.on; past = p.past }

  pub settled_begins : {v : Walk} → s.way ≡ Begins → v ≡ record { begins = true; top = s.top; j = s.j; k = s.k; a = s.a; b = s.b; g = s.v } → Steps A w pile v
  unfolding walking in_way
  settled_begins is e = rw e (rw is at on)

  pub settled_found : {v : Walk} → s.way ≡ Found → v ≡ result_found s.v s.top → Steps A w pile v
  unfolding walking in_way
  settled_found is e = rw e (rw is at on)

  pub settled_both : {v : Walk} (g : Given) → s.way ≡ Both → v ≡ result_found g s.top → given g ≡ operate A.setting.message A.setting.literals (operator_of s.j) s.k (held s.v) (held s.w) → Steps A w pile v
  unfolding walking in_way resolved
  settled_both g is e same =
      let there = rw is at on in
      rw e (onward_again there (served_found A pile s.top there.piled (right s.k (operator_of s.j) (held s.v)) (value (held s.w)) (given g) same))
