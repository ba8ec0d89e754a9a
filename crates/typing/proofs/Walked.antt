-- The steps of the walk over a rule's body: each comes to the same slots, and has less before it. Assumes nothing.
use mathlib.Core.Path.{◌≡◌, refl, sym, ap, subst, ◌∙◌}
use mathlib.Core.List.{List}
use mathlib.Core.Bool.{true}
use mathlib.Core.Option.{Option, none, some}
use Prim.Native.Nat.{ℕ, zero, suc, ◌+◌, ◌*◌, ◌-◌, ◌/◌, ◌%◌, ◌^◌, ◌<◌, ◌≤◌}
use native.Mathlib.Nat.{add-mul-mod_self_right}
use native.Mathlib.Omega.{arith}
use lib.Dec.{ltb}
use lib.ListN.{get_or, set, length, take, drop}
use Rattle.laws.specs.Same.{same}
use Rattle.std.specs.Prelude.{Option as Optional, None, Some}
use Rattle.laws.specs.Pile.{Alike, through, comes_to, unmoved, answered, opened, closed, turned, heavy, burden, heavy_some, heavy_two, heavy_one, burden_due, burden_again, burden_some}
use Rattle.grammar.specs.declared.Node.{Node}
use Rattle.grammar.specs.Words.{kind_at, node_word, node_at}
use Rattle.grammar.specs.Tree.{parsing_at, parsing_of, grammar_of}
use Rattle.grammar.specs.Types.{Env, provided, and_then, assign, type_of}
use Rattle.table.specs.declared.kinds.Kind.{Kind}
use Rattle.table.specs.Kinds.{kind_of}
use Rattle.std.proofs.lemmas.Grind.{common_steps}
use Rattle.typing.specs.declared.slots.Slots.{Slots}
use Rattle.typing.specs.declared.parsing.Work.TheVariants as W
use Rattle.typing.specs.declared.parsing.Step.{Step}
use Rattle.typing.specs.declared.parsing.Step.TheVariants.{Found}
use Rattle.typing.specs.declared.parsing.Walk.{Walk}
use Rattle.typing.specs.Checked.{CheckedNode, CheckedKind, Placed}
use Rattle.typing.specs.Slots.{types_in, told}
use Rattle.typing.specs.Walk.{at_work, kept_of, tag_of, part_of, slots_of, by_tag, packed, part_in, unpacked, has_parts, work_of, first_part, resumed, resumed_at, work_weight, Works, node_due, slots_found, comes_of, step_weight, walking, Walks, WalkedOn}
use Rattle.typing.proofs.Walks.{sized, holds, parsing_is, placed_node, placed_part}
use Rattle.typing.proofs.NodeKinds.{read, parts, Parts, sequence, choice, repeat, refusal, bind}
use Rattle.typing.proofs.Numbers.{Fits}
use Rattle.typing.proofs.Piles.{part_length}

-- ════ A node at work ════

-- what its number says
record Reads (f kept tag part : ℕ) : Type 0 where
  is_kept : kept_of f ≡ kept
  is_tag : tag_of f ≡ tag
  is_part : part_of f ≡ part

reads : (kept tag part : ℕ) → tag < 4 → part < 4096 → Reads (at_work kept tag part) kept tag part
reads kept tag part few small =
    let up : at_work kept tag part / 4096 ≡ tag + kept * 16 = omega arith in
    let low : tag % 16 ≡ tag = omega arith in
    record { is_kept = omega arith; is_tag = ap (λ (x : ℕ). x % 16) up ∙ add-mul-mod_self_right tag kept 16 ∙ low; is_part = omega arith }

module _ {f kept tag part : ℕ} (read : Reads f kept tag part) (place : ℕ) where
  resumed_by : (words : List ℕ) (o : Option Env) → resumed_at words place f o ≡ and_then o (resumed words tag part kept)
  unfolding resumed_at
  resumed_by words o = rw (read.is_tag, read.is_part, read.is_kept)

  weight_by : work_weight place f ≡ burden (ltb tag 2) part
  unfolding work_weight
  weight_by = rw (read.is_tag, read.is_part)

  works : {words : List ℕ} {room : ℕ} → tag < 4 → Placed words room (place + 1) part → kept < 2 ^ 32 → Works words room place f
  works few waits keeps = record { few = omega arith; waits = rw read.is_part waits; keeps = omega arith }

-- what tells each work
then_tag : (tag part kept : ℕ) {p : ℕ} → by_tag tag part kept ≡ W.Then p → (tag ≡ 0) × (part ≡ p)
then_tag zero part kept e = grind (arith, common_steps)
then_tag (suc zero) part kept e = grind (arith, common_steps)
then_tag (suc (suc zero)) part kept e = grind (arith, common_steps)
then_tag (suc (suc (suc tag))) part kept e = grind (arith, common_steps)

other_tag : (tag part kept : ℕ) {p : ℕ} {start : Slots} → by_tag tag part kept ≡ W.Other p start → (tag ≡ 1) × (part ≡ p) × (slots_of kept ≡ start)
other_tag zero part kept e = grind (arith, common_steps)
other_tag (suc zero) part kept e = grind (arith, common_steps)
other_tag (suc (suc zero)) part kept e = grind (arith, common_steps)
other_tag (suc (suc (suc tag))) part kept e = grind (arith, common_steps)

same_tag : (tag part kept : ℕ) {start : Slots} → by_tag tag part kept ≡ W.Same start → (tag ≡ 2) × (slots_of kept ≡ start)
same_tag zero part kept e = grind (arith, common_steps)
same_tag (suc zero) part kept e = grind (arith, common_steps)
same_tag (suc (suc zero)) part kept e = grind (arith, common_steps)
same_tag (suc (suc (suc tag))) part kept e = grind (arith, common_steps)

bind_tag : (tag part kept : ℕ) {s : ℕ} → by_tag tag part kept ≡ W.Bind s → (3 ≤ tag) × (kept % 65536 ≡ s)
bind_tag zero part kept e = grind (arith, common_steps)
bind_tag (suc zero) part kept e = grind (arith, common_steps)
bind_tag (suc (suc zero)) part kept e = grind (arith, common_steps)
bind_tag (suc (suc (suc tag))) part kept e = grind (arith, common_steps)

abbrev leaves_at : (words : List ℕ) → Env → ℕ → Option Env
leaves_at words env k = type_of (grammar_of words) env (parsing_at words k)

-- ════ A node is due ════

module _ {words pile : List ℕ} {k top : ℕ} {slots : Slots} (walks : Walks words pile (node_due k slots top)) where
  abbrev env : Env
  env = types_in slots

  abbrev start : Walk
  start = node_due k slots top

  due_node : CheckedNode words (length pile) k
  due_node = placed_node walks.due walks.table

  small : k < 1024
  small = let h = walks.due in omega (arith, (sized walks.table).most_nodes)

  -- the node, with what stands above the pile
  pub leaf_kind : {kind : Kind} → kind ≡ kind_of (kind_at words k) → CheckedKind words (length (take (length pile - top) (drop top pile))) k kind
  leaf_kind e =
      let h = walks.due in
      let p = part_length pile top in
      record { node = record { table = walks.table; there = omega arith; fits = omega arith }; is = e }

  pub leaf_step : {later : List ℕ} {left : Optional Slots} → length later ≡ length pile → Alike top pile later → told left ≡ leaves_at words env k
      → WalkedOn words pile start later (slots_found left top)
  unfolding walking comes_of step_weight
  leaf_step long alike e = record { onward = answered _ walks.piled long alike e (heavy_some k); due = tt }

  -- the node goes to work, its part a is due
  step : {a : ℕ} (kept tag part : ℕ) → tag < 4 → kept < 2 ^ 32 → a < k → part < k → and_then (leaves_at words env a) (resumed words tag part kept) ≡ leaves_at words env k
      → heavy a + burden (ltb tag 2) part < heavy k → WalkedOn words pile start (set pile top (at_work kept tag part)) (node_due a slots (top + 1))
  unfolding walking comes_of step_weight
  step {a} kept tag part few keeps below waits same less =
      let h = walks.due in
      let s = small in
      let r = reads kept tag part few (omega arith) in
      record {
        onward = opened _ walks.piled (omega arith) (works r top few (placed_part walks.due waits) keeps)
            (resumed_by r top words (leaves_at words env a) ∙ same) (rw (weight_by r top) less);
        due = placed_part walks.due below;
      }

  by_parts : {kind : Kind} {a b : ℕ} {n : Node} → Fits slots → Parts a b kind n → node_at words k ≡ n → a < 65536
      → WalkedOn words pile start (set pile top (packed (work_of kind slots a b))) (node_due (first_part kind a b) slots (top + 1))
  unfolding packed work_of first_part type_of parsing_of resumed
  by_parts {b = b} fit sequence n fits =
      let p = holds due_node n in
      step 0 0 b (omega arith) (omega arith) p.0.below p.1.below (rw (parsing_is due_node n)) (heavy_two p.0.below p.1.below)
  by_parts {b = b} fit choice n fits =
      let p = holds due_node n in
      step slots.types 1 b (omega arith) fit p.0.below p.1.below (rw (parsing_is due_node n)) (heavy_two p.0.below p.1.below)
  by_parts fit repeat n fits =
      let p = (holds due_node n).below in step slots.types 2 0 (omega arith) fit p (omega arith) (rw (parsing_is due_node n)) (heavy_one 0 p)
  by_parts fit refusal n fits =
      let p = (holds due_node n).below in step slots.types 2 0 (omega arith) fit p (omega arith) (rw (parsing_is due_node n)) (heavy_one 0 p)
  by_parts {a = a} {b = b} fit bind n fits =
      let p = (holds due_node n).1.below in
      let slot : a % 65536 ≡ a = omega arith in
      step a 3 0 (omega arith) (omega arith) p (omega arith)
      (rw (parsing_is due_node n) (ap (λ (s : ℕ). and_then (leaves_at words env b) (λ after. assign after s 3)) slot)) (heavy_one 0 p)

  second_small : {kind : Kind} {a b : ℕ} {n : Node} → Parts a b kind n → node_at words k ≡ n → part_in (work_of kind slots a b) < 4096
  unfolding work_of
  second_small sequence n = let p = (holds due_node n).1.below in omega (arith, small)
  second_small choice n = let p = (holds due_node n).1.below in omega (arith, small)
  second_small repeat n = omega arith
  second_small refusal n = omega arith
  second_small bind n = omega arith

  abbrev field : ℕ → ℕ
  field j = node_word words k j

  module _ {kind : Kind} (is : kind ≡ kind_of (kind_at words k)) (composite : has_parts kind ≡ true) where
    pub waiting_small : part_in (work_of kind slots (field 1) (field 2)) < 4096
    waiting_small = second_small (parts words k kind composite) (read words k is)

    pub parts_step : Fits slots → field 1 < 65536
        → WalkedOn words pile start (set pile top (packed (work_of kind slots (field 1) (field 2)))) (node_due (first_part kind (field 1) (field 2)) slots (top + 1))
    parts_step fit = by_parts fit (parts words k kind composite) (read words k is)

-- ════ Slots were found ════

module _ {words pile : List ℕ} {height : ℕ} {slots : Slots} (walks : Walks words pile (slots_found (Some slots) height)) (some₀ : 0 < height) where
  abbrev now : Env
  now = types_in slots

  abbrev last : ℕ
  last = height - 1

  abbrev top : ℕ
  top = get_or pile last 0

  abbrev before : Walk
  before = slots_found (Some slots) height

  pub on_top : Works words (length pile) last top
  on_top = walks.piled.each last (omega arith)

  tagged : {tag : ℕ} → tag_of top ≡ tag → Reads top (kept_of top) tag (part_of top)
  tagged e = record { is_kept = refl; is_tag = e; is_part = refl }

  -- the second part of a sequence is due
  second_by : tag_of top ≡ 0 → WalkedOn words pile before pile (node_due (part_of top) slots last)
  unfolding walking comes_of step_weight told resumed
  second_by e =
      let p = on_top.waits in
      let r = tagged e in
      record {
        onward = closed _ walks.piled some₀ (sym (resumed_by r last words (some now))) (omega (arith, weight_by r last, burden_due (part_of top)));
        due = record { there = omega arith; fits = omega arith };
      }

  -- the second part of a choice is due, from the choice's start
  arm_by : Fits slots → tag_of top ≡ 1 → WalkedOn words pile before (set pile last (at_work slots.types 2 0)) (node_due (part_of top) (slots_of (kept_of top)) height)
  unfolding walking comes_of step_weight told resumed
  arm_by fit e =
      let p = on_top.waits in
      let r = tagged e in
      let s = reads slots.types 2 0 (omega arith) (omega arith) in
      record {
        onward = turned _ walks.piled some₀ (works s last (omega arith) (record { there = omega arith; fits = omega arith }) fit)
            (resumed_by s last words (leaves_at words (types_in (slots_of (kept_of top))) (part_of top)) ∙ sym (resumed_by r last words (some now)))
            (omega (arith, weight_by r last, weight_by s last, burden_again 0 (part_of top)));
        due = record { there = omega arith; fits = omega arith };
      }

  -- the node is done
  done_by : {left : Optional Slots} {tag : ℕ} → tag_of top ≡ tag → told left ≡ resumed words tag (part_of top) (kept_of top) now
      → WalkedOn words pile before pile (slots_found left last)
  unfolding walking comes_of step_weight told
  done_by {tag = tag} e left =
      let r = tagged e in
      record {
        onward = closed _ walks.piled some₀ (left ∙ sym (resumed_by r last words (some now))) (omega (arith, weight_by r last, burden_some (ltb tag 2) (part_of top)));
        due = tt;
      }

  -- the same by the work that the number tells
  pub second_step : {part : ℕ} → unpacked top ≡ W.Then part → WalkedOn words pile before pile (node_due part slots last)
  second_step e = let t = then_tag _ _ _ e in rw (sym t.1) (second_by t.0)

  pub arm_step : {part : ℕ} {start : Slots} → Fits slots → unpacked top ≡ W.Other part start
      → WalkedOn words pile before (set pile last (packed (W.Same slots))) (node_due part start height)
  unfolding packed
  arm_step fit e = let t = other_tag _ _ _ e in rw (sym t.1, sym t.2) (arm_by fit t.0)

  pub same_step : {start : Slots} {left : Optional Slots} → unpacked top ≡ W.Same start → told left ≡ provided (same (types_in start) now) (some (types_in start))
      → WalkedOn words pile before pile (slots_found left last)
  unfolding resumed
  same_step e left = let t = same_tag _ _ _ e in done_by {tag = 2} t.0 (left ∙ rw (sym t.1))

  pub bind_step : {s : ℕ} {left : Optional Slots} → unpacked top ≡ W.Bind s → told left ≡ assign now s 3 → WalkedOn words pile before pile (slots_found left last)
  unfolding resumed
  bind_step e left = let t = bind_tag _ _ _ e in done_by {tag = 3} (omega (arith, t.0, on_top.few)) (left ∙ rw (sym t.1))

-- ════ The whole walk ════

pub starts : {words : List ℕ} {k : ℕ} (pile : List ℕ) (slots : Slots) → CheckedNode words (length pile) k
    → Walks words pile (node_due k slots 0) × (comes_to (resumed_at words) (walking words pile (node_due k slots 0)) ≡ type_of (grammar_of words) (types_in slots) (parsing_at words k))
unfolding walking comes_of comes_to through
starts pile slots node = (
  record {
    table = node.table;
    piled = record { room = omega arith; each = λ i l. absurd (omega arith) };
    due = record { there = omega arith; fits = omega arith };
  },
  refl,
)

goes : {words pile later : List ℕ} {w v : Walk} → Walks words pile w → WalkedOn words pile w later v → Walks words later v
unfolding walking
goes walks on = record { table = walks.table; piled = rw on.onward.long on.onward.piled; due = rw on.onward.long on.due }

-- the same walk, its step by another name
abbrev pub by_step : Walk → Step → Walk
by_step w s = record { step = s; top = w.top }

same_walk : {w : Walk} {s : Step} → w.step ≡ s → by_step w s ≡ w
same_walk {w} is = sym (ap (by_step w) is)

-- a step of the code's loop
pub goes_on : {words pile later : List ℕ} {w v : Walk} {s : Step} {o : Option Env} → w.step ≡ s → Walks words pile w → WalkedOn words pile (by_step w s) later v
    → comes_to (resumed_at words) (walking words pile w) ≡ o → Walks words later v × (comes_to (resumed_at words) (walking words later v) ≡ o)
goes_on {words} {pile} {later} {w} {v} is walks on so =
    let on : WalkedOn words pile w later v = subst (λ (u : Walk). WalkedOn words pile u later v) (same_walk is) on in (goes walks on, on.onward.same ∙ so)

module _ (words pile : List ℕ) (w : Walk) {left : Optional Slots} {o : Option Env} (is : w.step ≡ Found left) (so : comes_to (resumed_at words) (walking words pile w) ≡ o) where
  comes : comes_to (resumed_at words) (walking words pile (slots_found left w.top)) ≡ o
  comes = subst (λ (u : Walk). comes_to (resumed_at words) (walking words pile u) ≡ o) (sym (same_walk is)) so

  pub ends : w.top ≡ 0 → told left ≡ o
  unfolding walking comes_of comes_to through
  ends empty = rw empty at comes

  pub breaks : left ≡ None → told None ≡ o
  unfolding walking comes_of comes_to told resumed_at
  breaks broken = sym (unmoved (resumed_at words) pile w.top none (λ i f. refl)) ∙ (rw broken at comes)
