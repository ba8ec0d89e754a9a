-- The measure falls at each step of a machine that is not at rest: so `final` is at rest, and no step changes it. Assumes nothing.
use mathlib.Core.Path.{◌≡◌, refl, sym, ap, ◌∙◌}
use mathlib.Core.Bool.{Bool, true, false, cond}
use mathlib.Core.List.{List, [], ◌∷◌}
use Prim.Native.Nat.{ℕ, zero, suc, ◌+◌, ◌-◌, ◌*◌, ◌≤◌, ◌<◌}
use native.Mathlib.Omega.{arith}
use lib.ListN.{length}
use Rattle.grammar.specs.declared.Ending.{Ending}
use Rattle.grammar.specs.declared.Value.{Value}
use Rattle.grammar.specs.declared.Value.TheVariants as Val
use Rattle.grammar.specs.Tree.{Parsing, empty, terminal, sequence, choice, repeat, unless, call, bind, update, constraint, rule_of}
use Rattle.grammar.specs.Values.{Evaluated, value, ends}
use Rattle.grammar.specs.Run.{Slots, Setting, Tally, counted, eval, eval_all, Applied, matched, failed, ended, with_value, judged, byte_stands}
use Rattle.grammar.specs.Run.{Due, fine, no_budget, too_deep, due, returning}
use Rattle.grammar.proofs.Fuel.{fine_below}
use Rattle.machine.proofs.StackMachine.{entering, matching, failing, halted, resume, with_arguments, admitted, step, steps}
use Rattle.machine.proofs.TreeMachine.{Frame, first, last, arm, round, opposing, binding, calling, Stack, TreeState}
use Rattle.machine.proofs.TreeMachine.{begin, on_matched, on_failed, tree_moves, measure, final, read}
use Rattle.machine.proofs.Watching.{Watch}

-- ════ A leaf hands on what has been counted ════

pub data Leaf (t : Tally) : Applied → Type 0 where
  leaf_matched : {at : ℕ} {slots : Slots} → Leaf t (matched at slots t)
  leaf_failed : {slots : Slots} → Leaf t (failed slots t)
  leaf_ended : {why : Ending} {k : ℕ} → Leaf t (ended why k t)

cond_leaf : (t : Tally) (b : Bool) {x y : Applied} → Leaf t x → Leaf t y → Leaf t (cond b x y)
cond_leaf t true h g = h
cond_leaf t false h g = g

with_value_leaf : {A : Type 0} (t : Tally) (e : Evaluated A) {f : A → Applied} → ((a : A) → Leaf t (f a)) → Leaf t (with_value e t f)
unfolding with_value
with_value_leaf t (value a) h = h a
with_value_leaf t (ends why k) h = leaf_ended

judged_leaf : (t : Tally) (k : ℕ) (v : Value) (at : ℕ) (slots : Slots) → Leaf t (judged k v at slots t)
unfolding judged
judged_leaf t k Val.Absent at slots = leaf_ended
judged_leaf t k (Val.Bool b) at slots = cond_leaf t b leaf_matched leaf_failed
judged_leaf t k (Val.Integer z) at slots = leaf_ended
judged_leaf t k (Val.Text s) at slots = leaf_ended

-- ════ The measure falls ════

module _ (S : Setting) (budget n : ℕ) where
  leaf_falls : {r : Applied} (t : Tally) (σ : Stack) → Leaf t r → 3 * (budget - t.visits) + 2 * length σ + 2 < n → measure budget (resume r σ) < n
  unfolding resume measure
  leaf_falls t σ leaf_matched h = h
  leaf_falls t σ leaf_failed h = h
  leaf_falls t σ leaf_ended h = omega arith

  arguments_fall : (e : Evaluated (List Value)) (t : Tally) (go : List Value → TreeState) → 0 < n → ((vs : List Value) → measure budget (go vs) < n) →
      measure budget (with_arguments e t go) < n
  unfolding with_arguments measure
  arguments_fall (value vs) t go h g = g vs
  arguments_fall (ends why k) t go h g = h

  begin_falls : (p : Parsing) (at : ℕ) (slots : Slots) (t : Tally) (σ : Stack) → 3 * (budget - t.visits) + 2 * length σ + 3 < n →
      measure budget (begin S p at slots t σ) < n
  unfolding begin measure
  begin_falls (empty k) at slots t σ h = omega arith
  begin_falls (terminal k byte) at slots t σ h = leaf_falls t σ (cond_leaf t (byte_stands S.message at byte) leaf_matched leaf_failed) (omega arith)
  begin_falls (sequence k p q) at slots t σ h = omega arith
  begin_falls (choice k p q) at slots t σ h = omega arith
  begin_falls (repeat k p) at slots t σ h = omega arith
  begin_falls (unless k p) at slots t σ h = omega arith
  begin_falls (call k r arguments receiving) at slots t σ h = arguments_fall (eval_all S slots arguments) t _ (omega arith) (λ given. omega arith)
  begin_falls (bind k s p) at slots t σ h = omega arith
  begin_falls (update k s e) at slots t σ h = leaf_falls t σ (with_value_leaf t (eval S slots e) (λ v. leaf_matched)) (omega arith)
  begin_falls (constraint k e) at slots t σ h = leaf_falls t σ (with_value_leaf t (eval S slots e) (λ v. judged_leaf t k v at slots)) (omega arith)

  on_matched_falls : (frame : Frame) (at : ℕ) (slots : Slots) (t : Tally) (σ : Stack) → 3 * (budget - t.visits) + 2 * length σ + 3 < n →
      measure budget (on_matched S frame at slots t σ) < n
  unfolding on_matched measure returning
  on_matched_falls (first q kept) at slots t σ h = omega arith
  on_matched_falls (last kept) at slots t σ h = omega arith
  on_matched_falls (arm q from kept) at slots t σ h = omega arith
  on_matched_falls (round p from kept) at slots t σ h = omega arith
  on_matched_falls (opposing from) at slots t σ h = omega arith
  on_matched_falls (binding s from kept) at slots t σ h = omega arith
  on_matched_falls (calling r receiving kept) at slots t σ h =
      leaf_falls t σ (with_value_leaf t (eval_all S slots (rule_of S.grammar r).returned) (λ vs. leaf_matched)) (omega arith)

  on_failed_falls : (frame : Frame) (slots : Slots) (t : Tally) (σ : Stack) → 3 * (budget - t.visits) + 2 * length σ + 3 < n →
      measure budget (on_failed S frame slots t σ) < n
  unfolding on_failed measure
  on_failed_falls (first q kept) slots t σ h = omega arith
  on_failed_falls (last kept) slots t σ h = omega arith
  on_failed_falls (arm q from kept) slots t σ h = omega arith
  on_failed_falls (round p from kept) slots t σ h = omega arith
  on_failed_falls (opposing from) slots t σ h = omega arith
  on_failed_falls (binding s from kept) slots t σ h = omega arith
  on_failed_falls (calling r receiving kept) slots t σ h = omega arith

-- ════ Steps enough are enough ════

module _ (S : Setting) (budget deepest : ℕ) where
  abbrev one : TreeState → TreeState
  one = step (tree_moves S) budget deepest

  abbrev go : ℕ → TreeState → TreeState
  go = steps (tree_moves S) budget deepest

  -- a step leaves a machine as it is, or makes its measure smaller
  pub data Move (x : TreeState) : Type 0 where
    rests : one x ≡ x → Move x
    falls : measure budget (one x) < measure budget x → Move x

  admitted_move : (d : Due) (p : Parsing) (at : ℕ) (slots : Slots) (t : Tally) (σ : Stack) → due budget deepest (suc (length σ)) t.visits ≡ d →
      Move (entering p at slots t σ)
  unfolding step admitted measure
  admitted_move fine p at slots t σ e =
      let l : t.visits < budget = fine_below budget deepest (suc (length σ)) t.visits e in
      falls (rw e (begin_falls S budget (3 * (budget - t.visits) + 2 * length σ + 1) p at slots (counted t) σ (omega arith)))
  admitted_move no_budget p at slots t σ e = rests (rw e)
  admitted_move too_deep p at slots t σ e = falls (rw e (omega arith))

  move : (x : TreeState) → Move x
  unfolding step measure
  move (entering p at slots t σ) = admitted_move (due budget deepest (suc (length σ)) t.visits) p at slots t σ refl
  move (matching at slots t []) = rests refl
  move (matching at slots t (frame ∷ σ)) = falls (on_matched_falls S budget _ frame at slots t σ (omega arith))
  move (failing slots t []) = rests refl
  move (failing slots t (frame ∷ σ)) = falls (on_failed_falls S budget _ frame slots t σ (omega arith))
  move (halted why k t) = rests refl

  steps_rest : (n : ℕ) (x : TreeState) → one x ≡ x → go n x ≡ x
  unfolding steps
  steps_rest zero x e = refl
  steps_rest (suc n) x e = ap (go n) e ∙ steps_rest n x e

  steps_same : (m n : ℕ) (x : TreeState) → Move x → measure budget x ≤ m → measure budget x ≤ n → go m x ≡ go n x
  unfolding steps
  steps_same zero n x (rests e) h k = sym (steps_rest n x e)
  steps_same zero n x (falls l) h k = absurd (omega arith)
  steps_same (suc m) zero x (rests e) h k = steps_rest (suc m) x e
  steps_same (suc m) zero x (falls l) h k = absurd (omega arith)
  steps_same (suc m) (suc n) x (rests e) h k = steps_rest (suc m) x e ∙ sym (steps_rest (suc n) x e)
  steps_same (suc m) (suc n) x (falls l) h k = steps_same m n (one x) (move (one x)) (omega arith) (omega arith)

  -- as many steps as the measure says, or more
  pub steps_final : (n : ℕ) (x : TreeState) → measure budget x ≤ n → go n x ≡ final S budget deepest x
  unfolding final
  steps_final n x h = steps_same n (measure budget x) x (move x) h (omega arith)

  no_more : (x : TreeState) → Move x → measure budget (one x) ≤ measure budget x
  no_more x (rests e) = omega (arith, ap (measure budget) e)
  no_more x (falls l) = omega arith

  -- no step changes `final`
  pub final_step : (x : TreeState) → final S budget deepest (one x) ≡ final S budget deepest x
  unfolding steps
  final_step x = sym (steps_final (measure budget x) (one x) (no_more x (move x))) ∙ steps_final (suc (measure budget x)) x (omega arith)

  -- a machine at rest is its own end
  pub final_rest : (x : TreeState) → one x ≡ x → final S budget deepest x ≡ x
  unfolding final
  final_rest x e = steps_rest (measure budget x) x e

  -- what is read off the machine at rest is a watcher
  pub watch : Watch S budget deepest (λ x. read (final S budget deepest x))
  unfolding step read admitted
  watch = record {
    unchanged = λ x. ap read (final_step x);
    at_end = λ why k t. ap read (final_rest (halted why k t) refl);
    at_pause = λ p at slots t σ e. ap read (final_rest (entering p at slots t σ) (rw e));
  }
