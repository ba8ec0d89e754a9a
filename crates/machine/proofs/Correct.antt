-- The machine over trees comes to what the written meaning gives, kind by kind. Assumes nothing.
use mathlib.Core.Path.{◌≡◌, refl}
use mathlib.Core.List.{List, ◌∷◌}
use Prim.Native.Nat.{ℕ, zero, suc}
use lib.ListN.{length}
use Rattle.grammar.specs.declared.Ending.TheVariants.{Deep}
use Rattle.grammar.specs.declared.Value.{Value}
use Rattle.grammar.specs.Tree.{Parsing, empty, terminal, sequence, choice, repeat, unless, call, bind, update, constraint, node, rule_of}
use Rattle.grammar.specs.Values.{Evaluated, value, ends}
use Rattle.grammar.specs.Run.{Slots, Setting, Tally, counted, eval_all, Applied, matched, next, giving_back, onward, with_value, fresh}
use Rattle.grammar.specs.Run.{Application, rounds, Due, fine, no_budget, too_deep, due, returning, visit, admit, apply}
use Rattle.machine.proofs.StackMachine.{entering, resume, with_arguments, admitted, step}
use Rattle.machine.proofs.TreeMachine.{Stack, first, last, arm, round, opposing, binding, calling, TreeState, begin, on_matched, on_failed, tree_moves}
use Rattle.machine.proofs.Watching.{Watch, Says, then, regroup, before, self}

module _ (S : Setting) (budget deepest : ℕ) (F : TreeState → Applied) (W : Watch S budget deepest F) where
  -- parts are applied rightly: at the depth that the stack shows
  abbrev Right : Application → Type 0
  Right apply' = (p : Parsing) (at : ℕ) (slots : Slots) (t : Tally) (σ : Stack) → Says F (apply' (suc (length σ)) p at slots t) σ (entering p at slots t σ)

  -- one step, and then a result
  done : {r : Applied} {σ : Stack} {x : TreeState} → Says F r σ (step (tree_moves S) budget deepest x) → Says F r σ x
  done = before S budget deepest F W

  leaf : {r : Applied} {σ : Stack} → Says F r σ (resume r σ)
  leaf = self S budget deepest F W

  -- what the returned nodes give is never a failure
  returned_ok : (e : Evaluated (List Value)) (t : Tally) (m : List Value → Slots) (at : ℕ) (f : Slots → Tally → Applied) (σ : Stack) →
      Says F (next (with_value e t (λ vs. matched at (m vs) t)) matched f) σ (resume (with_value e t (λ vs. matched at (m vs) t)) σ)
  unfolding with_value next
  returned_ok (value vs) t m at f σ = leaf
  returned_ok (ends why k) t m at f σ = leaf

  module _ (apply' : Application) (right : Right apply') where
    -- the second part of a sequence or a choice is at work
    last_ok : (q : Parsing) (kept : Slots) (at : ℕ) (slots : Slots) (t : Tally) (σ : Stack) →
        Says F (giving_back kept (apply' (suc (suc (length σ))) q at slots t)) σ (entering q at slots t (last kept ∷ σ))
    unfolding step on_matched on_failed resume
    last_ok q kept at slots t σ = then F (right q at slots t (last kept ∷ σ)) (λ _ _ _. done leaf) (λ _ _. done leaf)

    rounds_ok : (n : ℕ) (p : Parsing) (at : ℕ) (slots : Slots) (t : Tally) (σ : Stack) →
        Says F (rounds apply' n (suc (suc (length σ))) p at slots t) σ (entering p at slots t (round p at slots ∷ σ))
    unfolding step on_matched on_failed resume rounds
    rounds_ok zero p at slots t σ = record { holds = tt }
    rounds_ok (suc n) p at slots t σ =
        then F (right p at slots t (round p at slots ∷ σ)) (λ at₁ slots₁ t₁. done (rounds_ok n p at₁ slots₁ t₁ σ)) (λ _ _. done leaf)

    call_ok : (e : Evaluated (List Value)) (r : ℕ) (receiving : List ℕ) (at : ℕ) (slots : Slots) (t : Tally) (σ : Stack) →
        Says F
        (with_value e t (λ given.
        giving_back slots (onward (apply' (suc (suc (length σ))) (rule_of S.grammar r).body at (fresh given) t) (returning S r slots receiving))))
        σ
        (with_arguments e t (λ given. entering (rule_of S.grammar r).body at (fresh given) t (calling r receiving slots ∷ σ)))
    unfolding step on_matched on_failed resume with_value with_arguments next returning
    call_ok (value given) r receiving at slots t σ = rw regroup (then F (right (rule_of S.grammar r).body at (fresh given) t (calling r receiving slots ∷ σ))
        (λ at₁ slots₁ t₁. done (returned_ok (eval_all S slots₁ (rule_of S.grammar r).returned) t₁ _ at₁ _ σ))
        (λ _ _. done leaf))
    call_ok (ends why k) r receiving at slots t σ = leaf

    visit_ok : (n : ℕ) (p : Parsing) (at : ℕ) (slots : Slots) (t : Tally) (σ : Stack) →
        Says F (visit S apply' (rounds apply' n) (suc (length σ)) p at slots t) σ (begin S p at slots t σ)
    unfolding visit begin step on_matched on_failed resume next
    visit_ok n (empty k) at slots t σ = leaf
    visit_ok n (terminal k byte) at slots t σ = leaf
    visit_ok n (sequence k p q) at slots t σ =
        rw regroup (then F (right p at slots t (first q slots ∷ σ)) (λ at₁ slots₁ t₁. done (last_ok q slots at₁ slots₁ t₁ σ)) (λ _ _. done leaf))
    visit_ok n (choice k p q) at slots t σ =
        rw regroup (then F (right p at slots t (arm q at slots ∷ σ)) (λ _ _ _. done leaf) (λ _ t₁. done (last_ok q slots at slots t₁ σ)))
    visit_ok n (repeat k p) at slots t σ = rounds_ok n p at slots t σ
    visit_ok n (unless k p) at slots t σ = then F (right p at slots t (opposing at ∷ σ)) (λ _ _ _. done leaf) (λ _ _. done leaf)
    visit_ok n (call k r arguments receiving) at slots t σ = call_ok (eval_all S slots arguments) r receiving at slots t σ
    visit_ok n (bind k s p) at slots t σ = rw regroup (then F (right p at slots t (binding s at slots ∷ σ)) (λ _ _ _. done leaf) (λ _ _. done leaf))
    visit_ok n (update k s e) at slots t σ = leaf
    visit_ok n (constraint k e) at slots t σ = leaf

    admit_ok : (n : ℕ) (d : Due) (p : Parsing) (at : ℕ) (slots : Slots) (t : Tally) (σ : Stack) → due budget deepest (suc (length σ)) t.visits ≡ d →
        Says F (admit S d apply' (rounds apply' n) (suc (length σ)) p at slots t) σ (admitted (tree_moves S) d p at slots t σ)
    unfolding admit admitted
    admit_ok n fine p at slots t σ e = visit_ok n p at slots (counted t) σ
    admit_ok n no_budget p at slots t σ e = record { holds = W.at_pause p at slots t σ e }
    admit_ok n too_deep p at slots t σ e = record { holds = W.at_end Deep (node p) t }

  -- whatever the fuel: where it runs out nothing is said
  pub correct : (fuel : ℕ) → Right (apply S budget deepest fuel)
  unfolding apply step
  correct zero p at slots t σ = record { holds = tt }
  correct (suc fuel) p at slots t σ =
      done (admit_ok (apply S budget deepest fuel) (correct fuel) fuel (due budget deepest (suc (length σ)) t.visits) p at slots t σ refl)
