-- What a result says of a machine that was started with a stack σ, seen through any watcher that no step changes: no counting of steps.
-- Assumes nothing.
use mathlib.Core.Path.{◌≡◌, refl, sym, ◌∙◌}
use Prim.Native.Nat.{ℕ, suc}
use lib.ListN.{length}
use Rattle.grammar.specs.declared.Ending.{Ending}
use Rattle.grammar.specs.declared.Ending.TheVariants.{Budget}
use Rattle.grammar.specs.Tree.{Parsing, node}
use Rattle.grammar.specs.Run.{Slots, Setting, Tally, Applied, matched, failed, ended, out_of_fuel, next, due, no_budget}
use Rattle.machine.proofs.StackMachine.{entering, matching, failing, halted, resume, step}
use Rattle.machine.proofs.TreeMachine.{Stack, TreeState, tree_moves}

-- a watcher: no step changes what it sees, and at an end it sees that end
pub record Watch (S : Setting) (budget deepest : ℕ) (F : TreeState → Applied) : Type 0 where
  pub unchanged : (x : TreeState) → F (step (tree_moves S) budget deepest x) ≡ F x
  pub at_end : (why : Ending) (k : ℕ) (t : Tally) → F (halted why k t) ≡ ended why k t
  pub at_pause : (p : Parsing) (at : ℕ) (slots : Slots) (t : Tally) (σ : Stack) → due budget deepest (suc (length σ)) t.visits ≡ no_budget →
      F (entering p at slots t σ) ≡ ended Budget (node p) t

-- what goes on after going on
pub regroup : (r : Applied) (m m' : ℕ → Slots → Tally → Applied) (f f' : Slots → Tally → Applied) →
    next (next r m f) m' f' ≡ next r (λ at slots t. next (m at slots t) m' f') (λ slots t. next (f slots t) m' f')
unfolding next
regroup (matched at slots t) m m' f f' = refl
regroup (failed slots t) m m' f f' = refl
regroup (ended why k t) m m' f f' = refl
regroup out_of_fuel m m' f f' = refl

module _ (F : TreeState → Applied) where
  abbrev pub Holds : Applied → Stack → TreeState → Type 0
  Holds (matched at slots t) σ x = F x ≡ F (matching at slots t σ)
  Holds (failed slots t) σ x = F x ≡ F (failing slots t σ)
  Holds (ended why k t) σ x = F x ≡ ended why k t
  Holds out_of_fuel σ x = Unit {0}

  -- the machine x has come, under the stack σ, to the result r. (A record, so that antt finds r, σ and x)
  pub record Says (r : Applied) (σ : Stack) (x : TreeState) : Type 0 where
    pub holds : Holds r σ x

  along_holds : (r : Applied) (σ : Stack) (x y : TreeState) → F x ≡ F y → Holds r σ y → Holds r σ x
  along_holds (matched at slots t) σ x y e h = e ∙ h
  along_holds (failed slots t) σ x y e h = e ∙ h
  along_holds (ended why k t) σ x y e h = e ∙ h
  along_holds out_of_fuel σ x y e h = tt

  -- a machine that is seen alike
  along : {r : Applied} {σ : Stack} {x y : TreeState} → F x ≡ F y → Says r σ y → Says r σ x
  along {r} {σ} {x} {y} e h = record { holds = along_holds r σ x y e h.holds }

  then_holds : (r : Applied) (m : ℕ → Slots → Tally → Applied) (f : Slots → Tally → Applied) (σ τ : Stack) (x : TreeState) →
      Holds r τ x →
      ((at : ℕ) (slots : Slots) (t : Tally) → Says (m at slots t) σ (matching at slots t τ)) →
      ((slots : Slots) (t : Tally) → Says (f slots t) σ (failing slots t τ)) →
      Says (next r m f) σ x
  unfolding next
  then_holds (matched at slots t) m f σ τ x h on_match on_fail = along h (on_match at slots t)
  then_holds (failed slots t) m f σ τ x h on_match on_fail = along h (on_fail slots t)
  then_holds (ended why k t) m f σ τ x h on_match on_fail = record { holds = h }
  then_holds out_of_fuel m f σ τ x h on_match on_fail = record { holds = tt }

  -- goes on from what a part's result says, under the part's stack τ
  pub then : {r : Applied} {m : ℕ → Slots → Tally → Applied} {f : Slots → Tally → Applied} {σ τ : Stack} {x : TreeState} →
      Says r τ x →
      ((at : ℕ) (slots : Slots) (t : Tally) → Says (m at slots t) σ (matching at slots t τ)) →
      ((slots : Slots) (t : Tally) → Says (f slots t) σ (failing slots t τ)) →
      Says (next r m f) σ x
  then {r} {m} {f} {σ} {τ} {x} h on_match on_fail = then_holds r m f σ τ x h.holds on_match on_fail

module _ (S : Setting) (budget deepest : ℕ) (F : TreeState → Applied) (W : Watch S budget deepest F) where
  -- one step earlier
  pub before : {r : Applied} {σ : Stack} {x : TreeState} → Says F r σ (step (tree_moves S) budget deepest x) → Says F r σ x
  before {x = x} h = along F (sym (W.unchanged x)) h

  self_holds : (r : Applied) (σ : Stack) → Holds F r σ (resume r σ)
  unfolding resume
  self_holds (matched at slots t) σ = refl
  self_holds (failed slots t) σ = refl
  self_holds (ended why k t) σ = W.at_end why k t
  self_holds out_of_fuel σ = tt

  -- a leaf
  pub self : {r : Applied} {σ : Stack} → Says F r σ (resume r σ)
  self {r} {σ} = record { holds = self_holds r σ }
