-- Values go into slots one after the other: what the first of them leave. Assumes nothing.
use mathlib.Core.Path.{◌≡◌, refl}
use mathlib.Core.List.{List}
use Prim.Native.Nat.{ℕ, zero, suc, ◌+◌, ◌≤◌, ◌<◌}
use native.Mathlib.Omega.{arith}
use borrow.Author.Tests.{lt-ltb, le-ltb}
use lib.ListN.{get_or}
use Rattle.grammar.specs.declared.Value.{Value}
use Rattle.frames.specs.Frames.{written, unset}
use Rattle.calls.specs.Calls.{value_at, inherited, received_at, received}

-- the first i values in slots 0 to i - 1
unfoldable pub placed : ℕ → List Value → List ℕ → List ℕ
placed zero vs w = w
placed (suc i) vs w = written (placed i vs w) i (value_at vs i)

pub placed_more : (i : ℕ) (vs : List Value) (w : List ℕ) → placed (i + 1) vs w ≡ written (placed i vs w) i (value_at vs i)
unfolding placed
placed_more i vs w = let e : i + 1 ≡ suc i = omega arith in rw e

pub placed_four : (vs : List Value) (w : List ℕ) → placed 4 vs (unset w) ≡ inherited vs w
unfolding placed inherited
placed_four vs w = refl

module _ (m : ℕ) (slots : List ℕ) (vs : List Value) (w : List ℕ) where
  -- the first i values in the first i receiving slots, as far as they are under m
  unfoldable pub first : ℕ → List ℕ
  first zero = w
  first (suc i) = received_at i m (get_or slots i 0) (value_at vs i) (first i)

  pub first_more : (i : ℕ) → i < m → first (i + 1) ≡ written (first i) (get_or slots i 0) (value_at vs i)
  unfolding first received_at
  first_more i h = let e : i + 1 ≡ suc i = omega arith in rw (e, lt-ltb i m h)

  pub first_past : (i : ℕ) → m ≤ i → first (i + 1) ≡ first i
  unfolding first received_at
  first_past i h = let e : i + 1 ≡ suc i = omega arith in rw (e, le-ltb i m h)

  pub first_four : first 4 ≡ received m slots vs w
  unfolding first received
  first_four = refl
