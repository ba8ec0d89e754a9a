-- Laws of a visit's definitions, one to a case: what the code's tests decide. Assumes nothing.
use mathlib.Core.Path.{◌≡◌, refl}
use mathlib.Core.Bool.{Bool, true, false, ◌&&◌}
use mathlib.Core.List.{List}
use Prim.Native.Nat.{ℕ, ◌+◌, ◌≤◌, ◌<◌}
use native.Mathlib.Omega.{arith}
use borrow.Author.Tests.{lt-ltb, le-ltb, le-leb, lt-leb, ltb-true}
use lib.Dec.{ltb, eqb}
use lib.ListN.{length, get_or}
use Rattle.laws.specs.Tests.{both_right}
use Rattle.grammar.specs.Words.{node_at}
use Rattle.grammar.specs.Run.{byte_stands, due}
use Rattle.grammar.specs.Answer.{deepest_visit}
use Rattle.stages.specs.declared.Stage.TheVariants as S
use Rattle.stages.specs.declared.Run.{Run}
use Rattle.stages.specs.Stages.{with, staged}
use Rattle.visits.specs.Visits.{visited, begun, admitted}

-- ════ A terminal ════

both_true : (b : Bool) → (b && true) ≡ b
both_true true = refl
both_true false = refl

both_false : (b : Bool) → (b && false) ≡ false
both_false true = refl
both_false false = refl

module _ (m : List ℕ) (at byte : ℕ) where
  pub stands_past : length m ≤ at → (byte_stands m at byte && ltb at 65535) ≡ false
  unfolding byte_stands
  stands_past h = rw (le-ltb at (length m) h)

  pub stands_last : 65535 ≤ at → (byte_stands m at byte && ltb at 65535) ≡ false
  stands_last h = rw (le-ltb at 65535 h) (both_false (byte_stands m at byte))

  pub stands_here : at < length m → at < 65535 → (byte_stands m at byte && ltb at 65535) ≡ eqb (get_or m at 0) byte
  unfolding byte_stands
  stands_here h e = rw (lt-ltb at (length m) h, lt-ltb at 65535 e) (both_true (eqb (get_or m at 0) byte))

  -- a position after such a byte is a position too
  pub stands_small : (byte_stands m at byte && ltb at 65535) ≡ true → at < 65535
  stands_small e = ltb-true at 65535 (both_right (byte_stands m at byte) (ltb at 65535) e)

-- ════ When a visit is due ════

module _ (words literals message : List ℕ) (budget k : ℕ) (r : Run) (w : List ℕ) where
  pub admitted_none : budget ≤ r.visits → admitted words literals message (due budget deepest_visit (r.frames + 1) r.visits) k r w ≡ with r w
  unfolding admitted due
  admitted_none h = rw (le-ltb r.visits budget h)

  pub admitted_deep : r.visits < budget → 256 ≤ r.frames → admitted words literals message (due budget deepest_visit (r.frames + 1) r.visits) k r w ≡ with (staged r (S.Deep k)) w
  unfolding admitted due
  admitted_deep h d = rw (lt-ltb r.visits budget h, lt-leb (r.frames + 1) 256 (omega arith))

  pub admitted_fine : r.visits < budget → r.frames < 256 → admitted words literals message (due budget deepest_visit (r.frames + 1) r.visits) k r w ≡ begun words literals message (node_at words k) k (visited r) w
  unfolding admitted due
  admitted_fine h d = rw (lt-ltb r.visits budget h, le-leb (r.frames + 1) 256 (omega arith))
