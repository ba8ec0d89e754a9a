-- What stands above the pile, lent: how long it is, and that what is below stays. Assumes nothing.
use mathlib.Core.Path.{◌≡◌, sym, ap, ◌∙◌}
use mathlib.Core.List.{List}
use Prim.Native.Nat.{ℕ, ◌-◌, ◌≤◌}
use native.Mathlib.Omega.{arith}
use lib.ListN.{get_or, length, take, drop, length-take, length-drop}
use lib.Seq.{get_or-take}
use borrow.Rule.Slice.PartMut.{put_mid, take_put}
use Rattle.laws.specs.Pile.{Alike}

pub part_length : (pile : List ℕ) (a : ℕ) → length (take (length pile - a) (drop a pile)) ≡ length pile - a
part_length pile a = length-take (length pile - a) (drop a pile) ∙ rw (length-drop a pile) (omega arith)

pub part_alike : (pile ys : List ℕ) (a k : ℕ) → a ≤ length pile → Alike a pile (put_mid a k pile ys)
part_alike pile ys a k h i l =
    sym (get_or-take a (put_mid a k pile ys) i 0 l) ∙ ap (λ (xs : List ℕ). get_or xs i 0) (take_put a k pile ys h) ∙ get_or-take a pile i 0 l
