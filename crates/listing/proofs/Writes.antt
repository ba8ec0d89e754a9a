-- The writer's answers: what its two passes leave is what Writing.antt says. Assumes nothing.
use Rattle.std.proofs.Common.{Ok, Err}
use mathlib.Core.Path.{◌≡◌, ap, ◌∙◌}
use mathlib.Core.List.{List, [], ◌++◌}
use mathlib.Core.Bool.{true, false}
use Prim.Native.Nat.{ℕ, ◌≤◌, ◌<◌}
use native.Mathlib.Omega.{arith}
use lib.ListN.{length}
use lib.Seq.{sets}
use borrow.Author.Tests.{le-leb, lt-leb}
use Rattle.laws.specs.Stores.{sets_front, over}
use Rattle.grammar.specs.Form.{size_ok}
use Rattle.text.specs.Stored.{Wrote}
use Rattle.text.proofs.Writing.{nothing_stored}
use Rattle.listing.specs.declared.Unwritten.TheVariants.{Size, Out}
use Rattle.listing.specs.Listing.{listing}
use Rattle.listing.specs.Writing.{write, written}
use Rattle.table.proofs.Size.{size_facts}
use Rattle.listing.proofs.Lines.{listing_most}

module _ (words literals text : List ℕ) where
  pub write_size : size_ok words (length literals) ≡ false → written (Err Size) text ≡ write words literals text
  unfolding write
  write_size e = rw e

  module _ (e : size_ok words (length literals) ≡ true) {n : ℕ} {x : List ℕ} (w : Wrote [] 0 (listing words literals) n x) where
    measured : n ≡ length (listing words literals)
    measured = omega (arith, w.next_is, listing_most words literals (size_facts words (length literals) e))

    same : length (x ++ text) ≡ length text
    same = ap length (nothing_stored w text)

    pub write_out : length (x ++ text) < n → written (Err Out) (x ++ text) ≡ write words literals text
    unfolding write
    write_out h =
        rw (e, lt-leb (length (listing words literals)) (length text) (omega (arith, measured, same)))
        (ap (written (Err Out)) (nothing_stored w text))

    pub write_done : {after : List ℕ} → n ≤ length (x ++ text) → after ≡ sets (x ++ text) 0 (listing words literals) → written (Ok n) after ≡ write words literals text
    unfolding write
    write_done {after} h f =
        let g : length (listing words literals) ≤ length text = omega (arith, measured, same) in
        let a : after ≡ over (listing words literals) text =
        f ∙ ap (λ (z : List ℕ). sets z 0 (listing words literals)) (nothing_stored w text) ∙ sets_front text (listing words literals) g in
        rw (e, le-leb (length (listing words literals)) (length text) g, a, ← measured)
