-- Two lists from a place on: the numbers there, and then the rest. Assumes nothing.
use Rattle.std.specs.Prelude.{List, false, ◌&&◌, ◌≡◌, ℕ, ◌+◌, ◌<◌, eqb, get_or, length, drop}
use Rattle.std.proofs.Common.{sym, ◌∙◌, add-one, eq-eqb, ne_eqb}
use Rattle.std.proofs.Math.Seq.{drop-cons}
use Rattle.laws.specs.Same.{same}

module _ (ms ns : List ℕ) (i : ℕ) where
  -- from i on: the numbers at i, and then the rest
  module _ (below : i < length ms) (below_too : i < length ns) where
    same_from : same (drop i ms) (drop i ns) ≡ (eqb (get_or ms i 0) (get_or ns i 0) && same (drop (i + 1) ms) (drop (i + 1) ns))
    unfolding same
    same_from = rw (add-one, drop-cons ms i 0 below, drop-cons ns i 0 below_too)

    pub same_on : get_or ms i 0 ≡ get_or ns i 0 → same (drop (i + 1) ms) (drop (i + 1) ns) ≡ same (drop i ms) (drop i ns)
    same_on e = sym (same_from ∙ rw (eq-eqb (get_or ms i 0) (get_or ns i 0) e))

    pub same_not : (get_or ms i 0 ≡ get_or ns i 0 → ⊥) → false ≡ same (drop i ms) (drop i ns)
    same_not n = sym (same_from ∙ rw (ne_eqb (get_or ms i 0) (get_or ns i 0) n))
