-- Where a value's bytes stand, a case each. Assumes nothing.
use mathlib.Core.Path.{◌≡◌, refl}
use mathlib.Core.Bool.{true, false, cond}
use Prim.Native.Nat.{ℕ, ◌+◌, ◌*◌}
use lib.Dec.{leb}
use Rattle.grammar.specs.declared.Span.{Span}
use Rattle.grammar.specs.declared.Value.{Value}
use Rattle.grammar.specs.declared.Value.TheVariants as Val
use Rattle.exports.specs.Boundary.{part_word}

pub no_part : (message literals : ℕ) (v : Value) → ((s : Span) → v ≡ Val.Text s → ⊥) → 0 ≡ part_word message literals v
unfolding part_word
no_part message literals Val.Absent h = refl
no_part message literals (Val.Bool b) h = refl
no_part message literals (Val.Integer z) h = refl
no_part message literals (Val.Text s) h = absurd (h s refl)

module _ (message literals : ℕ) (s : Span) where
  abbrev within : ℕ → ℕ
  within slice = cond (leb (s.start + s.length) slice) (cond s.literal 4294967296 0 + s.start * 65536 + s.length) 0

  pub in_literals : s.literal ≡ true → within literals ≡ part_word message literals (Val.Text s)
  unfolding part_word
  in_literals e = rw e

  pub in_message : s.literal ≡ false → within message ≡ part_word message literals (Val.Text s)
  unfolding part_word
  in_message e = rw e
