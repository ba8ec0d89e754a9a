-- The visit of a node by its kind, with the fields that this kind has. Assumes nothing.
use mathlib.Core.Bool.{◌&&◌}
use mathlib.Core.List.{List}
use mathlib.Core.Logic.{◌⊎◌, ⊎_elim}
use mathlib.Core.Path.{◌≡◌, refl, sym, ap, ◌∙◌}
use Prim.Native.Nat.{ℕ, ◌≤◌, ◌<◌}
use native.Mathlib.Nat.{eq-or-lt_of_le}
use native.Mathlib.Omega.{arith}
use lib.Dec.{ltb}
use Rattle.grammar.specs.declared.Node.{Node}
use Rattle.grammar.specs.Words.{kind_at, node_at, node_for, node_word, nodes}
use Rattle.grammar.specs.Run.{byte_stands}
use Rattle.table.specs.declared.kinds.Kind.{Kind}
use Rattle.table.specs.declared.kinds.Kind.TheVariants as K
use Rattle.table.specs.Kinds.{kind_of, node_from}
use Rattle.table.proofs.Numbers.{node_read}
use Rattle.stages.specs.declared.Stage.TheVariants as S
use Rattle.stages.specs.declared.Run.{Run}
use Rattle.stages.specs.Stages.{Stepped, with, staged}
use Rattle.visits.specs.Visits.{consumed, opened, begun}
use Rattle.table.proofs.Decoding.{node_of}

module _ (words literals message : List ℕ) (k : ℕ) (r : Run) (w : List ℕ) where
  -- the node that a kind and the fields of node k's record make
  abbrev pub made : Kind → Node
  made kind = node_from kind (node_word words k 1) (node_word words k 2) (node_word words k 3) (node_word words k 4) (node_word words k 5) (node_word words k 6) (node_word words k 7) (node_word words k 8) (node_word words k 9)

  abbrev pub begun_as : Kind → Stepped
  begun_as kind = begun words literals message (made kind) k r w

  module _ (number : ℕ) (read : Kind) (at : number ≡ kind_at words k) (is : read ≡ kind_of number) where
    -- the kind that was read is the node's
    pub begun_by : (known : Kind) → read ≡ known → begun_as known ≡ begun words literals message (node_at words k) k r w
    begun_by known e = ap (λ (n : Node). begun words literals message n k r w) (node_read words k at is known e)

    -- sequence, choice, repeat and not open their first part
    pub begun_first : (read ≡ K.Sequence) ⊎ ((read ≡ K.Choice) ⊎ ((read ≡ K.Repeat) ⊎ (read ≡ K.Not)))
        → opened k (node_word words k 1) r w ≡ begun words literals message (node_at words k) k r w
    unfolding begun
    begun_first = ⊎_elim (begun_by K.Sequence) (⊎_elim (begun_by K.Choice) (⊎_elim (begun_by K.Repeat) (begun_by K.Not)))

  -- the kinds that do something; every other is empty, or no parsing node
  begun_other : (kind : Kind) → (kind ≡ K.Terminal → ⊥) → (kind ≡ K.Sequence → ⊥) → (kind ≡ K.Choice → ⊥) → (kind ≡ K.Repeat → ⊥) → (kind ≡ K.Not → ⊥)
      → (kind ≡ K.Call → ⊥) → (kind ≡ K.Bind → ⊥) → (kind ≡ K.Update → ⊥) → (kind ≡ K.Constraint → ⊥) → with (staged r S.Matched) w ≡ begun_as kind
  unfolding begun
  begun_other K.Unknown h₂ h₃ h₄ h₅ h₆ h₇ h₈ h₉ h₁₀ = refl
  begun_other K.Empty h₂ h₃ h₄ h₅ h₆ h₇ h₈ h₉ h₁₀ = refl
  begun_other K.Terminal h₂ h₃ h₄ h₅ h₆ h₇ h₈ h₉ h₁₀ = absurd (h₂ refl)
  begun_other K.Sequence h₂ h₃ h₄ h₅ h₆ h₇ h₈ h₉ h₁₀ = absurd (h₃ refl)
  begun_other K.Choice h₂ h₃ h₄ h₅ h₆ h₇ h₈ h₉ h₁₀ = absurd (h₄ refl)
  begun_other K.Repeat h₂ h₃ h₄ h₅ h₆ h₇ h₈ h₉ h₁₀ = absurd (h₅ refl)
  begun_other K.Not h₂ h₃ h₄ h₅ h₆ h₇ h₈ h₉ h₁₀ = absurd (h₆ refl)
  begun_other K.Call h₂ h₃ h₄ h₅ h₆ h₇ h₈ h₉ h₁₀ = absurd (h₇ refl)
  begun_other K.Bind h₂ h₃ h₄ h₅ h₆ h₇ h₈ h₉ h₁₀ = absurd (h₈ refl)
  begun_other K.Update h₂ h₃ h₄ h₅ h₆ h₇ h₈ h₉ h₁₀ = absurd (h₉ refl)
  begun_other K.Constraint h₂ h₃ h₄ h₅ h₆ h₇ h₈ h₉ h₁₀ = absurd (h₁₀ refl)
  begun_other K.Bool h₂ h₃ h₄ h₅ h₆ h₇ h₈ h₉ h₁₀ = refl
  begun_other K.Integer h₂ h₃ h₄ h₅ h₆ h₇ h₈ h₉ h₁₀ = refl
  begun_other K.Text h₂ h₃ h₄ h₅ h₆ h₇ h₈ h₉ h₁₀ = refl
  begun_other K.Slot h₂ h₃ h₄ h₅ h₆ h₇ h₈ h₉ h₁₀ = refl
  begun_other K.Add h₂ h₃ h₄ h₅ h₆ h₇ h₈ h₉ h₁₀ = refl
  begun_other K.Subtract h₂ h₃ h₄ h₅ h₆ h₇ h₈ h₉ h₁₀ = refl
  begun_other K.Multiply h₂ h₃ h₄ h₅ h₆ h₇ h₈ h₉ h₁₀ = refl
  begun_other K.Divide h₂ h₃ h₄ h₅ h₆ h₇ h₈ h₉ h₁₀ = refl
  begun_other K.Equal h₂ h₃ h₄ h₅ h₆ h₇ h₈ h₉ h₁₀ = refl
  begun_other K.Greater h₂ h₃ h₄ h₅ h₆ h₇ h₈ h₉ h₁₀ = refl
  begun_other K.And h₂ h₃ h₄ h₅ h₆ h₇ h₈ h₉ h₁₀ = refl
  begun_other K.Or h₂ h₃ h₄ h₅ h₆ h₇ h₈ h₉ h₁₀ = refl
  begun_other K.Negation h₂ h₃ h₄ h₅ h₆ h₇ h₈ h₉ h₁₀ = refl

  module _ (number : ℕ) (read : Kind) (at : number ≡ kind_at words k) (is : read ≡ kind_of number) where
    pub begun_none : (read ≡ K.Terminal → ⊥) → (read ≡ K.Sequence → ⊥) → (read ≡ K.Choice → ⊥) → (read ≡ K.Repeat → ⊥) → (read ≡ K.Not → ⊥)
        → (read ≡ K.Call → ⊥) → (read ≡ K.Bind → ⊥) → (read ≡ K.Update → ⊥) → (read ≡ K.Constraint → ⊥)
        → with (staged r S.Matched) w ≡ begun words literals message (node_at words k) k r w
    begun_none h₂ h₃ h₄ h₅ h₆ h₇ h₈ h₉ h₁₀ = begun_other read h₂ h₃ h₄ h₅ h₆ h₇ h₈ h₉ h₁₀ ∙ begun_by number read at is read refl

  -- by the number itself: a terminal; and sequence, choice, repeat and not, which open their first part
  pub begun_terminal : kind_at words k ≡ 2 →
      begun words literals message (node_at words k) k r w ≡ with (consumed (byte_stands message r.at (node_word words k 1) && ltb r.at 65535) r) w
  unfolding begun node_for nodes
  begun_terminal e = rw (node_of words k 2 e)

  begun_sequence : kind_at words k ≡ 3 → begun words literals message (node_at words k) k r w ≡ opened k (node_word words k 1) r w
  unfolding begun node_for nodes
  begun_sequence e = rw (node_of words k 3 e)

  begun_choice : kind_at words k ≡ 4 → begun words literals message (node_at words k) k r w ≡ opened k (node_word words k 1) r w
  unfolding begun node_for nodes
  begun_choice e = rw (node_of words k 4 e)

  begun_repeat : kind_at words k ≡ 5 → begun words literals message (node_at words k) k r w ≡ opened k (node_word words k 1) r w
  unfolding begun node_for nodes
  begun_repeat e = rw (node_of words k 5 e)

  begun_not : kind_at words k ≡ 6 → begun words literals message (node_at words k) k r w ≡ opened k (node_word words k 1) r w
  unfolding begun node_for nodes
  begun_not e = rw (node_of words k 6 e)

  pub begun_part : 3 ≤ kind_at words k → kind_at words k < 7 → begun words literals message (node_at words k) k r w ≡ opened k (node_word words k 1) r w
  begun_part low high =
      ⊎_elim (λ (e : 3 ≡ kind_at words k). begun_sequence (sym e))
      (λ (h₄ : 3 < kind_at words k). ⊎_elim (λ (e : 4 ≡ kind_at words k). begun_choice (sym e))
      (λ (h₅ : 4 < kind_at words k). ⊎_elim (λ (e : 5 ≡ kind_at words k). begun_repeat (sym e))
      (λ (h₆ : 5 < kind_at words k). begun_not (omega arith))
      (eq-or-lt_of_le (omega arith))) (eq-or-lt_of_le (omega arith))) (eq-or-lt_of_le low)
