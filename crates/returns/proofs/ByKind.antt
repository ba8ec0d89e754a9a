-- A return to a node by its kind, with the fields that this kind has. Assumes nothing.
use mathlib.Core.List.{List}
use mathlib.Core.Path.{◌≡◌, refl, sym, ap, ◌∙◌}
use Prim.Native.Nat.{ℕ}
use Rattle.grammar.specs.declared.Node.{Node}
use Rattle.grammar.specs.Words.{kind_at, node_at, node_word}
use Rattle.table.specs.declared.kinds.Kind.{Kind}
use Rattle.table.specs.declared.kinds.Kind.TheVariants as K
use Rattle.table.specs.Kinds.{kind_of, node_from}
use Rattle.table.proofs.Numbers.{node_read}
use Rattle.frames.specs.Frames.{phase_in}
use Rattle.stages.specs.declared.Stage.TheVariants as S
use Rattle.stages.specs.declared.Run.{Run}
use Rattle.stages.specs.Stages.{Stepped, with, moved}
use Rattle.returns.specs.Returns.{sequence_matched, choice_failed, given_back, matched_in, failed_in}

-- the node that a kind and the fields of node k's record make
abbrev pub made : (words : List ℕ) (k : ℕ) → Kind → Node
made words k kind = node_from kind (node_word words k 1) (node_word words k 2) (node_word words k 3) (node_word words k 4) (node_word words k 5) (node_word words k 6) (node_word words k 7) (node_word words k 8) (node_word words k 9)

module _ (words literals message : List ℕ) (k d : ℕ) (r : Run) (w : List ℕ) where
  abbrev pub matched_as : Kind → Stepped
  matched_as kind = matched_in words literals message (made words k kind) d r w

  abbrev pub failed_as : Kind → Stepped
  failed_as kind = failed_in (made words k kind) d r w

  -- the kinds that go on; with every other the node has matched
  matched_other : (kind : Kind) → (kind ≡ K.Sequence → ⊥) → (kind ≡ K.Repeat → ⊥) → (kind ≡ K.Not → ⊥) → (kind ≡ K.Call → ⊥) → (kind ≡ K.Bind → ⊥) → with (moved r S.Matched r.at d) w ≡ matched_as kind
  unfolding matched_in
  matched_other K.Unknown h0 h1 h2 h3 h4 = refl
  matched_other K.Empty h0 h1 h2 h3 h4 = refl
  matched_other K.Terminal h0 h1 h2 h3 h4 = refl
  matched_other K.Sequence h0 h1 h2 h3 h4 = absurd (h0 refl)
  matched_other K.Choice h0 h1 h2 h3 h4 = refl
  matched_other K.Repeat h0 h1 h2 h3 h4 = absurd (h1 refl)
  matched_other K.Not h0 h1 h2 h3 h4 = absurd (h2 refl)
  matched_other K.Call h0 h1 h2 h3 h4 = absurd (h3 refl)
  matched_other K.Bind h0 h1 h2 h3 h4 = absurd (h4 refl)
  matched_other K.Update h0 h1 h2 h3 h4 = refl
  matched_other K.Constraint h0 h1 h2 h3 h4 = refl
  matched_other K.Bool h0 h1 h2 h3 h4 = refl
  matched_other K.Integer h0 h1 h2 h3 h4 = refl
  matched_other K.Text h0 h1 h2 h3 h4 = refl
  matched_other K.Slot h0 h1 h2 h3 h4 = refl
  matched_other K.Add h0 h1 h2 h3 h4 = refl
  matched_other K.Subtract h0 h1 h2 h3 h4 = refl
  matched_other K.Multiply h0 h1 h2 h3 h4 = refl
  matched_other K.Divide h0 h1 h2 h3 h4 = refl
  matched_other K.Equal h0 h1 h2 h3 h4 = refl
  matched_other K.Greater h0 h1 h2 h3 h4 = refl
  matched_other K.And h0 h1 h2 h3 h4 = refl
  matched_other K.Or h0 h1 h2 h3 h4 = refl
  matched_other K.Negation h0 h1 h2 h3 h4 = refl

  -- the kinds that go back; with every other the node has failed
  failed_other : (kind : Kind) → (kind ≡ K.Choice → ⊥) → (kind ≡ K.Repeat → ⊥) → (kind ≡ K.Not → ⊥) → given_back d r w ≡ failed_as kind
  unfolding failed_in
  failed_other K.Unknown h0 h1 h2 = refl
  failed_other K.Empty h0 h1 h2 = refl
  failed_other K.Terminal h0 h1 h2 = refl
  failed_other K.Sequence h0 h1 h2 = refl
  failed_other K.Choice h0 h1 h2 = absurd (h0 refl)
  failed_other K.Repeat h0 h1 h2 = absurd (h1 refl)
  failed_other K.Not h0 h1 h2 = absurd (h2 refl)
  failed_other K.Call h0 h1 h2 = refl
  failed_other K.Bind h0 h1 h2 = refl
  failed_other K.Update h0 h1 h2 = refl
  failed_other K.Constraint h0 h1 h2 = refl
  failed_other K.Bool h0 h1 h2 = refl
  failed_other K.Integer h0 h1 h2 = refl
  failed_other K.Text h0 h1 h2 = refl
  failed_other K.Slot h0 h1 h2 = refl
  failed_other K.Add h0 h1 h2 = refl
  failed_other K.Subtract h0 h1 h2 = refl
  failed_other K.Multiply h0 h1 h2 = refl
  failed_other K.Divide h0 h1 h2 = refl
  failed_other K.Equal h0 h1 h2 = refl
  failed_other K.Greater h0 h1 h2 = refl
  failed_other K.And h0 h1 h2 = refl
  failed_other K.Or h0 h1 h2 = refl
  failed_other K.Negation h0 h1 h2 = refl

  -- the kind that was read is the node's
  module _ {number : ℕ} {read : Kind} (at : number ≡ kind_at words k) (is : read ≡ kind_of number) where
    pub matched_by : (known : Kind) → read ≡ known → matched_as known ≡ matched_in words literals message (node_at words k) d r w
    matched_by known e = ap (λ (n : Node). matched_in words literals message n d r w) (node_read words k at is known e)

    pub failed_by : (known : Kind) → read ≡ known → failed_as known ≡ failed_in (node_at words k) d r w
    failed_by known e = ap (λ (n : Node). failed_in n d r w) (node_read words k at is known e)

    pub matched_none : (read ≡ K.Sequence → ⊥) → (read ≡ K.Repeat → ⊥) → (read ≡ K.Not → ⊥) → (read ≡ K.Call → ⊥) → (read ≡ K.Bind → ⊥)
        → with (moved r S.Matched r.at d) w ≡ matched_in words literals message (node_at words k) d r w
    matched_none h0 h1 h2 h3 h4 = matched_other read h0 h1 h2 h3 h4 ∙ matched_by read refl

    pub failed_none : (read ≡ K.Choice → ⊥) → (read ≡ K.Repeat → ⊥) → (read ≡ K.Not → ⊥) → given_back d r w ≡ failed_in (node_at words k) d r w
    failed_none h0 h1 h2 = failed_other read h0 h1 h2 ∙ failed_by read refl

  -- a sequence and a choice, by their numbers
  pub matched_sequence : kind_at words k ≡ 3 → matched_in words literals message (node_at words k) d r w ≡ sequence_matched (phase_in w d) (node_word words k 2) d r w
  unfolding matched_in
  matched_sequence e = sym (matched_by (sym e) refl K.Sequence refl)

  pub failed_sequence : kind_at words k ≡ 3 → failed_in (node_at words k) d r w ≡ given_back d r w
  unfolding failed_in
  failed_sequence e = sym (failed_by (sym e) refl K.Sequence refl)

  pub matched_choice : kind_at words k ≡ 4 → matched_in words literals message (node_at words k) d r w ≡ with (moved r S.Matched r.at d) w
  unfolding matched_in
  matched_choice e = sym (matched_by (sym e) refl K.Choice refl)

  pub failed_choice : kind_at words k ≡ 4 → failed_in (node_at words k) d r w ≡ choice_failed (phase_in w d) (node_word words k 2) d r w
  unfolding failed_in
  failed_choice e = sym (failed_by (sym e) refl K.Choice refl)
