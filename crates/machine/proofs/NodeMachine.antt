-- The machine over a table's node numbers, with one shape of frame: as the code has it, but for the words that hold it. A node that is no parsing
-- node does as an empty one; a frame of a node without parts cannot come about, and would hand on a match and give back its slots at a failure.
-- Assumes nothing: these are definitions.
use mathlib.Core.Bool.{Bool, true, false, cond}
use mathlib.Core.List.{List, ◌∷◌, map}
use Prim.Native.Nat.{ℕ, ◌+◌}
use lib.ListN.{set}
use Rattle.grammar.specs.declared.Value.{Value}
use Rattle.grammar.specs.declared.Node.{Node}
use Rattle.grammar.specs.declared.Node.TheVariants as N
use Rattle.grammar.specs.Words.{rule_word, inherited_count, returned_count, node_at}
use Rattle.grammar.specs.Tree.{four, expr_at}
use Rattle.grammar.specs.Values.{Evaluated}
use Rattle.grammar.specs.Run.{Slots, Tally, eval, eval_all, matched, failed, with_value, judged, fresh, receive, message_part, byte_stands}
use Rattle.grammar.specs.Answer.{setting_of}
use Rattle.machine.proofs.StackMachine.{State, entering, matching, failing, resume, with_arguments, Moves}

-- the node at work, whether its second part is, and the place and slots it began with (a repeat: after the last full round)
pub record NodeFrame : Type 0 where
  pub node : ℕ
  pub later : Bool
  pub from : ℕ
  pub kept : Slots

abbrev pub node_frame : ℕ → Bool → ℕ → Slots → NodeFrame
node_frame k later from kept = record { node = k; later = later; from = from; kept = kept }

abbrev pub NodeFrames : Type 0
NodeFrames = List NodeFrame

abbrev pub NodeState : Type 0
NodeState = State ℕ NodeFrame

-- a return, after a failure, to a node of this kind
unfoldable pub on_failed : Node → NodeFrame → Slots → Tally → NodeFrames → NodeState
on_failed N.Unknown frame slots t σ = failing frame.kept t σ
on_failed N.Empty frame slots t σ = failing frame.kept t σ
on_failed (N.Terminal byte) frame slots t σ = failing frame.kept t σ
on_failed (N.Sequence a b) frame slots t σ = failing frame.kept t σ
on_failed (N.Choice a b) frame slots t σ =
    cond frame.later (failing frame.kept t σ)
    (entering b frame.from frame.kept t (node_frame frame.node true frame.from frame.kept ∷ σ))
on_failed (N.Repeat a) frame slots t σ = matching frame.from frame.kept t σ
on_failed (N.Not a) frame slots t σ = matching frame.from slots t σ
on_failed (N.Call r a b c d s₀ s₁ s₂ s₃) frame slots t σ = failing frame.kept t σ
on_failed (N.Bind s a) frame slots t σ = failing frame.kept t σ
on_failed (N.Update s e) frame slots t σ = failing frame.kept t σ
on_failed (N.Constraint e) frame slots t σ = failing frame.kept t σ
on_failed (N.Bool b) frame slots t σ = failing frame.kept t σ
on_failed (N.Integer z) frame slots t σ = failing frame.kept t σ
on_failed (N.Text start len) frame slots t σ = failing frame.kept t σ
on_failed (N.Slot s) frame slots t σ = failing frame.kept t σ
on_failed (N.Binary op a b) frame slots t σ = failing frame.kept t σ
on_failed (N.Negation a) frame slots t σ = failing frame.kept t σ

module _ (words literals message : List ℕ) where
  -- what expression node k gives in these slots
  abbrev pub evaluated : ℕ → Slots → Evaluated Value
  evaluated k slots = eval (setting_of words literals message) slots (expr_at words k)

  -- what the first n of four expression nodes give, left to right
  abbrev pub evaluated_four : (n a b c d : ℕ) → Slots → Evaluated (List Value)
  evaluated_four n a b c d slots = eval_all (setting_of words literals message) slots (map (expr_at words) (four n a b c d))

  -- what rule r returns in these slots
  unfoldable pub returned_by : ℕ → Slots → Evaluated (List Value)
  returned_by r slots = evaluated_four (returned_count words r) (rule_word words r 7) (rule_word words r 8) (rule_word words r 9) (rule_word words r 10) slots

  -- the visit, once it is counted, of node k, which is of this kind
  unfoldable pub begin : ℕ → Node → (at : ℕ) → Slots → Tally → NodeFrames → NodeState
  begin k N.Unknown at slots t σ = matching at slots t σ
  begin k N.Empty at slots t σ = matching at slots t σ
  begin k (N.Terminal byte) at slots t σ = resume (cond (byte_stands message at byte) (matched (at + 1) slots t) (failed slots t)) σ
  begin k (N.Sequence a b) at slots t σ = entering a at slots t (node_frame k false at slots ∷ σ)
  begin k (N.Choice a b) at slots t σ = entering a at slots t (node_frame k false at slots ∷ σ)
  begin k (N.Repeat a) at slots t σ = entering a at slots t (node_frame k false at slots ∷ σ)
  begin k (N.Not a) at slots t σ = entering a at slots t (node_frame k false at slots ∷ σ)
  begin k (N.Call r a b c d s₀ s₁ s₂ s₃) at slots t σ =
      with_arguments (evaluated_four (inherited_count words r) a b c d slots) t (λ given.
      entering (rule_word words r 0) at (fresh given) t (node_frame k false at slots ∷ σ))
  begin k (N.Bind s a) at slots t σ = entering a at slots t (node_frame k false at slots ∷ σ)
  begin k (N.Update s e) at slots t σ = resume (with_value (evaluated e slots) t (λ v. matched at (set slots s v) t)) σ
  begin k (N.Constraint e) at slots t σ = resume (with_value (evaluated e slots) t (λ v. judged k v at slots t)) σ
  begin k (N.Bool b) at slots t σ = matching at slots t σ
  begin k (N.Integer z) at slots t σ = matching at slots t σ
  begin k (N.Text start len) at slots t σ = matching at slots t σ
  begin k (N.Slot s) at slots t σ = matching at slots t σ
  begin k (N.Binary op a b) at slots t σ = matching at slots t σ
  begin k (N.Negation a) at slots t σ = matching at slots t σ

  -- a return, after a match, to a node of this kind
  unfoldable pub on_matched : Node → NodeFrame → (at : ℕ) → Slots → Tally → NodeFrames → NodeState
  on_matched N.Unknown frame at slots t σ = matching at slots t σ
  on_matched N.Empty frame at slots t σ = matching at slots t σ
  on_matched (N.Terminal byte) frame at slots t σ = matching at slots t σ
  on_matched (N.Sequence a b) frame at slots t σ =
      cond frame.later (matching at slots t σ) (entering b at slots t (node_frame frame.node true frame.from frame.kept ∷ σ))
  on_matched (N.Choice a b) frame at slots t σ = matching at slots t σ
  on_matched (N.Repeat a) frame at slots t σ = entering a at slots t (node_frame frame.node frame.later at slots ∷ σ)
  on_matched (N.Not a) frame at slots t σ = failing slots t σ
  on_matched (N.Call r a b c d s₀ s₁ s₂ s₃) frame at slots t σ =
      resume (with_value (returned_by r slots) t (λ results. matched at (receive frame.kept (four (returned_count words r) s₀ s₁ s₂ s₃) results) t)) σ
  on_matched (N.Bind s a) frame at slots t σ = matching at (set slots s (message_part frame.from at)) t σ
  on_matched (N.Update s e) frame at slots t σ = matching at slots t σ
  on_matched (N.Constraint e) frame at slots t σ = matching at slots t σ
  on_matched (N.Bool b) frame at slots t σ = matching at slots t σ
  on_matched (N.Integer z) frame at slots t σ = matching at slots t σ
  on_matched (N.Text start len) frame at slots t σ = matching at slots t σ
  on_matched (N.Slot s) frame at slots t σ = matching at slots t σ
  on_matched (N.Binary op a b) frame at slots t σ = matching at slots t σ
  on_matched (N.Negation a) frame at slots t σ = matching at slots t σ

  abbrev pub node_moves : Moves ℕ NodeFrame
  node_moves = record {
    number = λ k. k;
    begin = λ k. begin k (node_at words k);
    on_matched = λ frame. on_matched (node_at words frame.node) frame;
    on_failed = λ frame. on_failed (node_at words frame.node) frame;
  }
