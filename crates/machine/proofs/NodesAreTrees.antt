-- The machine over node numbers goes step for step with the machine over the trees that they stand for. Assumes nothing but that each node's tree is
-- made of its parts' trees and that calls name rules that there are (`Decodes`): the table check gives both.
use mathlib.Core.Path.{◌≡◌, refl, sym, ap, ◌∙◌}
use mathlib.Core.Bool.{Bool, true, false, cond}
use mathlib.Core.List.{List, map}
use Prim.Native.Nat.{ℕ, ◌+◌}
use lib.ListN.{set}
use Rattle.grammar.specs.declared.Node.{Node}
use Rattle.grammar.specs.declared.Node.TheVariants as N
use Rattle.grammar.specs.Words.{inherited_count, returned_count, node_at}
use Rattle.grammar.specs.Tree.{Parsing, four, expr_at, parsing_of, parsing_at, node, rule_of, rule_at, grammar_of}
use Rattle.grammar.specs.Run.{Slots, Setting, Tally, Applied, matched, failed, with_value, judged, receive, byte_stands}
use Rattle.grammar.specs.Run.{returning}
use Rattle.grammar.specs.Answer.{setting_of}
use Rattle.machine.proofs.StackMachine.{resume, steps, meant, meant_resume, meant_arguments, Follows, steps_meant}
use Rattle.machine.proofs.TreeMachine as Tree
use Rattle.machine.proofs.NodeMachine.{NodeFrame, node_frame, NodeFrames, NodeState}
use Rattle.machine.proofs.NodeMachine.{evaluated, evaluated_four, returned_by, begin, on_matched, on_failed, node_moves}

-- the tree of a node of this kind, from its parts' trees
abbrev pub tree_of : (words : List ℕ) → ℕ → Node → Parsing
tree_of words = parsing_of (inherited_count words) (returned_count words) (expr_at words) (parsing_at words)

pub record Decodes (words : List ℕ) : Type 0 where
  pub tree : (k : ℕ) → parsing_at words k ≡ tree_of words k (node_at words k)
  pub callee : (k r a b c d s₀ s₁ s₂ s₃ : ℕ) → node_at words k ≡ N.Call r a b c d s₀ s₁ s₂ s₃ → rule_of (grammar_of words) r ≡ rule_at words r

module _ (words literals message : List ℕ) where
  abbrev S : Setting
  S = setting_of words literals message

  -- what a frame of a node of this kind stands for
  unfoldable pub frame_of : Node → (later : Bool) (from : ℕ) (kept : Slots) → Tree.Frame
  frame_of N.Unknown later from kept = Tree.last kept
  frame_of N.Empty later from kept = Tree.last kept
  frame_of (N.Terminal byte) later from kept = Tree.last kept
  frame_of (N.Sequence a b) later from kept = cond later (Tree.last kept) (Tree.first (parsing_at words b) kept)
  frame_of (N.Choice a b) later from kept = cond later (Tree.last kept) (Tree.arm (parsing_at words b) from kept)
  frame_of (N.Repeat a) later from kept = Tree.round (parsing_at words a) from kept
  frame_of (N.Not a) later from kept = Tree.opposing from
  frame_of (N.Call r a b c d s₀ s₁ s₂ s₃) later from kept = Tree.calling r (four (returned_count words r) s₀ s₁ s₂ s₃) kept
  frame_of (N.Bind s a) later from kept = Tree.binding s from kept
  frame_of (N.Update s e) later from kept = Tree.last kept
  frame_of (N.Constraint e) later from kept = Tree.last kept
  frame_of (N.Bool b) later from kept = Tree.last kept
  frame_of (N.Integer z) later from kept = Tree.last kept
  frame_of (N.Text start len) later from kept = Tree.last kept
  frame_of (N.Slot s) later from kept = Tree.last kept
  frame_of (N.Binary op a b) later from kept = Tree.last kept
  frame_of (N.Negation a) later from kept = Tree.last kept

  abbrev pub tree_frame : NodeFrame → Tree.Frame
  tree_frame frame = frame_of (node_at words frame.node) frame.later frame.from frame.kept

  -- what a state stands for
  abbrev pub state_of : NodeState → Tree.TreeState
  state_of = meant (parsing_at words) tree_frame

  abbrev stack_of : NodeFrames → Tree.Stack
  stack_of = map tree_frame

  resume_is : (r : Applied) (σ : NodeFrames) → state_of (resume r σ) ≡ resume r (stack_of σ)
  resume_is = meant_resume (parsing_at words) tree_frame

  begin_is : (k : ℕ) (n : Node) (at : ℕ) (slots : Slots) (t : Tally) (σ : NodeFrames) → node_at words k ≡ n → Decodes words →
      state_of (begin words literals message k n at slots t σ) ≡ Tree.begin S (tree_of words k n) at slots t (stack_of σ)
  unfolding begin Tree.begin parsing_of meant frame_of rule_at
  begin_is k N.Unknown at slots t σ e D = refl
  begin_is k N.Empty at slots t σ e D = refl
  begin_is k (N.Terminal byte) at slots t σ e D = resume_is (cond (byte_stands message at byte) (matched (at + 1) slots t) (failed slots t)) σ
  begin_is k (N.Sequence a b) at slots t σ e D = rw e
  begin_is k (N.Choice a b) at slots t σ e D = rw e
  begin_is k (N.Repeat a) at slots t σ e D = rw e
  begin_is k (N.Not a) at slots t σ e D = rw e
  begin_is k (N.Call r a b c d s₀ s₁ s₂ s₃) at slots t σ e D =
      meant_arguments (parsing_at words) tree_frame (evaluated_four words literals message (inherited_count words r) a b c d slots) t _ _
      (λ given. rw (e, D.callee k r a b c d s₀ s₁ s₂ s₃ e))
  begin_is k (N.Bind s a) at slots t σ e D = rw e
  begin_is k (N.Update s x) at slots t σ e D = resume_is (with_value (evaluated words literals message x slots) t (λ v. matched at (set slots s v) t)) σ
  begin_is k (N.Constraint x) at slots t σ e D = resume_is (with_value (evaluated words literals message x slots) t (λ v. judged k v at slots t)) σ
  begin_is k (N.Bool b) at slots t σ e D = refl
  begin_is k (N.Integer z) at slots t σ e D = refl
  begin_is k (N.Text start len) at slots t σ e D = refl
  begin_is k (N.Slot s) at slots t σ e D = refl
  begin_is k (N.Binary op a b) at slots t σ e D = refl
  begin_is k (N.Negation a) at slots t σ e D = refl

  module _ (k : ℕ) (from : ℕ) (kept : Slots) where
    on_matched_is : (n : Node) (later : Bool) (at : ℕ) (slots : Slots) (t : Tally) (σ : NodeFrames) → node_at words k ≡ n → Decodes words →
        state_of (on_matched words literals message n (node_frame k later from kept) at slots t σ)
        ≡ Tree.on_matched S (frame_of n later from kept) at slots t (stack_of σ)
    unfolding on_matched Tree.on_matched meant frame_of returning returned_by rule_at
    on_matched_is N.Unknown later at slots t σ e D = refl
    on_matched_is N.Empty later at slots t σ e D = refl
    on_matched_is (N.Terminal byte) later at slots t σ e D = refl
    on_matched_is (N.Sequence a b) false at slots t σ e D = rw e
    on_matched_is (N.Sequence a b) true at slots t σ e D = refl
    on_matched_is (N.Choice a b) false at slots t σ e D = refl
    on_matched_is (N.Choice a b) true at slots t σ e D = refl
    on_matched_is (N.Repeat a) later at slots t σ e D = rw e
    on_matched_is (N.Not a) later at slots t σ e D = refl
    on_matched_is (N.Call r a b c d s₀ s₁ s₂ s₃) later at slots t σ e D =
        rw (D.callee k r a b c d s₀ s₁ s₂ s₃ e)
        (resume_is (with_value (returned_by words literals message r slots) t (λ results. matched at (receive kept (four (returned_count words r) s₀ s₁ s₂ s₃) results) t)) σ)
    on_matched_is (N.Bind s a) later at slots t σ e D = refl
    on_matched_is (N.Update s x) later at slots t σ e D = refl
    on_matched_is (N.Constraint x) later at slots t σ e D = refl
    on_matched_is (N.Bool b) later at slots t σ e D = refl
    on_matched_is (N.Integer z) later at slots t σ e D = refl
    on_matched_is (N.Text start len) later at slots t σ e D = refl
    on_matched_is (N.Slot s) later at slots t σ e D = refl
    on_matched_is (N.Binary op a b) later at slots t σ e D = refl
    on_matched_is (N.Negation a) later at slots t σ e D = refl

    on_failed_is : (n : Node) (later : Bool) (slots : Slots) (t : Tally) (σ : NodeFrames) → node_at words k ≡ n →
        state_of (on_failed n (node_frame k later from kept) slots t σ) ≡ Tree.on_failed S (frame_of n later from kept) slots t (stack_of σ)
    unfolding on_failed Tree.on_failed meant frame_of
    on_failed_is N.Unknown later slots t σ e = refl
    on_failed_is N.Empty later slots t σ e = refl
    on_failed_is (N.Terminal byte) later slots t σ e = refl
    on_failed_is (N.Sequence a b) false slots t σ e = refl
    on_failed_is (N.Sequence a b) true slots t σ e = refl
    on_failed_is (N.Choice a b) false slots t σ e = rw e
    on_failed_is (N.Choice a b) true slots t σ e = refl
    on_failed_is (N.Repeat a) later slots t σ e = refl
    on_failed_is (N.Not a) later slots t σ e = refl
    on_failed_is (N.Call r a b c d s₀ s₁ s₂ s₃) later slots t σ e = refl
    on_failed_is (N.Bind s a) later slots t σ e = refl
    on_failed_is (N.Update s x) later slots t σ e = refl
    on_failed_is (N.Constraint x) later slots t σ e = refl
    on_failed_is (N.Bool b) later slots t σ e = refl
    on_failed_is (N.Integer z) later slots t σ e = refl
    on_failed_is (N.Text start len) later slots t σ e = refl
    on_failed_is (N.Slot s) later slots t σ e = refl
    on_failed_is (N.Binary op a b) later slots t σ e = refl
    on_failed_is (N.Negation a) later slots t σ e = refl

  -- the number of node k's tree is k
  named : (k : ℕ) (n : Node) → node (tree_of words k n) ≡ k
  unfolding node parsing_of
  named k N.Unknown = refl
  named k N.Empty = refl
  named k (N.Terminal byte) = refl
  named k (N.Sequence a b) = refl
  named k (N.Choice a b) = refl
  named k (N.Repeat a) = refl
  named k (N.Not a) = refl
  named k (N.Call r a b c d s₀ s₁ s₂ s₃) = refl
  named k (N.Bind s a) = refl
  named k (N.Update s x) = refl
  named k (N.Constraint x) = refl
  named k (N.Bool b) = refl
  named k (N.Integer z) = refl
  named k (N.Text start len) = refl
  named k (N.Slot s) = refl
  named k (N.Binary op a b) = refl
  named k (N.Negation a) = refl

  module _ (D : Decodes words) where
    pub tree_named : (k : ℕ) → node (parsing_at words k) ≡ k
    tree_named k = ap node (D.tree k) ∙ named k (node_at words k)

    follows : Follows (parsing_at words) tree_frame (node_moves words literals message) (Tree.tree_moves S)
    follows = record {
      named = tree_named;
      begins = λ k at slots t σ.
          begin_is k (node_at words k) at slots t σ refl D ∙ ap (λ p. Tree.begin S p at slots t (stack_of σ)) (sym (D.tree k));
      matches = λ frame at slots t σ.
          on_matched_is frame.node frame.from frame.kept (node_at words frame.node) frame.later at slots t σ refl D;
      fails = λ frame slots t σ. on_failed_is frame.node frame.from frame.kept (node_at words frame.node) frame.later slots t σ refl;
    }

    -- step for step
    pub steps_are : (budget deepest n : ℕ) (x : NodeState) →
        state_of (steps (node_moves words literals message) budget deepest n x) ≡ steps (Tree.tree_moves S) budget deepest n (state_of x)
    steps_are = steps_meant (parsing_at words) tree_frame (node_moves words literals message) (Tree.tree_moves S) follows
