-- Everything that the machine over node numbers holds fits the words that the code keeps it in: node numbers and positions are 16-bit numbers, positions
-- lie in the message, values are in range. Assumes nothing but that the table's words are 16-bit numbers and the message is at most 65,535 bytes.
use mathlib.Core.Path.{◌≡◌, refl}
use mathlib.Core.Bool.{Bool, true, false, cond}
use mathlib.Core.List.{List, [], ◌∷◌, ◌++◌}
use Prim.Native.Nat.{ℕ, zero, suc, ◌+◌, ◌-◌, ◌≤◌, ◌<◌}
use native.Mathlib.Omega.{arith}
use borrow.Author.Tests.{ltb-true}
use lib.Dec.{ltb, eqb}
use lib.ListN.{get_or, set, length, replicate}
use Rattle.laws.specs.Tests.{both_left}
use Rattle.grammar.specs.declared.Ending.{Ending}
use Rattle.grammar.specs.declared.Value.{Value}
use Rattle.grammar.specs.declared.Value.TheVariants as Val
use Rattle.grammar.specs.declared.Node.{Node}
use Rattle.grammar.specs.declared.Node.TheVariants as N
use Rattle.grammar.specs.Words.{rule_word, inherited_count, returned_count, node_at}
use Rattle.grammar.specs.Tree.{four}
use Rattle.grammar.specs.Values.{Evaluated}
use Rattle.grammar.specs.Run.{Slots, Setting, Tally, counted, Applied, matched, failed, ended, with_value, judged, fresh, receive, message_part, byte_stands}
use Rattle.grammar.specs.Run.{Due, fine, no_budget, too_deep, due}
use Rattle.grammar.specs.Answer.{setting_of}
use Rattle.values.specs.Slots.{InRange, absent, text}
use Rattle.machine.proofs.StackMachine.{entering, matching, failing, halted, resume, with_arguments, admitted, step}
use Rattle.machine.proofs.NodeMachine.{NodeFrame, node_frame, NodeFrames, NodeState, returned_by, begin, on_matched, on_failed, node_moves}
use Rattle.machine.proofs.Ranges.{Yields, yields, yields_stuck, yields_fault, eval_ranged, eval_all_ranged}
use Rattle.machine.proofs.Ranges.{Short, ShortNode, node_short, AllInRange, ManyInRange}

-- ════ Slots ════

set_ranged : (vs : List Value) (s : ℕ) {v : Value} → AllInRange vs → InRange v → AllInRange (set vs s v)
set_ranged [] s h i = tt
set_ranged (v ∷ vs) zero h i = (i, h.1)
set_ranged (v ∷ vs) (suc s) h i = (h.0, set_ranged vs s h.1 i)

unset_ranged : (n : ℕ) → AllInRange (replicate n Val.Absent)
unset_ranged zero = tt
unset_ranged (suc n) = (absent, unset_ranged n)

append_ranged : (vs ws : List Value) → AllInRange vs → AllInRange ws → AllInRange (vs ++ ws)
append_ranged [] ws h i = i
append_ranged (v ∷ vs) ws h i = (h.0, append_ranged vs ws h.1 i)

pub fresh_ranged : (vs : List Value) → AllInRange vs → AllInRange (fresh vs)
unfolding fresh
fresh_ranged vs h = append_ranged vs (replicate (16 - length vs) Val.Absent) h (unset_ranged (16 - length vs))

receive_ranged : (slots : Slots) (ss : List ℕ) (vs : List Value) → AllInRange slots → AllInRange vs → AllInRange (receive slots ss vs)
unfolding receive
receive_ranged slots [] vs h i = h
receive_ranged slots (s ∷ ss) [] h i = h
receive_ranged slots (s ∷ ss) (v ∷ vs) h i = receive_ranged (set slots s v) ss vs (set_ranged slots s h i.0) i.1

-- ════ States ════

module _ (message : List ℕ) where
  -- positions lie in the message
  abbrev M : ℕ
  M = length message

  pub record FrameFits (frame : NodeFrame) : Type 0 where
    pub inside : frame.from ≤ M
    pub ranged : AllInRange frame.kept

  abbrev pub FramesFit : NodeFrames → Type 0
  FramesFit [] = Unit {0}
  FramesFit (frame ∷ σ) = FrameFits frame × FramesFit σ

  pub record Fits (at : ℕ) (slots : Slots) (σ : NodeFrames) : Type 0 where
    pub inside : at ≤ M
    pub ranged : AllInRange slots
    pub frames : FramesFit σ

  abbrev pub StateFits : NodeState → Type 0
  StateFits (entering k at slots t σ) = (k < 65536) × Fits at slots σ
  StateFits (matching at slots t σ) = Fits at slots σ
  StateFits (failing slots t σ) = Fits 0 slots σ
  StateFits (halted why k t) = Unit {0}

  -- a leaf's result
  data LeafFits : Applied → Type 0 where
    leaf_matched : {at : ℕ} {slots : Slots} {t : Tally} → at ≤ M → AllInRange slots → LeafFits (matched at slots t)
    leaf_failed : {slots : Slots} {t : Tally} → AllInRange slots → LeafFits (failed slots t)
    leaf_ended : {why : Ending} {k : ℕ} {t : Tally} → LeafFits (ended why k t)

  resume_fits : {r : Applied} (σ : NodeFrames) → LeafFits r → FramesFit σ → StateFits (resume r σ)
  unfolding resume
  resume_fits σ (leaf_matched a h) f = record { inside = a; ranged = h; frames = f }
  resume_fits σ (leaf_failed h) f = record { inside = omega arith; ranged = h; frames = f }
  resume_fits σ leaf_ended f = tt

  terminal_fits : (byte at : ℕ) (slots : Slots) (t : Tally) (b : Bool) → byte_stands message at byte ≡ b → AllInRange slots →
      LeafFits (cond b (matched (at + 1) slots t) (failed slots t))
  unfolding byte_stands
  terminal_fits byte at slots t true e h =
      let stands : at < M = ltb-true at M (both_left (ltb at M) (eqb (get_or message at 0) byte) e) in
      let next : at + 1 ≤ M = omega arith in
      leaf_matched next h
  terminal_fits byte at slots t false e h = leaf_failed h

  with_value_fits : {A : Type 0} {P : A → Type 0} {e : Evaluated A} (t : Tally) {f : A → Applied} → Yields P e →
      ((a : A) → P a → LeafFits (f a)) → LeafFits (with_value e t f)
  unfolding with_value
  with_value_fits t (yields {a = a} p) h = h a p
  with_value_fits t yields_stuck h = leaf_ended
  with_value_fits t yields_fault h = leaf_ended

  cond_fits : (b : Bool) {x y : Applied} → LeafFits x → LeafFits y → LeafFits (cond b x y)
  cond_fits true h g = h
  cond_fits false h g = g

  judged_fits : (k : ℕ) (v : Value) (at : ℕ) (slots : Slots) (t : Tally) → at ≤ M → AllInRange slots → LeafFits (judged k v at slots t)
  unfolding judged
  judged_fits k Val.Absent at slots t a h = leaf_ended
  judged_fits k (Val.Bool b) at slots t a h = cond_fits b (leaf_matched a h) (leaf_failed h)
  judged_fits k (Val.Integer z) at slots t a h = leaf_ended
  judged_fits k (Val.Text s) at slots t a h = leaf_ended

  arguments_fit : {count : ℕ} {e : Evaluated (List Value)} (t : Tally) (go : List Value → NodeState) → Yields (ManyInRange count) e →
      ((vs : List Value) → AllInRange vs → StateFits (go vs)) → StateFits (with_arguments e t go)
  unfolding with_arguments
  arguments_fit t go (yields {a = vs} p) h = h vs p.ranged
  arguments_fit t go yields_stuck h = tt
  arguments_fit t go yields_fault h = tt

  -- a part is entered under the frame of its node
  opened_fits : (a k : ℕ) (later : Bool) (at : ℕ) (slots : Slots) (t : Tally) (σ : NodeFrames) → a < 65536 → Fits at slots σ →
      StateFits (entering a at slots t (node_frame k later at slots ∷ σ))
  opened_fits a k later at slots t σ s f =
      (s, record { inside = f.inside; ranged = f.ranged; frames = (record { inside = f.inside; ranged = f.ranged }, f.frames) })

  -- the frames under the topmost
  under : {at : ℕ} {slots : Slots} {frame : NodeFrame} {σ : NodeFrames} → Fits at slots (frame ∷ σ) → Fits at slots σ
  under f = record { inside = f.inside; ranged = f.ranged; frames = f.frames.1 }

  cond_state : (b : Bool) (x y : NodeState) → StateFits x → StateFits y → StateFits (cond b x y)
  cond_state true x y h g = h
  cond_state false x y h g = g

  given_back : {frame : NodeFrame} {slots : Slots} {σ : NodeFrames} → FrameFits frame → Fits 0 slots σ → Fits 0 frame.kept σ
  given_back g f = record { inside = omega arith; ranged = g.ranged; frames = f.frames }

  pub part_ranged : M < 65536 → (from at : ℕ) → from ≤ M → at ≤ M → InRange (message_part from at)
  part_ranged small from at f a =
      let start : from < 65536 = omega arith in
      let long : at - from < 65536 = omega arith in
      text start long

  module _ (words literals : List ℕ) (short : Short words) (small : M < 65536) where
    abbrev S : Setting
    S = setting_of words literals message

    -- what rule r returns: as many values as it says
    pub returned_ranged : (r : ℕ) (slots : Slots) → AllInRange slots →
        Yields (ManyInRange (length (four (returned_count words r) (rule_word words r 7) (rule_word words r 8) (rule_word words r 9) (rule_word words r 10))))
        (returned_by words literals message r slots)
    unfolding returned_by
    returned_ranged r slots h =
        eval_all_ranged S slots h words short (four (returned_count words r) (rule_word words r 7) (rule_word words r 8) (rule_word words r 9) (rule_word words r 10))

    begin_fits : (k : ℕ) (n : Node) (at : ℕ) (slots : Slots) (t : Tally) (σ : NodeFrames) → ShortNode n → Fits at slots σ →
        StateFits (begin words literals message k n at slots t σ)
    unfolding begin
    begin_fits k N.Unknown at slots t σ s f = f
    begin_fits k N.Empty at slots t σ s f = f
    begin_fits k (N.Terminal byte) at slots t σ s f = resume_fits σ (terminal_fits byte at slots t (byte_stands message at byte) refl f.ranged) f.frames
    begin_fits k (N.Sequence a b) at slots t σ s f = opened_fits a k false at slots t σ s.0 f
    begin_fits k (N.Choice a b) at slots t σ s f = opened_fits a k false at slots t σ s.0 f
    begin_fits k (N.Repeat a) at slots t σ s f = opened_fits a k false at slots t σ s f
    begin_fits k (N.Not a) at slots t σ s f = opened_fits a k false at slots t σ s f
    begin_fits k (N.Call r a b c d s₀ s₁ s₂ s₃) at slots t σ s f =
        arguments_fit t _ (eval_all_ranged S slots f.ranged words short (four (inherited_count words r) a b c d)) (λ given h. (
          short _,
          record {
            inside = f.inside;
            ranged = fresh_ranged given h;
            frames = (record { inside = f.inside; ranged = f.ranged }, f.frames);
          },
        ))
    begin_fits k (N.Bind x a) at slots t σ s f = opened_fits a k false at slots t σ s f
    begin_fits k (N.Update x e) at slots t σ s f =
        resume_fits σ (with_value_fits t (eval_ranged S slots f.ranged words short e)
        (λ v h. leaf_matched f.inside (set_ranged slots x f.ranged h))) f.frames
    begin_fits k (N.Constraint e) at slots t σ s f =
        resume_fits σ (with_value_fits t (eval_ranged S slots f.ranged words short e) (λ v h. judged_fits k v at slots t f.inside f.ranged)) f.frames
    begin_fits k (N.Bool b) at slots t σ s f = f
    begin_fits k (N.Integer z) at slots t σ s f = f
    begin_fits k (N.Text start len) at slots t σ s f = f
    begin_fits k (N.Slot x) at slots t σ s f = f
    begin_fits k (N.Binary op a b) at slots t σ s f = f
    begin_fits k (N.Negation a) at slots t σ s f = f

    on_matched_fits : (n : Node) (frame : NodeFrame) (at : ℕ) (slots : Slots) (t : Tally) (σ : NodeFrames) → ShortNode n → FrameFits frame → Fits at slots σ →
        StateFits (on_matched words literals message n frame at slots t σ)
    unfolding on_matched
    on_matched_fits N.Unknown frame at slots t σ s g f = f
    on_matched_fits N.Empty frame at slots t σ s g f = f
    on_matched_fits (N.Terminal byte) frame at slots t σ s g f = f
    on_matched_fits (N.Sequence a b) frame at slots t σ s g f =
        cond_state frame.later (matching at slots t σ) (entering b at slots t (node_frame frame.node true frame.from frame.kept ∷ σ)) f
        (s.1, record { inside = f.inside; ranged = f.ranged; frames = (record { inside = g.inside; ranged = g.ranged }, f.frames) })
    on_matched_fits (N.Choice a b) frame at slots t σ s g f = f
    on_matched_fits (N.Repeat a) frame at slots t σ s g f = opened_fits a frame.node frame.later at slots t σ s f
    on_matched_fits (N.Not a) frame at slots t σ s g f = record { inside = omega arith; ranged = f.ranged; frames = f.frames }
    on_matched_fits (N.Call r a b c d s₀ s₁ s₂ s₃) frame at slots t σ s g f =
        resume_fits σ (with_value_fits t (returned_ranged r slots f.ranged)
        (λ vs h. leaf_matched f.inside (receive_ranged frame.kept (four (returned_count words r) s₀ s₁ s₂ s₃) vs g.ranged h.ranged))) f.frames
    on_matched_fits (N.Bind x a) frame at slots t σ s g f =
        record { inside = f.inside; ranged = set_ranged slots x f.ranged (part_ranged small frame.from at g.inside f.inside); frames = f.frames }
    on_matched_fits (N.Update x e) frame at slots t σ s g f = f
    on_matched_fits (N.Constraint e) frame at slots t σ s g f = f
    on_matched_fits (N.Bool b) frame at slots t σ s g f = f
    on_matched_fits (N.Integer z) frame at slots t σ s g f = f
    on_matched_fits (N.Text start len) frame at slots t σ s g f = f
    on_matched_fits (N.Slot x) frame at slots t σ s g f = f
    on_matched_fits (N.Binary op a b) frame at slots t σ s g f = f
    on_matched_fits (N.Negation a) frame at slots t σ s g f = f

    on_failed_fits : (n : Node) (frame : NodeFrame) (slots : Slots) (t : Tally) (σ : NodeFrames) → ShortNode n → FrameFits frame → Fits 0 slots σ →
        StateFits (on_failed n frame slots t σ)
    unfolding on_failed
    on_failed_fits N.Unknown frame slots t σ s g f = given_back g f
    on_failed_fits N.Empty frame slots t σ s g f = given_back g f
    on_failed_fits (N.Terminal byte) frame slots t σ s g f = given_back g f
    on_failed_fits (N.Sequence a b) frame slots t σ s g f = given_back g f
    on_failed_fits (N.Choice a b) frame slots t σ s g f =
        cond_state frame.later (failing frame.kept t σ)
        (entering b frame.from frame.kept t (node_frame frame.node true frame.from frame.kept ∷ σ)) (given_back g f)
        (s.1, record { inside = g.inside; ranged = g.ranged; frames = (record { inside = g.inside; ranged = g.ranged }, f.frames) })
    on_failed_fits (N.Repeat a) frame slots t σ s g f = record { inside = g.inside; ranged = g.ranged; frames = f.frames }
    on_failed_fits (N.Not a) frame slots t σ s g f = record { inside = g.inside; ranged = f.ranged; frames = f.frames }
    on_failed_fits (N.Call r a b c d s₀ s₁ s₂ s₃) frame slots t σ s g f = given_back g f
    on_failed_fits (N.Bind x a) frame slots t σ s g f = given_back g f
    on_failed_fits (N.Update x e) frame slots t σ s g f = given_back g f
    on_failed_fits (N.Constraint e) frame slots t σ s g f = given_back g f
    on_failed_fits (N.Bool b) frame slots t σ s g f = given_back g f
    on_failed_fits (N.Integer z) frame slots t σ s g f = given_back g f
    on_failed_fits (N.Text start len) frame slots t σ s g f = given_back g f
    on_failed_fits (N.Slot x) frame slots t σ s g f = given_back g f
    on_failed_fits (N.Binary op a b) frame slots t σ s g f = given_back g f
    on_failed_fits (N.Negation a) frame slots t σ s g f = given_back g f

    admitted_fits : (d : Due) (k at : ℕ) (slots : Slots) (t : Tally) (σ : NodeFrames) → k < 65536 → Fits at slots σ →
        StateFits (admitted (node_moves words literals message) d k at slots t σ)
    unfolding admitted
    admitted_fits fine k at slots t σ s f = begin_fits k (node_at words k) at slots (counted t) σ (node_short words short k) f
    admitted_fits no_budget k at slots t σ s f = (s, f)
    admitted_fits too_deep k at slots t σ s f = tt

    pub step_fits : (budget deepest : ℕ) (x : NodeState) → StateFits x → StateFits (step (node_moves words literals message) budget deepest x)
    unfolding step
    step_fits budget deepest (entering k at slots t σ) f = admitted_fits (due budget deepest (suc (length σ)) t.visits) k at slots t σ f.0 f.1
    step_fits budget deepest (matching at slots t []) f = f
    step_fits budget deepest (matching at slots t (frame ∷ σ)) f =
        on_matched_fits (node_at words frame.node) frame at slots t σ (node_short words short frame.node) f.frames.0 (under f)
    step_fits budget deepest (failing slots t []) f = f
    step_fits budget deepest (failing slots t (frame ∷ σ)) f =
        on_failed_fits (node_at words frame.node) frame slots t σ (node_short words short frame.node) f.frames.0 (under f)
    step_fits budget deepest (halted why k t) f = tt
