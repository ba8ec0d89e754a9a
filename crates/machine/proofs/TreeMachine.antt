-- The machine over parsing trees: a frame for each composite node at work. Assumes nothing: these are definitions.
use mathlib.Core.List.{List, ◌∷◌}
use mathlib.Core.Bool.{cond}
use Prim.Native.Nat.{ℕ, ◌+◌, ◌-◌, ◌*◌}
use lib.ListN.{set, length}
use Rattle.grammar.specs.declared.Ending.TheVariants.{Budget}
use Rattle.grammar.specs.Tree.{Parsing, empty, terminal, sequence, choice, repeat, unless, call, bind, update, constraint, node, rule_of}
use Rattle.grammar.specs.Run.{Slots, Setting, Tally, Applied, matched, failed, ended}
use Rattle.grammar.specs.Run.{eval, eval_all, with_value, judged, fresh, message_part, byte_stands, returning}
use Rattle.machine.proofs.StackMachine.{State, entering, matching, failing, halted, resume, with_arguments, Moves, steps}

-- what a composite node at work keeps: what is to be done next, and the slots (and place) it began with
pub data Frame : Type 0 where
  first : (second : Parsing) (kept : Slots) → Frame  -- of a sequence: its first part is at work
  last : (kept : Slots) → Frame  -- of a sequence or a choice: its second part is at work
  arm : (second : Parsing) (from : ℕ) (kept : Slots) → Frame  -- of a choice: its first part is at work
  round : (part : Parsing) (from : ℕ) (kept : Slots) → Frame  -- of a repeat, with the place and slots after the last full round
  opposing : (from : ℕ) → Frame  -- of a not
  binding : (s from : ℕ) (kept : Slots) → Frame
  calling : (rule : ℕ) (receiving : List ℕ) (kept : Slots) → Frame

abbrev pub Stack : Type 0
Stack = List Frame

abbrev pub TreeState : Type 0
TreeState = State Parsing Frame

module _ (S : Setting) where
  -- a visit, once it is counted
  unfoldable pub begin : Parsing → (at : ℕ) → Slots → Tally → Stack → TreeState
  begin (empty k) at slots t σ = matching at slots t σ
  begin (terminal k byte) at slots t σ = resume (cond (byte_stands S.message at byte) (matched (at + 1) slots t) (failed slots t)) σ
  begin (sequence k p q) at slots t σ = entering p at slots t (first q slots ∷ σ)
  begin (choice k p q) at slots t σ = entering p at slots t (arm q at slots ∷ σ)
  begin (repeat k p) at slots t σ = entering p at slots t (round p at slots ∷ σ)
  begin (unless k p) at slots t σ = entering p at slots t (opposing at ∷ σ)
  begin (call k r arguments receiving) at slots t σ =
      with_arguments (eval_all S slots arguments) t (λ given. entering (rule_of S.grammar r).body at (fresh given) t (calling r receiving slots ∷ σ))
  begin (bind k s p) at slots t σ = entering p at slots t (binding s at slots ∷ σ)
  begin (update k s e) at slots t σ = resume (with_value (eval S slots e) t (λ v. matched at (set slots s v) t)) σ
  begin (constraint k e) at slots t σ = resume (with_value (eval S slots e) t (λ v. judged k v at slots t)) σ

  -- what the topmost frame does when its part has matched
  unfoldable pub on_matched : Frame → (at : ℕ) → Slots → Tally → Stack → TreeState
  on_matched (first q kept) at slots t σ = entering q at slots t (last kept ∷ σ)
  on_matched (last kept) at slots t σ = matching at slots t σ
  on_matched (arm q from kept) at slots t σ = matching at slots t σ
  on_matched (round p from kept) at slots t σ = entering p at slots t (round p at slots ∷ σ)
  on_matched (opposing from) at slots t σ = failing slots t σ
  on_matched (binding s from kept) at slots t σ = matching at (set slots s (message_part from at)) t σ
  on_matched (calling r receiving kept) at slots t σ = resume (returning S r kept receiving at slots t) σ

  -- and when it has failed
  unfoldable pub on_failed : Frame → Slots → Tally → Stack → TreeState
  on_failed (first q kept) slots t σ = failing kept t σ
  on_failed (last kept) slots t σ = failing kept t σ
  on_failed (arm q from kept) slots t σ = entering q from kept t (last kept ∷ σ)
  on_failed (round p from kept) slots t σ = matching from kept t σ
  on_failed (opposing from) slots t σ = matching from slots t σ
  on_failed (binding s from kept) slots t σ = failing kept t σ
  on_failed (calling r receiving kept) slots t σ = failing kept t σ

abbrev pub tree_moves : Setting → Moves Parsing Frame
tree_moves S = record { number = node; begin = begin S; on_matched = on_matched S; on_failed = on_failed S }

-- falls at each step of a machine that is not at rest
unfoldable pub measure : (budget : ℕ) → TreeState → ℕ
measure budget (entering p at slots t σ) = 3 * (budget - t.visits) + 2 * length σ + 1
measure budget (matching at slots t σ) = 3 * (budget - t.visits) + 2 * length σ + 2
measure budget (failing slots t σ) = 3 * (budget - t.visits) + 2 * length σ + 2
measure budget (halted why k t) = 0

-- the machine at rest
unfoldable pub final : Setting → (budget deepest : ℕ) → TreeState → TreeState
final S budget deepest x = steps (tree_moves S) budget deepest (measure budget x) x

-- the result that a machine at rest has come to
unfoldable pub read : TreeState → Applied
read (entering p at slots t σ) = ended Budget (node p) t
read (matching at slots t σ) = matched at slots t
read (failing slots t σ) = failed slots t
read (halted why k t) = ended why k t
