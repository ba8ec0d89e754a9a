-- The walk over a rule's body, as laws' Pile has it: what is still to do stands as what comes of it. Assumes nothing.
use Rattle.std.specs.Prelude.{List, Bool, true, false, ℕ, zero, suc, ◌+◌, ◌*◌, ◌/◌, ◌%◌, ◌^◌, ◌<◌, ltb, length, Option as Optional, ⊤}
use Rattle.std.proofs.Math.Option.{Option, some}
use Rattle.laws.specs.Same.{same}
use Rattle.laws.specs.Pile.{Walking, Piled, Onward, heavy, burden}
use Rattle.grammar.specs.Tree.{parsing_at, grammar_of}
use Rattle.grammar.specs.Types.{Env, provided, and_then, assign, type_of}
use Rattle.table.specs.declared.kinds.Kind.{Kind}
use Rattle.table.specs.declared.kinds.Kind.TheVariants as K
use Rattle.typing.specs.declared.slots.Slots.{Slots}
use Rattle.typing.specs.declared.parsing.Work.{Work}
use Rattle.typing.specs.declared.parsing.Work.TheVariants as W
use Rattle.typing.specs.declared.parsing.Step.{Step}
use Rattle.typing.specs.declared.parsing.Step.TheVariants.{Due, Found}
use Rattle.typing.specs.declared.parsing.Walk.{Walk}
use Rattle.typing.specs.Checked.{Checked, Placed}
use Rattle.typing.specs.Slots.{types_in, told}

-- ════ A node at work ════

-- A node at work is one number: what it keeps, which are slots' types or (a bind) a slot; a tag; and a part that waits
abbrev pub at_work : (kept tag part : ℕ) → ℕ
at_work kept tag part = kept * 65536 + tag * 4096 + part

-- what it keeps
abbrev pub kept_of : ℕ → ℕ
kept_of f = f / 65536

-- the slots that it keeps
abbrev pub slots_of : (kept : ℕ) → Slots
slots_of kept = record { types = kept }

-- its tag
abbrev pub tag_of : ℕ → ℕ
tag_of f = f / 4096 % 16

-- the part that waits
abbrev pub part_of : ℕ → ℕ
part_of f = f % 4096

-- the kinds with parsing parts
unfoldable pub has_parts : Kind → Bool
has_parts K.Sequence = true
has_parts K.Choice = true
has_parts K.Repeat = true
has_parts K.Not = true
has_parts K.Bind = true
has_parts _ = false

-- how a node of such a kind goes to work
unfoldable pub work_of : Kind → Slots → (a b : ℕ) → Work
work_of K.Sequence slots a b = W.Then b
work_of K.Choice slots a b = W.Other b slots
work_of K.Bind slots a b = W.Bind a
work_of _ slots a b = W.Same slots

-- as a number
unfoldable pub packed : Work → ℕ
packed (W.Then part) = at_work 0 0 part
packed (W.Other part start) = at_work start.types 1 part
packed (W.Same start) = at_work start.types 2 0
packed (W.Bind s) = at_work s 3 0

-- the part that waits, 0 where none does
abbrev pub part_in : Work → ℕ
part_in (W.Then part) = part
part_in (W.Other part start) = part
part_in (W.Same start) = 0
part_in (W.Bind s) = 0

-- of what a number tells
abbrev pub by_tag : (tag part kept : ℕ) → Work
by_tag zero part kept = W.Then part
by_tag (suc zero) part kept = W.Other part (slots_of kept)
by_tag (suc (suc zero)) part kept = W.Same (slots_of kept)
by_tag (suc (suc (suc tag))) part kept = W.Bind (kept % 65536)

abbrev pub unpacked : ℕ → Work
unpacked f = by_tag (tag_of f) (part_of f) (kept_of f)

-- the part that is due first
unfoldable pub first_part : Kind → (a b : ℕ) → ℕ
first_part K.Bind a b = b
first_part _ a b = a

-- what comes of the slots that its part left, by its tag
unfoldable pub resumed : (words : List ℕ) → (tag part kept : ℕ) → Env → Option Env
-- 0: the second part of a sequence starts from what the first left
resumed words zero part kept env = type_of (grammar_of words) env (parsing_at words part)
-- 1: the second part of a choice starts as the choice did
resumed words (suc zero) part kept env =
    and_then (type_of (grammar_of words) (types_in (slots_of kept)) (parsing_at words part)) (λ env₂. provided (same env env₂) (some env))
-- 2: the slots must be as they were kept
resumed words (suc (suc zero)) part kept env = provided (same (types_in (slots_of kept)) env) (some (types_in (slots_of kept)))
-- 3: a bind
resumed words (suc (suc (suc tag))) part kept env = assign env (kept % 65536) 3

-- the same of its number, wherever it stands; a rule that its part broke stays broken
unfoldable pub resumed_at : (words : List ℕ) → (place f : ℕ) → Option Env → Option Env
resumed_at words place f o = and_then o (resumed words (tag_of f) (part_of f) (kept_of f))

-- its weight: a second part waits
unfoldable pub work_weight : (place f : ℕ) → ℕ
work_weight place f = burden (ltb (tag_of f) 2) (part_of f)

-- what is known of it: its tag is one of the four, the part that waits has room above it, and what it keeps is a number of 32 bits
pub record Works (words : List ℕ) (room place f : ℕ) : Type 0 where
  pub few : tag_of f < 4
  pub waits : Placed words room (place + 1) (part_of f)
  pub keeps : kept_of f < 2 ^ 32

-- ════ The walk ════

-- node k is due
abbrev pub node_due : (k : ℕ) → Slots → (top : ℕ) → Walk
node_due k slots top = record { step = Due k slots; top = top }

-- these slots were found, or a broken rule
abbrev pub slots_found : Optional Slots → (top : ℕ) → Walk
slots_found left top = record { step = Found left; top = top }

-- what the node that is due leaves, or what was found
unfoldable pub comes_of : (words : List ℕ) → Step → Option Env
comes_of words (Due k slots) = type_of (grammar_of words) (types_in slots) (parsing_at words k)
comes_of words (Found left) = told left

-- the weight of the node that is due
unfoldable pub step_weight : Step → ℕ
step_weight (Due k slots) = heavy k
step_weight (Found left) = 0

-- the code's walk
unfoldable pub walking : (words pile : List ℕ) → Walk → Walking (Option Env)
walking words pile w = record { pile = pile; top = w.top; result = comes_of words w.step; weight = step_weight w.step }

-- the node that is due has room above the nodes at work
abbrev pub Room : (words : List ℕ) (room top : ℕ) → Step → Type 0
Room words room top (Due k slots) = Placed words room top k
Room words room top (Found left) = ⊤

-- what the code may take for granted of it
pub record Walks (words pile : List ℕ) (w : Walk) : Type 0 where
  pub table : Checked words
  pub piled : Piled (Works words (length pile)) pile w.top
  pub due : Room words (length pile) w.top w.step

-- one step
pub record WalkedOn (words pile : List ℕ) (w : Walk) (later : List ℕ) (v : Walk) : Type 0 where
  pub onward : Onward (resumed_at words) work_weight (Works words (length pile)) (walking words pile w) (walking words later v)
  pub due : Room words (length pile) v.top v.step
