-- The walk over an expression: what it has still to do, as what comes of it. Assumes nothing.
use Rattle.std.specs.Prelude.{◌≡◌, Bool, true, false, cond, List, ℕ, ◌+◌, ◌*◌, ◌-◌, ◌/◌, ◌%◌, ◌<◌, ◌≤◌, eqb, ltb, leb, set, length, take}
use Rattle.std.specs.Bool.{beq}
use Rattle.laws.specs.Pile.{Walking, Piled, Onward, comes_to, heavy}
use Rattle.grammar.specs.declared.Operator.{Operator}
use Rattle.grammar.specs.declared.Value.{Value}
use Rattle.grammar.specs.Answer.{setting_of}
use Rattle.grammar.specs.Run.{Setting, Slots, eval}
use Rattle.grammar.specs.Tree.{expr_of, expr_with}
use Rattle.grammar.specs.Values.{Evaluated, value, after, look_left, operate, negated}
use Rattle.table.specs.Fields.{node_of_two}
use Rattle.table.specs.declared.records.Head.{Head}
use Rattle.values.specs.Slots.{slots_of, value_of}
use Rattle.expressions.specs.declared.results.Given.{Given}
use Rattle.expressions.specs.declared.walks.Halfway.{Halfway}
use Rattle.expressions.specs.declared.walks.Walk.{Walk}
use Rattle.expressions.specs.declared.walks.Way.{Way}
use Rattle.expressions.specs.declared.walks.Way.TheVariants.{Begins, Found, Left, Both}
use Rattle.expressions.specs.Given.{given, held, operator_of}

-- what doesn't change during a walk
pub record Asked : Type 0 where
  pub setting : Setting
  pub slots : Slots
  pub words : List ℕ
  pub levels : ℕ

-- the same from what code is lent: the slots are the first 32 words
abbrev pub asked : (words literals message slots : List ℕ) (levels : ℕ) → Asked
asked words literals message slots levels =
    record { setting = setting_of words literals message; slots = slots_of (take 32 slots); words = words; levels = levels }

-- ════ Operators at work ════

-- operator k at work: its left operand is due and node b is the right one; its right operand is, and the left gave a value; a not, whose operand is due
pub data Work : Type 0 where
  left : (k : ℕ) → Operator → (b : ℕ) → Work
  right : (k : ℕ) → Operator → Value → Work
  opposing : (k : ℕ) → Work

-- operator j of node k, when it begins: 8 is not, and so is every number above it
abbrev pub work_of : (j k b : ℕ) → Work
work_of j k b = cond (ltb j 8) (left k (operator_of j) b) (opposing k)

-- An operator at work is one number, in two halves. The upper: 16777216 (the left value's tag + 1) + 65536 (operator) + node, without the first part while the left operand is
-- due. The lower: node b, or the left value's payload
abbrev pub at_work : (upper lower : ℕ) → ℕ
at_work upper lower = upper * 4294967296 + lower

-- what two halves say
unfoldable pub work_in : (upper lower : ℕ) → Work
work_in upper lower =
    cond (ltb 0 (upper / 16777216))
    (right (upper % 65536) (operator_of (upper / 65536 % 256)) (value_of (upper / 16777216 - 1) lower))
    (work_of (upper / 65536 % 256) (upper % 65536) (lower % 65536))

-- what a number says
abbrev pub work_at : ℕ → Work
work_at f = work_in (f / 4294967296) (f % 4294967296)

-- what is known of the number at place i: its operands are on a level that is looked at
abbrev pub Within : (levels i f : ℕ) → Type 0
Within levels i f = i + 1 < levels

-- so many numbers of a pile
abbrev pub Filled : (levels : ℕ) → List ℕ → ℕ → Type 0
Filled levels pile n = Piled (Within levels) pile n

module _ (A : Asked) where
  -- what node k gives under n operators at work: so many levels less are looked at
  abbrev pub gives_at : (n k : ℕ) → Evaluated Value
  gives_at n k = eval A.setting A.slots (expr_with (A.levels - n) A.words k)

  -- what the whole walk from node k must give
  abbrev pub came : ℕ → Evaluated Value
  came k = eval A.setting A.slots (expr_with A.levels A.words k)

  -- operator k has its left value v, and wants node b as right operand
  abbrev pub with_right : (n k : ℕ) → Operator → (b : ℕ) → Value → Evaluated Value
  with_right n k op b v = after (gives_at n b) (λ w. operate A.setting.message A.setting.literals op k v w)

  -- the same, if it is wanted: 'And, or look at the left value first'
  abbrev pub with_left : (n k : ℕ) → Operator → (b : ℕ) → Value → Evaluated Value
  with_left n k op b v = look_left A.setting.message A.setting.literals op k v (with_right n k op b v)

  -- what an operator at work, under i others, makes of the result it waits for
  unfoldable pub resolved : ℕ → Work → Evaluated Value → Evaluated Value
  resolved i (left k op b) r = after r (with_left (i + 1) k op b)
  resolved i (right k op v) r = after r (λ w. operate A.setting.message A.setting.literals op k v w)
  resolved i (opposing k) r = after r (negated k)

  -- the same of its number
  abbrev pub resolved_at : (i f : ℕ) → Evaluated Value → Evaluated Value
  resolved_at i f r = resolved i (work_at f) r

  -- its weight, when it no longer stands on the pile: it has the result that it waited for
  unfoldable pub kept : ℕ → Work → ℕ
  kept i (left k op b) = 2 * heavy (A.levels - (i + 1)) + 3
  kept i (right k op v) = 1
  kept i (opposing k) = 1

  -- and when it does
  abbrev pub owed : ℕ → Work → ℕ
  owed i e = kept i e + 1

  -- the same of its number
  abbrev pub owed_at : (i f : ℕ) → ℕ
  owed_at i f = owed i (work_at f)

  -- a step
  abbrev pub Goes : (w v : Walking (Evaluated Value)) → Type 0
  Goes w v = Onward resolved_at owed_at (Within A.levels) w v

  module _ (pile : List ℕ) (n : ℕ) where
    -- an operator begins, and node a is its left or only operand
    abbrev pub beginning : Work → (a : ℕ) → Walking (Evaluated Value)
    beginning e a = record { pile = pile; top = n; result = resolved n e (gives_at (n + 1) a); weight = 2 * heavy (A.levels - (n + 1)) + owed n e }

    -- it has the result that it waited for
    abbrev pub served : Work → Evaluated Value → Walking (Evaluated Value)
    served e r = record { pile = pile; top = n; result = resolved n e r; weight = kept n e }

    -- a result was found
    abbrev pub resting : Evaluated Value → Walking (Evaluated Value)
    resting r = record { pile = pile; top = n; result = r; weight = 0 }

    -- operator j of node k has its left value, and wants its right operand b
    abbrev pub turning : (j k b : ℕ) → Given → Walking (Evaluated Value)
    turning j k b g = record { pile = pile; top = n; result = with_right (n + 1) k (operator_of j) b (held g); weight = kept n (left k (operator_of j) b) }

  -- the code's walk: an operator begins, or a result was found
  unfoldable pub walking : List ℕ → Walk → Walking (Evaluated Value)
  walking pile w =
      let begun = beginning pile w.top (work_of w.j w.k w.b) w.a in
      record { pile = pile; top = w.top; result = cond w.begins begun.result (given w.g); weight = cond w.begins begun.weight 0 }

  -- and halfway through a step
  unfoldable pub in_way : List ℕ → Halfway → Way → Walking (Evaluated Value)
  in_way pile s Begins = beginning pile s.top (work_of s.j s.k s.b) s.a
  in_way pile s Found = resting pile s.top (given s.v)
  in_way pile s Left = served pile s.top (work_of s.j s.k s.b) (value (held s.v))
  in_way pile s Both = served pile s.top (right s.k (operator_of s.j) (held s.v)) (value (held s.w))

  abbrev pub halfway : List ℕ → Halfway → Walking (Evaluated Value)
  halfway pile s = in_way pile s s.way

  abbrev pub Steps : (w : Walking (Evaluated Value)) (later : List ℕ) (v : Walk) → Type 0
  Steps w later v = Goes w (walking later v)

-- ════ Walks ════

abbrev pub nothing : Given
nothing = record { tag = 0; payload = 0 }

-- operator k begins, whose node code sees
abbrev pub operator_begins : Head → (k top : ℕ) → Walk
operator_begins h k top = record { begins = true; top = top; j = h.kind - 20; k = k; a = h.a; b = h.b; g = nothing }

-- a result was found
abbrev pub result_found : Given → (top : ℕ) → Walk
result_found g top = record { begins = false; top = top; j = 0; k = 0; a = 0; b = 0; g = g }

-- the same, halfway
abbrev pub half_begun : Head → (k top : ℕ) → Halfway
half_begun h k top = record { way = Begins; top = top; j = h.kind - 20; k = k; a = h.a; b = h.b; v = nothing; w = nothing }

abbrev pub half_found : Given → (top : ℕ) → Halfway
half_found g top = record { way = Found; top = top; j = 0; k = 0; a = 0; b = 0; v = g; w = nothing }

-- an operator has its left or only value, or both
abbrev pub has_left : (j k b : ℕ) → Given → (top : ℕ) → Halfway
has_left j k b v top = record { way = Left; top = top; j = j; k = k; a = 0; b = b; v = v; w = nothing }

abbrev pub has_both : (j k : ℕ) → (v w : Given) → (top : ℕ) → Halfway
has_both j k v w top = record { way = Both; top = top; j = j; k = k; a = 0; b = 0; v = v; w = w }

-- a walk goes on while an operator begins, unless there is no room above the pile for it; and while a value is found and an operator waits for it
unfoldable pub goes_on : (room : ℕ) → Walk → Bool
goes_on room w = cond w.begins (ltb w.top room) (cond (leb 5 w.g.tag) false (ltb 0 w.top))

-- does operator j, with its left or only value, look at no right operand: and, or, where that isn't Bool or decides; not
abbrev pub looks_no_further : (j : ℕ) → Given → Bool
looks_no_further j g = cond (ltb j 6) false (cond (leb 8 j) true (cond (eqb g.tag 1) (beq (eqb g.payload 1) (eqb j 7)) true))

-- ════ What code promises ════

-- of node k on level n: what code sees stands for the same expression; it is a leaf or no expression, or an operator, and then on a level that is looked at
pub record Seen (words : List ℕ) (levels n k : ℕ) (h : Head) : Type 0 where
  pub tree : expr_with (levels - n) words k ≡ expr_of (expr_with (levels - (n + 1)) words) k (node_of_two h.kind h.a h.b)
  pub most : h.kind ≤ 28
  pub within : 20 ≤ h.kind → n < levels

-- a number on top of n, and operator k begins
pub record Opened (pile : List ℕ) (n upper lower k : ℕ) (h : Head) (later : List ℕ) (s : Halfway) : Type 0 where
  pub half : s ≡ half_begun h k (n + 1)
  pub pile_is : later ≡ set pile n (at_work upper lower)

-- what operator j of node k gives with its left or only value alone, whatever its right operand
abbrev pub WithOne : (j k : ℕ) → (v r : Given) → Type 0
WithOne j k v r = (A : Asked) (n b : ℕ) → given r ≡ resolved A n (work_of j k b) (value (held v))

-- half a step: and where an operator has its left value, it has room
pub record Reached (A : Asked) (w : Walking (Evaluated Value)) (later : List ℕ) (s : Halfway) : Type 0 where
  pub on : Goes A w (halfway A later s)
  pub ready : s.way ≡ Left → (s.v.tag < 5) × (s.top < length later)

-- past the left value
pub record PastLeft (A : Asked) (w : Walking (Evaluated Value)) (later : List ℕ) (s : Halfway) : Type 0 where
  pub on : Goes A w (halfway A later s)
  pub past : s.way ≡ Left → ⊥

module _ (pile later : List ℕ) (words slots : List ℕ) (levels : ℕ) where
  -- of what stands there, whatever the literals and the message
  abbrev pub Read : ((A : Asked) → Type 0) → Type 0
  Read P = (literals message : List ℕ) → P (asked words literals message slots levels)

  -- of a walk that goes on
  abbrev pub TakenUp : (w : Walk) (s : Halfway) → Type 0
  TakenUp w s = Filled levels pile w.top → Read (λ A. Reached A (walking A pile w) later s)

  -- of operator j, node k, which has its left value and wants its right operand b
  abbrev pub WithRight : (n j k b : ℕ) → Given → (s : Halfway) → Type 0
  WithRight n j k b g s = Filled levels pile n → Read (λ A. PastLeft A (turning A pile n j k b g) later s)

  -- of one that has its left or only value
  abbrev pub WithLeft : (n j k b : ℕ) → Given → (s : Halfway) → Type 0
  WithLeft n j k b g s = Filled levels pile n → Read (λ A. PastLeft A (served A pile n (work_of j k b) (value (held g))) later s)

  -- whatever goes to s, goes to t
  abbrev pub Turned : (s t : Halfway) → Type 0
  Turned s t = Read (λ A. (w : Walking (Evaluated Value)) → Goes A w (halfway A pile s) → PastLeft A w later t)

-- of a result that was found, whatever is asked
abbrev pub Resumed : (pile : List ℕ) (w : Walk) (s : Halfway) → Type 0
Resumed pile w s = (A : Asked) → Filled A.levels pile w.top → Reached A (walking A pile w) pile s

-- past the left value: whatever goes to s, goes to v, whatever the table, the slots and the pile
abbrev pub Settled : (literals message : List ℕ) (s : Halfway) (v : Walk) → Type 0
Settled literals message s v =
    (words slots : List ℕ) (levels : ℕ) (pile : List ℕ) (w : Walking (Evaluated Value))
    → Goes (asked words literals message slots levels) w (halfway (asked words literals message slots levels) pile s)
    → Steps (asked words literals message slots levels) w pile v

-- of as many steps as there is room for
pub record Rested (A : Asked) (pile : List ℕ) (w : Walk) (later : List ℕ) (v : Walk) : Type 0 where
  pub same : comes_to (resolved_at A) (walking A later v) ≡ comes_to (resolved_at A) (walking A pile w)
  pub filled : Filled A.levels later v.top
  pub rests : goes_on (length pile) v ≡ false
