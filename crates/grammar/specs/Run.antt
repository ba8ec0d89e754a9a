-- Running (document 01, 'Running'): what evaluating an expression and applying a parsing node give. Assumes nothing.
use Rattle.std.specs.Prelude.{List, [], ◌∷◌, ◌++◌, Bool, true, false, cond, ◌&&◌, ℕ, zero, suc, ◌+◌, ◌-◌, ltb, leb, eqb, get_or, set, length, replicate}
use Rattle.grammar.specs.declared.Ending.{Ending}
use Rattle.grammar.specs.declared.Ending.TheVariants.{Budget, Deep, Stuck}
use Rattle.grammar.specs.declared.Value.{Value}
use Rattle.grammar.specs.declared.Value.TheVariants as Val
use Rattle.grammar.specs.Tree.{Expr, bool, integer, text, slot, binary, negation}
use Rattle.grammar.specs.Tree.{Parsing, empty, terminal, sequence, choice, repeat, unless, call, bind, update, constraint, node}
use Rattle.grammar.specs.Tree.{Grammar, rule_of}
use Rattle.grammar.specs.Values.{Evaluated, value, ends, after, present, look_left, operate, negated}

-- 'A rule has 16 attribute slots'; an unset one is Absent
abbrev pub Slots : Type 0
Slots = List Value

-- What doesn't change during a run
pub record Setting : Type 0 where
  pub grammar : Grammar
  pub message : List ℕ
  pub literals : List ℕ

-- What a run counts
pub record Tally : Type 0 where
  pub visits : ℕ

-- one visit more
abbrev pub counted : Tally → Tally
counted t = record { visits = t.visits + 1 }

-- ════ Expressions ════

module _ (S : Setting) where
  -- 'Expressions run left operand first'
  unfoldable pub eval : Slots → Expr → Evaluated Value
  eval slots (bool k b) = value (Val.Bool b)
  eval slots (integer k z) = value (Val.Integer z)
  eval slots (text k start length) = value (Val.Text (record { literal = true; start = start; length = length }))
  eval slots (slot k s) = present k (get_or slots s Val.Absent)
  eval slots (binary k op e f) =
      after (eval slots e) (λ v. look_left S.message S.literals op k v
      (after (eval slots f) (λ w. operate S.message S.literals op k v w)))
  eval slots (negation k e) = after (eval slots e) (negated k)

  -- a list of expressions, left to right
  unfoldable pub eval_all : Slots → List Expr → Evaluated (List Value)
  eval_all slots [] = value []
  eval_all slots (e ∷ es) = after (eval slots e) (λ v. after (eval_all slots es) (λ vs. value (v ∷ vs)))

-- ════ What applying a parsing node gives ════

-- It matched up to a position and left these slots; it failed and gives back these slots; or the run has ended at once, at a place. `out_of_fuel`
-- is none of document 01's: the definition below counts fuel down, and proofs/Fuel.antt shows that it never comes to that
pub data Applied : Type 0 where
  matched : (position : ℕ) (slots : Slots) (tally : Tally) → Applied
  failed : (slots : Slots) (tally : Tally) → Applied
  ended : Ending → (place : ℕ) (tally : Tally) → Applied
  out_of_fuel : Applied

-- goes on after a match, or after a failure; an end is an end: 'STUCK, FAULT, BUDGET, DEEP end the run at once'
unfoldable pub next : Applied → (ℕ → Slots → Tally → Applied) → (Slots → Tally → Applied) → Applied
next (matched at slots t) on_match on_fail = on_match at slots t
next (failed slots t) on_match on_fail = on_fail slots t
next (ended why place t) on_match on_fail = ended why place t
next out_of_fuel on_match on_fail = out_of_fuel

-- 'A failing node gives back the slots it began with'
abbrev pub giving_back : Slots → Applied → Applied
giving_back slots r = next r matched (λ _ t. failed slots t)

-- a match goes on, and a failure stays one
abbrev pub onward : Applied → (ℕ → Slots → Tally → Applied) → Applied
onward r on_match = next r on_match failed

-- a match stays one, and after a failure something else is tried
abbrev pub otherwise : Applied → (Tally → Applied) → Applied
otherwise r on_fail = next r matched (λ _ t. on_fail t)

-- 'not hands on the slots its part left, matched or failed. Not consumes nothing'
abbrev pub opposite : ℕ → Applied → Applied
opposite at r = next r (λ _ slots t. failed slots t) (λ slots t. matched at slots t)

-- goes on with what an expression gave
unfoldable pub with_value : {A : Type 0} → Evaluated A → Tally → (A → Applied) → Applied
with_value (value v) t f = f v
with_value (ends why k) t f = ended why k t

-- 'a constraint isn't Bool (the constraint)'
unfoldable pub judged : ℕ → Value → ℕ → Slots → Tally → Applied
judged k Val.Absent at slots t = ended Stuck k t
judged k (Val.Bool b) at slots t = cond b (matched at slots t) (failed slots t)
judged k (Val.Integer z) at slots t = ended Stuck k t
judged k (Val.Text s) at slots t = ended Stuck k t

-- fresh slots: the inherited ones set, the others unset
unfoldable pub fresh : List Value → Slots
fresh vs = vs ++ replicate (16 - length vs) Val.Absent

-- 'sets its receiving slots left to right'
unfoldable pub receive : Slots → List ℕ → List Value → Slots
receive slots [] vs = slots
receive slots (s ∷ ss) [] = slots
receive slots (s ∷ ss) (v ∷ vs) = receive (set slots s v) ss vs

-- the part of the message from one position to another
abbrev pub message_part : (from to : ℕ) → Value
message_part from to = Val.Text (record { literal = false; start = from; length = to - from })

-- does this byte stand at a position of the message?
unfoldable pub byte_stands : List ℕ → (at byte : ℕ) → Bool
byte_stands message at byte = ltb at (length message) && eqb (get_or message at 0) byte

-- How a parsing node is applied: at a depth, from a position, with slots, after what has been counted
abbrev pub Application : Type 0
Application = (depth : ℕ) → Parsing → (at : ℕ) → Slots → Tally → Applied

-- 'A repeat ends only when its part fails, and then stands as after the last full round. A round may consume nothing'; 'rounds of a repeat don't
-- deepen'
unfoldable pub rounds : Application → (fuel : ℕ) → Application
rounds apply' zero depth part at slots t = out_of_fuel
rounds apply' (suc fuel) depth part at slots t =
    next (apply' depth part at slots t)
    (λ at₁ slots₁ t₁. rounds apply' fuel depth part at₁ slots₁ t₁)
    (λ _ t₁. matched at slots t₁)

-- ════ When a visit is due ════

pub data Due : Type 0 where
  fine : Due
  no_budget : Due
  too_deep : Due

-- 'the budget .. is looked at first, then depth'
unfoldable pub due : (budget deepest : ℕ) → (depth visits : ℕ) → Due
due budget deepest depth visits = cond (ltb visits budget) (cond (leb depth deepest) fine too_deep) no_budget

-- ════ Applying a parsing node ════

-- Who calls whom: `apply` is asked to apply a node. Where a visit is due it asks `admit`, which looks at budget and depth and lets `visit` do what the
-- node does; `visit` applies the node's parts by the `apply'` it is handed, and a repeat's rounds by the `rounds'`: these are `apply` and `rounds`
-- again with one less fuel. A definition here must be seen to end, and a grammar may call itself without end, so fuel is counted down; a visit uses
-- one, so more fuel than visits are left is always enough, and any more gives the same (proofs/Fuel.antt).

module _ (S : Setting) where
  -- the body of rule r has matched: 'evaluates the returned nodes there, then sets its receiving slots left to right'
  unfoldable pub returning : ℕ → Slots → List ℕ → ℕ → Slots → Tally → Applied
  returning r slots receiving at slots₁ t =
      with_value (eval_all S slots₁ (rule_of S.grammar r).returned) t (λ results. matched at (receive slots receiving results) t)

  -- What a node does when it is visited. `apply'` applies a part, `rounds'` the rounds of a repeat; 'a part or a called body one more than its node'
  unfoldable pub visit : Application → Application → Application
  visit apply' rounds' depth (empty k) at slots t = matched at slots t
  visit apply' rounds' depth (terminal k byte) at slots t =
      cond (byte_stands S.message at byte) (matched (at + 1) slots t) (failed slots t)
  visit apply' rounds' depth (sequence k p q) at slots t =
      giving_back slots (onward (apply' (suc depth) p at slots t) (apply' (suc depth) q))
  -- 'Choice keeps the prefix of the part that matched .. both arms start from the place and slots the choice began with'
  visit apply' rounds' depth (choice k p q) at slots t =
      giving_back slots (otherwise (apply' (suc depth) p at slots t) (apply' (suc depth) q at slots))
  visit apply' rounds' depth (repeat k p) at slots t = rounds' (suc depth) p at slots t
  visit apply' rounds' depth (unless k p) at slots t = opposite at (apply' (suc depth) p at slots t)
  -- 'A call evaluates its arguments, runs the body in fresh slots'; 'If the body fails, the call fails'
  visit apply' rounds' depth (call k r arguments receiving) at slots t =
      with_value (eval_all S slots arguments) t (λ given.
      giving_back slots (onward (apply' (suc depth) (rule_of S.grammar r).body at (fresh given) t) (returning r slots receiving)))
  -- 'Bind consumes what its part consumes'
  visit apply' rounds' depth (bind k s p) at slots t =
      giving_back slots (onward (apply' (suc depth) p at slots t) (λ at₁ slots₁ t₁. matched at₁ (set slots₁ s (message_part at at₁)) t₁))
  -- 'Update, bind and call set slots at run time without looking at types'
  visit apply' rounds' depth (update k s e) at slots t = with_value (eval S slots e) t (λ v. matched at (set slots s v) t)
  visit apply' rounds' depth (constraint k e) at slots t = with_value (eval S slots e) t (λ v. judged k v at slots t)

  -- 'a visit not made isn't counted'
  unfoldable pub admit : Due → Application → Application → Application
  admit fine apply' rounds' depth p at slots t = visit apply' rounds' depth p at slots (counted t)
  admit no_budget apply' rounds' depth p at slots t = ended Budget (node p) t
  admit too_deep apply' rounds' depth p at slots t = ended Deep (node p) t

  -- The written meaning, for a budget and a deepest depth. More fuel than visits left makes no difference (proofs/Fuel.antt)
  unfoldable pub apply : (budget deepest fuel : ℕ) → Application
  apply budget deepest zero depth p at slots t = out_of_fuel
  apply budget deepest (suc fuel) depth p at slots t =
      admit (due budget deepest depth t.visits)
      (apply budget deepest fuel) (rounds (apply budget deepest fuel) fuel)
      depth p at slots t
