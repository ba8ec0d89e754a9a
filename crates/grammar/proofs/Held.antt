-- A run goes forward inside the message, keeps the number of its slots, and holds in them only values that are good: of any property that absent
-- values, Bools, Integers and parts of the message have, where the grammar's Text literals have it. Whatever the grammar. Assumes nothing.
use Rattle.std.specs.Prelude.{Ok, Err}
use mathlib.Core.Path.{◌≡◌, refl, ◌∙◌}
use mathlib.Core.List.{List, [], ◌∷◌, ◌++◌}
use mathlib.Core.Bool.{Bool, true, false, cond}
use Prim.Native.Nat.{ℕ, zero, suc, ◌+◌, ◌-◌, ◌≤◌}
use native.Mathlib.Omega.{arith}
use lib.Dec.{ltb, eqb}
use lib.IntN.{ℤ}
use lib.ListN.{get_or, set, length, replicate, length-set}
use borrow.Author.Tests.{ltb-true}
use Rattle.laws.specs.Tests.{both_left}
use Rattle.grammar.specs.declared.Operator.{Operator}
use Rattle.grammar.specs.declared.Operator.TheVariants.{Calculate, Equal, Greater, And, Or}
use Rattle.grammar.specs.declared.Ending.{Ending}
use Rattle.grammar.specs.declared.Span.{Span}
use Rattle.grammar.specs.declared.Value.{Value}
use Rattle.grammar.specs.declared.Value.TheVariants as Val
use Rattle.grammar.specs.Tree.{Expr, bool, integer, text, slot, binary, negation}
use Rattle.grammar.specs.Tree.{Parsing, empty, terminal, sequence, choice, repeat, unless, call, bind, update, constraint, Grammar, rule_of}
use Rattle.grammar.specs.Values.{Evaluated, value, ends, after, want_integer, want_bool, want_text, present, number_at, calculated, equal, look_left, operate, negated, Number}
use Rattle.grammar.specs.Run.{Slots, Setting, Tally, counted, eval, eval_all, Applied, matched, failed, ended, out_of_fuel, next, giving_back, onward, with_value}
use Rattle.grammar.specs.Run.{judged, fresh, receive, message_part, byte_stands, Application, rounds, Due, fine, no_budget, too_deep, due, returning, visit, admit, apply}

-- ════ Good values ════

-- what a good value is, at least
pub record Goods (message : List ℕ) (Good : Value → Type 0) : Type 0 where
  pub absent : Good Val.Absent
  pub bool : (b : Bool) → Good (Val.Bool b)
  pub integer : (z : ℤ) → Good (Val.Integer z)
  pub part : (from to : ℕ) → from ≤ to → to ≤ length message → Good (message_part from to)

module _ (Good : Value → Type 0) where
  abbrev pub AllGood : List Value → Type 0
  AllGood [] = Unit {0}
  AllGood (v ∷ vs) = Good v × AllGood vs

  -- the Texts of an expression, of expressions, of a parsing node
  abbrev pub TextsGood : Expr → Type 0
  TextsGood (bool k b) = Unit {0}
  TextsGood (integer k z) = Unit {0}
  TextsGood (text k start length) = Good (Val.Text (record { literal = true; start = start; length = length }))
  TextsGood (slot k s) = Unit {0}
  TextsGood (binary k op e f) = TextsGood e × TextsGood f
  TextsGood (negation k e) = TextsGood e

  abbrev pub AllTextsGood : List Expr → Type 0
  AllTextsGood [] = Unit {0}
  AllTextsGood (e ∷ es) = TextsGood e × AllTextsGood es

  abbrev pub NodeTextsGood : Parsing → Type 0
  NodeTextsGood (empty k) = Unit {0}
  NodeTextsGood (terminal k byte) = Unit {0}
  NodeTextsGood (sequence k p q) = NodeTextsGood p × NodeTextsGood q
  NodeTextsGood (choice k p q) = NodeTextsGood p × NodeTextsGood q
  NodeTextsGood (repeat k p) = NodeTextsGood p
  NodeTextsGood (unless k p) = NodeTextsGood p
  NodeTextsGood (call k r es ss) = AllTextsGood es
  NodeTextsGood (bind k s p) = NodeTextsGood p
  NodeTextsGood (update k s e) = TextsGood e
  NodeTextsGood (constraint k e) = TextsGood e

  pub record GrammarGood (G : Grammar) : Type 0 where
    pub body : (r : ℕ) → NodeTextsGood (rule_of G r).body
    pub returned : (r : ℕ) → AllTextsGood (rule_of G r).returned

-- ════ What is kept ════

-- slots of a number, all good
pub record Held (Good : Value → Type 0) (n : ℕ) (slots : Slots) : Type 0 where
  pub number : length slots ≡ n
  pub good : AllGood Good slots

-- a value with the property, or the run ends
pub data Gives {A : Type 0} (P : A → Type 0) : Evaluated A → Type 0 where
  gives : {a : A} → P a → Gives P (value a)
  ends_here : {why : Ending} {k : ℕ} → Gives P (ends why k)

-- What comes of a node that began at a position with n slots: a match stands no earlier, and not past the message
pub data Inside (message : List ℕ) (Good : Value → Type 0) (from n : ℕ) : Applied → Type 0 where
  inside_matched : {at : ℕ} {slots : Slots} {t : Tally} → (from ≤ at) × (at ≤ length message) → Held Good n slots → Inside message Good from n (matched at slots t)
  inside_failed : {slots : Slots} {t : Tally} → Held Good n slots → Inside message Good from n (failed slots t)
  inside_ended : {why : Ending} {place : ℕ} {t : Tally} → Inside message Good from n (ended why place t)
  inside_out : Inside message Good from n out_of_fuel

-- an application keeps it
abbrev pub InsideApplication : (message : List ℕ) (Good : Value → Type 0) → Application → Type 0
InsideApplication message Good apply' = (depth : ℕ) (p : Parsing) (at : ℕ) (slots : Slots) (t : Tally) →
    NodeTextsGood Good p → at ≤ length message → AllGood Good slots → Inside message Good at (length slots) (apply' depth p at slots t)

module _ (S : Setting) (Good : Value → Type 0) (goods : Goods S.message Good) where
  abbrev Keeps : (from n : ℕ) → Applied → Type 0
  Keeps from n r = Inside S.message Good from n r

  abbrev Gets : Evaluated Value → Type 0
  Gets e = Gives Good e

  -- ════ Slots ════

  pub good_at : (vs : List Value) → AllGood Good vs → (i : ℕ) → Good (get_or vs i Val.Absent)
  good_at [] h i = goods.absent
  good_at (v ∷ vs) h zero = h.0
  good_at (v ∷ vs) h (suc i) = good_at vs h.1 i

  good_set : (vs : List Value) (s : ℕ) (v : Value) → AllGood Good vs → Good v → AllGood Good (set vs s v)
  good_set [] s v h g = h
  good_set (x ∷ xs) zero v h g = (g, h.1)
  good_set (x ∷ xs) (suc s) v h g = (h.0, good_set xs s v h.1 g)

  absents_good : (n : ℕ) → AllGood Good (replicate n Val.Absent)
  absents_good zero = tt
  absents_good (suc n) = (goods.absent, absents_good n)

  append_good : (vs ws : List Value) → AllGood Good vs → AllGood Good ws → AllGood Good (vs ++ ws)
  append_good [] ws h g = g
  append_good (v ∷ vs) ws h g = (h.0, append_good vs ws h.1 g)

  pub fresh_good : (vs : List Value) → AllGood Good vs → AllGood Good (fresh vs)
  unfolding fresh
  fresh_good vs h = append_good vs (replicate (16 - length vs) Val.Absent) h (absents_good (16 - length vs))

  set_held : {n : ℕ} (slots : Slots) (s : ℕ) (v : Value) → Held Good n slots → Good v → Held Good n (set slots s v)
  set_held slots s v h g = record { number = length-set slots s v ∙ h.number; good = good_set slots s v h.good g }

  receive_held : {n : ℕ} (slots : Slots) (ss : List ℕ) (vs : List Value) → Held Good n slots → AllGood Good vs → Held Good n (receive slots ss vs)
  unfolding receive
  receive_held slots [] vs h g = h
  receive_held slots (s ∷ ss) [] h g = h
  receive_held slots (s ∷ ss) (v ∷ vs) h g = receive_held (set slots s v) ss vs (set_held slots s v h g.0) g.1

  -- ════ Expressions ════

  after_gives : {A B : Type 0} {P : A → Type 0} {Q : B → Type 0} {e : Evaluated A} {f : A → Evaluated B} →
      Gives P e → ((a : A) → P a → Gives Q (f a)) → Gives Q (after e f)
  after_gives (gives {a = v} p) h = h v p
  after_gives ends_here h = ends_here

  truth_gives : (b : Bool) → Gets (value (Val.Bool b))
  truth_gives b = gives (goods.bool b)

  want_integer_gives : (k : ℕ) (v : Value) {f : ℤ → Evaluated Value} → ((z : ℤ) → Gets (f z)) → Gets (want_integer k v f)
  want_integer_gives k Val.Absent h = ends_here
  want_integer_gives k (Val.Bool b) h = ends_here
  want_integer_gives k (Val.Integer z) h = h z
  want_integer_gives k (Val.Text s) h = ends_here

  want_bool_gives : (k : ℕ) (v : Value) {f : Bool → Evaluated Value} → ((b : Bool) → Gets (f b)) → Gets (want_bool k v f)
  want_bool_gives k Val.Absent h = ends_here
  want_bool_gives k (Val.Bool b) h = h b
  want_bool_gives k (Val.Integer z) h = ends_here
  want_bool_gives k (Val.Text s) h = ends_here

  want_text_gives : (k : ℕ) (v : Value) {f : Span → Evaluated Value} → ((s : Span) → Gets (f s)) → Gets (want_text k v f)
  want_text_gives k Val.Absent h = ends_here
  want_text_gives k (Val.Bool b) h = ends_here
  want_text_gives k (Val.Integer z) h = ends_here
  want_text_gives k (Val.Text s) h = h s

  present_gives : (k : ℕ) (v : Value) → Good v → Gets (present k v)
  present_gives k Val.Absent g = ends_here
  present_gives k (Val.Bool b) g = gives g
  present_gives k (Val.Integer z) g = gives g
  present_gives k (Val.Text s) g = gives g

  number_at_gives : (k : ℕ) (n : Number) → Gets (number_at k n)
  number_at_gives k (Ok z) = gives (goods.integer z)
  number_at_gives k (Err why) = ends_here

  cond_gives : (b : Bool) {x y : Evaluated Value} → Gets x → Gets y → Gets (cond b x y)
  cond_gives true g h = g
  cond_gives false g h = h

  equal_gives : (k : ℕ) (v w : Value) → Gets (equal S.message S.literals k v w)
  unfolding equal
  equal_gives k Val.Absent w = ends_here
  equal_gives k (Val.Bool a) w = want_bool_gives k w (λ _. truth_gives _)
  equal_gives k (Val.Integer a) w = want_integer_gives k w (λ _. truth_gives _)
  equal_gives k (Val.Text a) w = want_text_gives k w (λ _. truth_gives _)

  operate_gives : (op : Operator) (k : ℕ) (v w : Value) → Gets (operate S.message S.literals op k v w)
  unfolding operate
  operate_gives (Calculate op) k v w = want_integer_gives k v (λ a. want_integer_gives k w (λ b. number_at_gives k (calculated op a b)))
  operate_gives Equal k v w = equal_gives k v w
  operate_gives Greater k v w = want_integer_gives k v (λ _. want_integer_gives k w (λ _. truth_gives _))
  operate_gives And k v w = want_bool_gives k w truth_gives
  operate_gives Or k v w = want_bool_gives k w truth_gives

  look_left_gives : (op : Operator) (k : ℕ) (v : Value) {rest : Evaluated Value} → Gets rest → Gets (look_left S.message S.literals op k v rest)
  unfolding look_left
  look_left_gives (Calculate op) k v g = g
  look_left_gives Equal k v g = g
  look_left_gives Greater k v g = g
  look_left_gives And k v g = want_bool_gives k v (λ b. cond_gives b g (truth_gives false))
  look_left_gives Or k v g = want_bool_gives k v (λ b. cond_gives b (truth_gives true) g)

  module _ (slots : Slots) (h : AllGood Good slots) where
    eval_gives : (e : Expr) → TextsGood Good e → Gets (eval S slots e)
    unfolding eval negated
    eval_gives (bool k b) g = truth_gives b
    eval_gives (integer k z) g = gives (goods.integer z)
    eval_gives (text k start length) g = gives g
    eval_gives (slot k s) g = present_gives k (get_or slots s Val.Absent) (good_at slots h s)
    eval_gives (binary k op e f) g =
        after_gives (eval_gives e g.0) (λ v _. look_left_gives op k v (after_gives (eval_gives f g.1) (λ w _. operate_gives op k v w)))
    eval_gives (negation k e) g = after_gives (eval_gives e g) (λ v _. want_bool_gives k v (λ _. truth_gives _))

    pub eval_all_gives : (es : List Expr) → AllTextsGood Good es → Gives (AllGood Good) (eval_all S slots es)
    unfolding eval_all
    eval_all_gives [] g = gives tt
    eval_all_gives (e ∷ es) g = after_gives (eval_gives e g.0) (λ v p. after_gives (eval_all_gives es g.1) (λ vs q. gives (p, q)))

  -- ════ Applying a parsing node ════

  next_keeps : {from₁ n₁ from n : ℕ} {r : Applied} {m : ℕ → Slots → Tally → Applied} {f : Slots → Tally → Applied} → Keeps from₁ n₁ r →
      ((at : ℕ) (slots : Slots) (t : Tally) → (from₁ ≤ at) × (at ≤ length S.message) → Held Good n₁ slots → Keeps from n (m at slots t)) →
      ((slots : Slots) (t : Tally) → Held Good n₁ slots → Keeps from n (f slots t)) →
      Keeps from n (next r m f)
  unfolding next
  next_keeps (inside_matched {at = at} {slots = s} {t = t} c h) m f = m at s t c h
  next_keeps (inside_failed {slots = s} {t = t} h) m f = f s t h
  next_keeps inside_ended m f = inside_ended
  next_keeps inside_out m f = inside_out

  -- what came later came no earlier
  earlier : {from at n m : ℕ} {r : Applied} → from ≤ at → m ≡ n → Keeps at m r → Keeps from n r
  earlier l e (inside_matched {at = at₁} c h) = inside_matched {at = at₁} (omega arith) (record { number = h.number ∙ e; good = h.good })
  earlier l e (inside_failed h) = inside_failed (record { number = h.number ∙ e; good = h.good })
  earlier l e inside_ended = inside_ended
  earlier l e inside_out = inside_out

  as_lent : (slots : Slots) → AllGood Good slots → Held Good (length slots) slots
  as_lent slots h = record { number = refl; good = h }

  giving_back_keeps : {from : ℕ} {r : Applied} (slots : Slots) → AllGood Good slots → Keeps from (length slots) r → Keeps from (length slots) (giving_back slots r)
  giving_back_keeps slots h k = next_keeps k (λ _ _ _ c g. inside_matched c g) (λ _ _ _. inside_failed (as_lent slots h))

  -- first one part, then another; the slots given back are those of the start, whichever failed
  onward_keeps : {from₁ n₁ from : ℕ} {r : Applied} {m : ℕ → Slots → Tally → Applied} (slots : Slots) → AllGood Good slots → Keeps from₁ n₁ r →
      ((at : ℕ) (slots₁ : Slots) (t : Tally) → (from₁ ≤ at) × (at ≤ length S.message) → Held Good n₁ slots₁ → Keeps from (length slots) (m at slots₁ t)) →
      Keeps from (length slots) (giving_back slots (onward r m))
  unfolding next
  onward_keeps slots h (inside_matched {at = at} {slots = s} {t = t} c g) m = giving_back_keeps slots h (m at s t c g)
  onward_keeps slots h (inside_failed g) m = inside_failed (as_lent slots h)
  onward_keeps slots h inside_ended m = inside_ended
  onward_keeps slots h inside_out m = inside_out

  with_value_keeps : {A : Type 0} {P : A → Type 0} {from n : ℕ} {e : Evaluated A} (t : Tally) {f : A → Applied} → Gives P e →
      ((a : A) → P a → Keeps from n (f a)) → Keeps from n (with_value e t f)
  unfolding with_value
  with_value_keeps t (gives {a = v} p) h = h v p
  with_value_keeps t ends_here h = inside_ended

  cond_keeps : {from n : ℕ} (b : Bool) {x y : Applied} → (b ≡ true → Keeps from n x) → Keeps from n y → Keeps from n (cond b x y)
  cond_keeps true g h = g refl
  cond_keeps false g h = h

  judged_keeps : {n : ℕ} (k : ℕ) (v : Value) (at : ℕ) (slots : Slots) (t : Tally) → at ≤ length S.message → Held Good n slots → Keeps at n (judged k v at slots t)
  unfolding judged
  judged_keeps k Val.Absent at slots t l h = inside_ended
  judged_keeps k (Val.Bool b) at slots t l h = cond_keeps b (λ _. inside_matched {at = at} (omega arith) h) (inside_failed h)
  judged_keeps k (Val.Integer z) at slots t l h = inside_ended
  judged_keeps k (Val.Text s) at slots t l h = inside_ended

  byte_inside : (at byte : ℕ) → byte_stands S.message at byte ≡ true → at + 1 ≤ length S.message
  unfolding byte_stands
  byte_inside at byte e =
      let h = ltb-true at (length S.message) (both_left (ltb at (length S.message)) (eqb (get_or S.message at 0) byte) e) in
      omega arith

  rounds_keeps : (apply' : Application) → InsideApplication S.message Good apply' → (fuel : ℕ) → InsideApplication S.message Good (rounds apply' fuel)
  unfolding rounds
  rounds_keeps apply' self zero depth p at slots t g l h = inside_out
  rounds_keeps apply' self (suc fuel) depth p at slots t g l h =
      next_keeps (self depth p at slots t g l h)
      (λ at₁ slots₁ t₁ c k. earlier c.0 k.number (rounds_keeps apply' self fuel depth p at₁ slots₁ t₁ g c.1 k.good))
      (λ _ t₁ _. inside_matched {at = at} (omega arith) (as_lent slots h))

  module _ (texts : GrammarGood Good S.grammar) where
    returning_keeps : (r : ℕ) (slots : Slots) (ss : List ℕ) (from at : ℕ) (slots₁ : Slots) (t : Tally) → (from ≤ at) × (at ≤ length S.message) →
        AllGood Good slots → AllGood Good slots₁ → Keeps from (length slots) (returning S r slots ss at slots₁ t)
    unfolding returning
    returning_keeps r slots ss from at slots₁ t c h g =
        with_value_keeps t (eval_all_gives slots₁ g (rule_of S.grammar r).returned (texts.returned r))
        (λ results q. inside_matched {at = at} c (receive_held slots ss results (as_lent slots h) q))

    visit_keeps : (apply' : Application) (fuel : ℕ) → InsideApplication S.message Good apply' → InsideApplication S.message Good (visit S apply' (rounds apply' fuel))
    unfolding visit
    visit_keeps apply' fuel self depth (empty k) at slots t g l h = inside_matched {at = at} (omega arith) (as_lent slots h)
    visit_keeps apply' fuel self depth (terminal k byte) at slots t g l h =
        cond_keeps (byte_stands S.message at byte)
        (λ e. inside_matched {at = at + 1} (let i = byte_inside at byte e in omega arith) (as_lent slots h)) (inside_failed (as_lent slots h))
    visit_keeps apply' fuel self depth (sequence k p q) at slots t g l h =
        onward_keeps slots h (self (suc depth) p at slots t g.0 l h)
        (λ at₁ slots₁ t₁ c i. earlier c.0 i.number (self (suc depth) q at₁ slots₁ t₁ g.1 c.1 i.good))
    visit_keeps apply' fuel self depth (choice k p q) at slots t g l h =
        giving_back_keeps slots h (next_keeps (self (suc depth) p at slots t g.0 l h)
        (λ _ _ _ c i. inside_matched c i) (λ _ t₁ _. self (suc depth) q at slots t₁ g.1 l h))
    visit_keeps apply' fuel self depth (repeat k p) at slots t g l h = rounds_keeps apply' self fuel (suc depth) p at slots t g l h
    visit_keeps apply' fuel self depth (unless k p) at slots t g l h =
        next_keeps (self (suc depth) p at slots t g l h) (λ _ _ _ _ i. inside_failed i) (λ _ _ i. inside_matched {at = at} (omega arith) i)
    visit_keeps apply' fuel self depth (call k r es ss) at slots t g l h =
        with_value_keeps t (eval_all_gives slots h es g) (λ given q.
        onward_keeps slots h (self (suc depth) (rule_of S.grammar r).body at (fresh given) t (texts.body r) l (fresh_good given q))
        (λ at₁ slots₁ t₁ c i. returning_keeps r slots ss at at₁ slots₁ t₁ c h i.good))
    visit_keeps apply' fuel self depth (bind k s p) at slots t g l h =
        onward_keeps slots h (self (suc depth) p at slots t g l h)
        (λ at₁ slots₁ t₁ c i. inside_matched c (set_held slots₁ s (message_part at at₁) i (goods.part at at₁ c.0 c.1)))
    visit_keeps apply' fuel self depth (update k s e) at slots t g l h =
        with_value_keeps t (eval_gives slots h e g) (λ v q. inside_matched {at = at} (omega arith) (set_held slots s v (as_lent slots h) q))
    visit_keeps apply' fuel self depth (constraint k e) at slots t g l h =
        with_value_keeps t (eval_gives slots h e g) (λ v _. judged_keeps k v at slots t l (as_lent slots h))

    admit_keeps : (d : Due) (apply' : Application) (fuel : ℕ) → InsideApplication S.message Good apply' → InsideApplication S.message Good (admit S d apply' (rounds apply' fuel))
    unfolding admit
    admit_keeps fine apply' fuel self depth p at slots t g l h = visit_keeps apply' fuel self depth p at slots (counted t) g l h
    admit_keeps no_budget apply' fuel self depth p at slots t g l h = inside_ended
    admit_keeps too_deep apply' fuel self depth p at slots t g l h = inside_ended

    -- Applying a node keeps it, whatever the budget, the deepest depth and the fuel
    pub apply_keeps : (budget deepest fuel : ℕ) → InsideApplication S.message Good (apply S budget deepest fuel)
    unfolding apply
    apply_keeps budget deepest zero depth p at slots t g l h = inside_out
    apply_keeps budget deepest (suc fuel) depth p at slots t g l h =
        admit_keeps (due budget deepest depth t.visits) (apply S budget deepest fuel) fuel (apply_keeps budget deepest fuel) depth p at slots t g l h
