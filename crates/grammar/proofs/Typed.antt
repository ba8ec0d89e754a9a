-- An expression that the type rules give a type is never STUCK, and its value has that type. An unset slot is one of type 0, so slots and types
-- agree exactly: `types_of slots ≡ env`. Assumes nothing.
use Rattle.std.specs.Prelude.{Ok, Err}
use mathlib.Core.Path.{◌≡◌, refl, sym, ◌∙◌}
use mathlib.Core.List.{List, [], ◌∷◌}
use mathlib.Core.Bool.{Bool, true, false, cond, ◌&&◌}
use Prim.Native.Nat.{ℕ, ◌<◌}
use native.Mathlib.Omega.{arith}
use lib.Dec.{ltb, eqb}
use lib.IntN.{ℤ}
use lib.ListN.{get_or, get_or-map}
use borrow.Author.Tests.{ltb-true, eqb-true}
use Rattle.laws.specs.Tests.{never, both_left, both_right}
use Rattle.grammar.specs.declared.Operator.{Operator}
use Rattle.grammar.specs.declared.Operator.TheVariants.{Calculate, Equal, Greater, And, Or}
use Rattle.grammar.specs.declared.Fault.{Fault}
use Rattle.grammar.specs.declared.Ending.TheVariants.{«Fault» as AtFault}
use Rattle.grammar.specs.declared.Span.{Span}
use Rattle.grammar.specs.declared.Value.{Value}
use Rattle.grammar.specs.declared.Value.TheVariants as Val
use Rattle.grammar.specs.Tree.{Expr, bool, integer, text, slot, binary, negation}
use Rattle.grammar.specs.Types.{type_number, types_of, if_both, operator_type, expr_type, has, have_all}
use Rattle.grammar.specs.Values.{Evaluated, value, ends, after, want_integer, want_bool, want_text, integers, present, number_at, calculated, equal, look_left, operate, negated, Number}
use Rattle.grammar.specs.Run.{Slots, Setting, eval, eval_all}

-- ════ Types that were given ════

-- a chosen type that is one at all was chosen
chosen : (b : Bool) (given : ℕ) → 0 < cond b given 0 → (b ≡ true) × (cond b given 0 ≡ given)
chosen true given h = (refl, refl)
chosen false given h = absurd (omega arith)

both_wanted : (wanted given s t : ℕ) → 0 < if_both wanted given s t → (s ≡ wanted) × (t ≡ wanted) × (if_both wanted given s t ≡ given)
both_wanted wanted given s t h =
    let c = chosen (eqb s wanted && eqb t wanted) given h in
    (eqb-true s wanted (both_left (eqb s wanted) (eqb t wanted) c.0), eqb-true t wanted (both_right (eqb s wanted) (eqb t wanted) c.0), c.1)

equal_wanted : (s t : ℕ) → 0 < operator_type Equal s t → (0 < s) × (s ≡ t) × (operator_type Equal s t ≡ 1)
unfolding operator_type
equal_wanted s t h =
    let c = chosen (ltb 0 s && eqb s t) 1 h in
    (ltb-true 0 s (both_left (ltb 0 s) (eqb s t) c.0), eqb-true s t (both_right (ltb 0 s) (eqb s t) c.0), c.1)

-- an operator that gives a type has two operands with types
operands_typed : (op : Operator) (s t : ℕ) → 0 < operator_type op s t → (0 < s) × (0 < t)
unfolding operator_type
operands_typed (Calculate op) s t h = let b = both_wanted 2 2 s t h in omega arith
operands_typed Equal s t h = let b = equal_wanted s t h in omega arith
operands_typed Greater s t h = let b = both_wanted 2 1 s t h in omega arith
operands_typed And s t h = let b = both_wanted 1 1 s t h in omega arith
operands_typed Or s t h = let b = both_wanted 1 1 s t h in omega arith

-- ════ Values of the type ════

-- a value with the property, or a fault; never stuck
pub data Goodly {A : Type 0} (P : A → Type 0) : Evaluated A → Type 0 where
  good : {a : A} → P a → Goodly P (value a)
  faulty : {why : Fault} {k : ℕ} → Goodly P (ends (AtFault why) k)

abbrev pub OfType : ℕ → Value → Type 0
OfType t v = type_number v ≡ t

abbrev pub OfTypes : List ℕ → List Value → Type 0
OfTypes ts vs = types_of vs ≡ ts

abbrev pub Good : ℕ → Evaluated Value → Type 0
Good t e = Goodly (OfType t) e

after_good : {A B : Type 0} {P : A → Type 0} {Q : B → Type 0} {e : Evaluated A} {f : A → Evaluated B} → Goodly P e → ((a : A) → P a → Goodly Q (f a)) → Goodly Q (after e f)
after_good (good {a = v} p) h = h v p
after_good faulty h = faulty

want_integer_good : {t : ℕ} (k : ℕ) (v : Value) {f : ℤ → Evaluated Value} → type_number v ≡ 2 → ((z : ℤ) → Good t (f z)) → Good t (want_integer k v f)
want_integer_good k Val.Absent e h = absurd (omega arith)
want_integer_good k (Val.Bool b) e h = absurd (omega arith)
want_integer_good k (Val.Integer z) e h = h z
want_integer_good k (Val.Text s) e h = absurd (omega arith)

want_bool_good : {t : ℕ} (k : ℕ) (v : Value) {f : Bool → Evaluated Value} → type_number v ≡ 1 → ((b : Bool) → Good t (f b)) → Good t (want_bool k v f)
want_bool_good k Val.Absent e h = absurd (omega arith)
want_bool_good k (Val.Bool b) e h = h b
want_bool_good k (Val.Integer z) e h = absurd (omega arith)
want_bool_good k (Val.Text s) e h = absurd (omega arith)

want_text_good : {t : ℕ} (k : ℕ) (v : Value) {f : Span → Evaluated Value} → type_number v ≡ 3 → ((s : Span) → Good t (f s)) → Good t (want_text k v f)
want_text_good k Val.Absent e h = absurd (omega arith)
want_text_good k (Val.Bool b) e h = absurd (omega arith)
want_text_good k (Val.Integer z) e h = absurd (omega arith)
want_text_good k (Val.Text s) e h = h s

present_good : (k : ℕ) (v : Value) → 0 < type_number v → Good (type_number v) (present k v)
present_good k Val.Absent h = absurd (omega arith)
present_good k (Val.Bool b) h = good refl
present_good k (Val.Integer z) h = good refl
present_good k (Val.Text s) h = good refl

cond_good : {t : ℕ} (b : Bool) {x y : Evaluated Value} → Good t x → Good t y → Good t (cond b x y)
cond_good true g h = g
cond_good false g h = h

number_at_good : (k : ℕ) (n : Number) → Good 2 (number_at k n)
number_at_good k (Ok z) = good refl
number_at_good k (Err why) = faulty

-- ════ Operators ════

-- every operator that takes Integers only
integers_good : (given k : ℕ) (v w : Value) {f : ℤ → ℤ → Evaluated Value} → 0 < if_both 2 given (type_number v) (type_number w) →
    ((a b : ℤ) → Good given (f a b)) → Good (if_both 2 given (type_number v) (type_number w)) (integers k v w f)
integers_good given k v w h g =
    let b = both_wanted 2 given (type_number v) (type_number w) h in
    rw b.2 (want_integer_good k v b.0 (λ x. want_integer_good k w b.1 (λ y. g x y)))

-- and, or: the right operand's Bool
bools_good : (k : ℕ) (v w : Value) → 0 < if_both 1 1 (type_number v) (type_number w) → Good (if_both 1 1 (type_number v) (type_number w)) (want_bool k w (λ b. value (Val.Bool b)))
bools_good k v w h =
    let b = both_wanted 1 1 (type_number v) (type_number w) h in
    rw b.2 (want_bool_good k w b.1 (λ _. good refl))

module _ (message literals : List ℕ) where
  equal_good : (k : ℕ) (v w : Value) → 0 < type_number v → type_number v ≡ type_number w → Good 1 (equal message literals k v w)
  unfolding equal
  equal_good k Val.Absent w h e = absurd (omega arith)
  equal_good k (Val.Bool b) w h e = want_bool_good k w (sym e) (λ _. good refl)
  equal_good k (Val.Integer z) w h e = want_integer_good k w (sym e) (λ _. good refl)
  equal_good k (Val.Text s) w h e = want_text_good k w (sym e) (λ _. good refl)

  -- on operands of types that it takes
  operate_good : (op : Operator) (k : ℕ) (v w : Value) → 0 < operator_type op (type_number v) (type_number w) →
      Good (operator_type op (type_number v) (type_number w)) (operate message literals op k v w)
  unfolding operator_type operate
  operate_good (Calculate op) k v w h = integers_good 2 k v w h (λ a b. number_at_good k (calculated op a b))
  operate_good Equal k v w h =
      let b = equal_wanted (type_number v) (type_number w) h in
      rw b.2 (equal_good k v w b.0 b.1)
  operate_good Greater k v w h = integers_good 1 k v w h (λ a b. good refl)
  operate_good And k v w h = bools_good k v w h
  operate_good Or k v w h = bools_good k v w h

  -- after a left operand of a type that it takes
  look_left_good : (op : Operator) (k : ℕ) (v : Value) (t : ℕ) {rest : Evaluated Value} → 0 < operator_type op (type_number v) t →
      Good (operator_type op (type_number v) t) rest → Good (operator_type op (type_number v) t) (look_left message literals op k v rest)
  unfolding operator_type look_left
  look_left_good (Calculate op) k v t h g = g
  look_left_good Equal k v t h g = g
  look_left_good Greater k v t h g = g
  look_left_good And k v t h g =
      let b = both_wanted 1 1 (type_number v) t h in
      rw b.2 (want_bool_good k v b.0 (λ c. cond_good c (rw b.2 at g) (good refl)))
  look_left_good Or k v t h g =
      let b = both_wanted 1 1 (type_number v) t h in
      rw b.2 (want_bool_good k v b.0 (λ c. cond_good c (good refl) (rw b.2 at g)))

-- ════ Expressions ════

module _ (S : Setting) where
  -- An expression with a type is never stuck, and its value has that type
  pub eval_good : (slots : Slots) (e : Expr) → 0 < expr_type (types_of slots) e → Good (expr_type (types_of slots) e) (eval S slots e)
  unfolding expr_type eval negated
  eval_good slots (bool k b) h = good refl
  eval_good slots (integer k z) h = good refl
  eval_good slots (text k start length) h = good refl
  eval_good slots (slot k s) h =
      let g = get_or-map type_number slots s Val.Absent in
      rw g (present_good k (get_or slots s Val.Absent) (rw g at h))
  eval_good slots (binary k op e f) h =
      let typed = operands_typed op (expr_type (types_of slots) e) (expr_type (types_of slots) f) h in
      after_good (eval_good slots e typed.0) (λ v p. rw (← p)
      (look_left_good S.message S.literals op k v (expr_type (types_of slots) f) (rw (← p) at h)
      (after_good (eval_good slots f typed.1) (λ w q. rw (← q) (operate_good S.message S.literals op k v w (rw (← p, ← q) at h))))))
  eval_good slots (negation k e) h =
      let c = chosen (eqb (expr_type (types_of slots) e) 1) 1 h in
      let is : expr_type (types_of slots) e ≡ 1 = eqb-true (expr_type (types_of slots) e) 1 c.0 in
      rw c.1 (after_good (eval_good slots e (omega arith)) (λ v p. want_bool_good k v (p ∙ is) (λ _. good refl)))

  -- Expressions that have all their types give values of those types
  pub eval_all_good : (slots : Slots) (es : List Expr) (ts : List ℕ) → have_all (types_of slots) es ts ≡ true → Goodly (OfTypes ts) (eval_all S slots es)
  unfolding have_all has eval_all
  eval_all_good slots [] [] h = good refl
  eval_all_good slots [] (t ∷ ts) h = never h
  eval_all_good slots (e ∷ es) [] h = never h
  eval_all_good slots (e ∷ es) (t ∷ ts) h =
      let has_t = both_left (has (types_of slots) e t) (have_all (types_of slots) es ts) h in
      let p = ltb-true 0 t (both_left (ltb 0 t) (eqb (expr_type (types_of slots) e) t) has_t) in
      let q = eqb-true (expr_type (types_of slots) e) t (both_right (ltb 0 t) (eqb (expr_type (types_of slots) e) t) has_t) in
      after_good (eval_good slots e (omega arith)) (λ v i.
      after_good (eval_all_good slots es ts (both_right (has (types_of slots) e t) (have_all (types_of slots) es ts) h)) (λ vs j.
      good (cc)))
