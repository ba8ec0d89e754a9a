-- Every value that an expression gives is in the range that two words hold, and an expression ends a run only by STUCK or FAULT. Assumes nothing
-- but that the table's words are 16-bit numbers, and that the slots hold values in range.
use mathlib.Core.Path.{◌≡◌, refl}
use mathlib.Core.Bool.{Bool, true, false, cond, not}
use mathlib.Core.List.{List, [], ◌∷◌, map}
use Prim.Native.Nat.{ℕ, zero, suc, ◌+◌, ◌*◌, ◌<◌}
use native.Mathlib.Omega.{arith}
use borrow.Author.Tests.{ltb-true, ltb-false}
use lib.Dec.{ltb}
use lib.IntN.{ℤ, pos, negsuc, ◌+ℤ◌, ◌-ℤ◌, ◌*ℤ◌}
use lib.Signed.{mag, lt_z, quot_z}
use lib.ListN.{get_or, length}
use mir.Syntax.{w32}
use mir.Val.{SFits}
use Rattle.grammar.specs.declared.Arithmetic.{Arithmetic}
use Rattle.grammar.specs.declared.Arithmetic.TheVariants.{Add, Subtract, Multiply, Divide}
use Rattle.grammar.specs.declared.Operator.{Operator}
use Rattle.grammar.specs.declared.Operator.TheVariants.{Calculate, Equal, Greater, And, Or}
use Rattle.grammar.specs.declared.Fault.{Fault}
use Rattle.grammar.specs.declared.Ending.TheVariants.{Stuck, «Fault» as AtFault}
use Rattle.grammar.specs.declared.Span.{Span}
use Rattle.grammar.specs.declared.Value.{Value}
use Rattle.grammar.specs.declared.Value.TheVariants as Val
use Rattle.grammar.specs.declared.Node.{Node}
use Rattle.grammar.specs.declared.Node.TheVariants as N
use Rattle.grammar.specs.Words.{signed, kind_at, nodes, node_for, node_at}
use Rattle.grammar.specs.Tree.{Expr, bool, integer, text, slot, binary, negation, expr_of, expr_with, expr_at}
use Rattle.grammar.specs.Values.{Evaluated, value, ends, after, want_integer, want_bool, want_text, present, number_at}
use Rattle.grammar.proofs.Integers.{signed32_fits, signed32_not}
use Rattle.grammar.specs.Values.{fitting, quotient, calculated, equal, look_left, operate, negated}
use Rattle.grammar.specs.Run.{Slots, Setting, eval, eval_all}
use Rattle.values.specs.Slots.{InRange}
use Rattle.values.specs.Slots as Range
use Rattle.values.proofs.Complement.{signed_is, integer_fits}

-- ════ What evaluating gives ════

-- a value that has the property, or STUCK, or FAULT
pub data Yields {A : Type 0} (P : A → Type 0) : Evaluated A → Type 0 where
  yields : {a : A} → P a → Yields P (value a)
  yields_stuck : {k : ℕ} → Yields P (ends Stuck k)
  yields_fault : {why : Fault} {k : ℕ} → Yields P (ends (AtFault why) k)

pub after_yields : {A B : Type 0} {P : A → Type 0} {Q : B → Type 0} {e : Evaluated A} {f : A → Evaluated B} →
    Yields P e → ((a : A) → P a → Yields Q (f a)) → Yields Q (after e f)
after_yields (yields {a = a} p) h = h a p
after_yields yields_stuck h = yields_stuck
after_yields yields_fault h = yields_fault

abbrev pub Ranged : Evaluated Value → Type 0
Ranged = Yields InRange

want_integer_ranged : (k : ℕ) (v : Value) {f : ℤ → Evaluated Value} → ((z : ℤ) → Ranged (f z)) → Ranged (want_integer k v f)
want_integer_ranged k Val.Absent h = yields_stuck
want_integer_ranged k (Val.Bool b) h = yields_stuck
want_integer_ranged k (Val.Integer z) h = h z
want_integer_ranged k (Val.Text s) h = yields_stuck

want_bool_ranged : (k : ℕ) (v : Value) {f : Bool → Evaluated Value} → ((b : Bool) → Ranged (f b)) → Ranged (want_bool k v f)
want_bool_ranged k Val.Absent h = yields_stuck
want_bool_ranged k (Val.Bool b) h = h b
want_bool_ranged k (Val.Integer z) h = yields_stuck
want_bool_ranged k (Val.Text s) h = yields_stuck

want_text_ranged : (k : ℕ) (v : Value) {f : Span → Evaluated Value} → ((s : Span) → Ranged (f s)) → Ranged (want_text k v f)
want_text_ranged k Val.Absent h = yields_stuck
want_text_ranged k (Val.Bool b) h = yields_stuck
want_text_ranged k (Val.Integer z) h = yields_stuck
want_text_ranged k (Val.Text s) h = h s

present_ranged : (k : ℕ) {v : Value} → InRange v → Ranged (present k v)
present_ranged k Range.absent = yields_stuck
present_ranged k (Range.bool b) = yields (Range.bool b)
present_ranged k (Range.integer f) = yields (Range.integer f)
present_ranged k (Range.text p q) = yields (Range.text p q)

-- ════ Operators ════

fitting_by : (k : ℕ) (z : ℤ) (t : Bool) → ltb (mag z) 2147483648 ≡ t → Ranged (number_at k (fitting z))
unfolding fitting
fitting_by k z true e = rw (signed32_fits z (ltb-true (mag z) 2147483648 e)) (yields (Range.integer (record { sfits = ltb-true (mag z) 2147483648 e })))
fitting_by k z false e = rw (signed32_not z (ltb-false (mag z) 2147483648 e)) yields_fault

calculated_ranged : (op : Arithmetic) (k : ℕ) (a b : ℤ) → Ranged (number_at k (calculated op a b))
unfolding calculated quotient
calculated_ranged Add k a b = fitting_by k (a +ℤ b) _ refl
calculated_ranged Subtract k a b = fitting_by k (a -ℤ b) _ refl
calculated_ranged Multiply k a b = fitting_by k (a *ℤ b) _ refl
calculated_ranged Divide k a (pos zero) = yields_fault
calculated_ranged Divide k a (pos (suc b)) = fitting_by k (quot_z a (pos (suc b))) _ refl
calculated_ranged Divide k a (negsuc b) = fitting_by k (quot_z a (negsuc b)) _ refl

truth_ranged : (b : Bool) → Ranged (value (Val.Bool b))
truth_ranged b = yields (Range.bool b)

cond_ranged : (b : Bool) {x y : Evaluated Value} → Ranged x → Ranged y → Ranged (cond b x y)
cond_ranged true h g = h
cond_ranged false h g = g

module _ (message literals : List ℕ) where
  equal_ranged : (k : ℕ) (v w : Value) → Ranged (equal message literals k v w)
  unfolding equal
  equal_ranged k Val.Absent w = yields_stuck
  equal_ranged k (Val.Bool a) w = want_bool_ranged k w (λ b. truth_ranged _)
  equal_ranged k (Val.Integer a) w = want_integer_ranged k w (λ b. truth_ranged _)
  equal_ranged k (Val.Text a) w = want_text_ranged k w (λ b. truth_ranged _)

  look_left_ranged : (op : Operator) (k : ℕ) (v : Value) {rest : Evaluated Value} → Ranged rest → Ranged (look_left message literals op k v rest)
  unfolding look_left
  look_left_ranged (Calculate _) k v h = h
  look_left_ranged Equal k v h = h
  look_left_ranged Greater k v h = h
  look_left_ranged And k v h = want_bool_ranged k v (λ b. cond_ranged b h (truth_ranged false))
  look_left_ranged Or k v h = want_bool_ranged k v (λ b. cond_ranged b (truth_ranged true) h)

  operate_ranged : (op : Operator) (k : ℕ) (v w : Value) → Ranged (operate message literals op k v w)
  unfolding operate
  operate_ranged (Calculate op) k v w = want_integer_ranged k v (λ a. want_integer_ranged k w (λ b. calculated_ranged op k a b))
  operate_ranged Equal k v w = equal_ranged k v w
  operate_ranged Greater k v w = want_integer_ranged k v (λ a. want_integer_ranged k w (λ b. truth_ranged (lt_z b a)))
  operate_ranged And k v w = want_bool_ranged k w (λ b. truth_ranged b)
  operate_ranged Or k v w = want_bool_ranged k w (λ b. truth_ranged b)

-- ════ A table of 16-bit words ════

abbrev pub Short : List ℕ → Type 0
Short words = (i : ℕ) → get_or words i 0 < 65536

-- what a node of such a table holds
abbrev pub ShortNode : Node → Type 0
ShortNode N.Unknown = Unit {0}
ShortNode N.Empty = Unit {0}
ShortNode (N.Terminal byte) = Unit {0}
ShortNode (N.Sequence a b) = (a < 65536) × (b < 65536)
ShortNode (N.Choice a b) = (a < 65536) × (b < 65536)
ShortNode (N.Repeat a) = a < 65536
ShortNode (N.Not a) = a < 65536
ShortNode (N.Call r a b c d s₀ s₁ s₂ s₃) = Unit {0}
ShortNode (N.Bind s a) = a < 65536
ShortNode (N.Update s e) = Unit {0}
ShortNode (N.Constraint e) = Unit {0}
ShortNode (N.Bool b) = Unit {0}
ShortNode (N.Integer z) = SFits w32 z
ShortNode (N.Text start len) = (start < 65536) × (len < 65536)
ShortNode (N.Slot s) = Unit {0}
ShortNode (N.Binary op a b) = Unit {0}
ShortNode (N.Negation a) = Unit {0}

data AllShort : List Node → Type 0 where
  done : AllShort []
  ◌then◌ : {n : Node} {ns : List Node} → ShortNode n → AllShort ns → AllShort (n ∷ ns)

infixr 5 ◌then◌
short_line : {ns : List Node} → AllShort ns → (i : ℕ) → ShortNode (get_or ns i N.Unknown)
short_line done i = tt
short_line (h then hs) zero = h
short_line (h then hs) (suc i) = short_line hs i

signed_short : (high low : ℕ) → high < 65536 → low < 65536 → SFits w32 (signed high low)
signed_short high low h l = rw (signed_is high low) at (integer_fits (high * 65536 + low) (record { fits = omega arith }))

short_nodes : (a b c d e f g h i : ℕ) → a < 65536 → b < 65536 → AllShort (nodes a b c d e f g h i)
unfolding nodes
short_nodes a b c d e f g h i s t =
    let two : (a < 65536) × (b < 65536) = (s, t) in
    tt then tt then tt
    then two then two then s then s
    then tt then t then tt then tt
    then tt then tt then tt then tt then tt
    then tt then signed_short a b s t then two then tt
    then tt then tt then tt then tt then tt then tt then tt then tt then tt
    then done

pub node_short : (words : List ℕ) → Short words → (k : ℕ) → ShortNode (node_at words k)
unfolding node_at node_for
node_short words short k = short_line (short_nodes _ _ _ _ _ _ _ _ _ (short _) (short _)) (kind_at words k)

-- ════ Expressions ════

abbrev ShortExpr : Expr → Type 0
ShortExpr (bool k b) = Unit {0}
ShortExpr (integer k z) = SFits w32 z
ShortExpr (text k start len) = (start < 65536) × (len < 65536)
ShortExpr (slot k s) = Unit {0}
ShortExpr (binary k op e f) = ShortExpr e × ShortExpr f
ShortExpr (negation k e) = ShortExpr e

expr_of_short : (part : ℕ → Expr) (k : ℕ) (n : Node) → ((a : ℕ) → ShortExpr (part a)) → ShortNode n → ShortExpr (expr_of part k n)
unfolding expr_of
expr_of_short part k N.Unknown h s = tt
expr_of_short part k N.Empty h s = tt
expr_of_short part k (N.Terminal a) h s = tt
expr_of_short part k (N.Sequence a b) h s = tt
expr_of_short part k (N.Choice a b) h s = tt
expr_of_short part k (N.Repeat a) h s = tt
expr_of_short part k (N.Not a) h s = tt
expr_of_short part k (N.Call r a b c d s₀ s₁ s₂ s₃) h s = tt
expr_of_short part k (N.Bind x a) h s = tt
expr_of_short part k (N.Update x a) h s = tt
expr_of_short part k (N.Constraint a) h s = tt
expr_of_short part k (N.Bool b) h s = tt
expr_of_short part k (N.Integer z) h s = s
expr_of_short part k (N.Text start len) h s = s
expr_of_short part k (N.Slot x) h s = tt
expr_of_short part k (N.Binary op a b) h s = (h a, h b)
expr_of_short part k (N.Negation a) h s = h a

module _ (words : List ℕ) (short : Short words) where
  expr_with_short : (fuel k : ℕ) → ShortExpr (expr_with fuel words k)
  unfolding expr_with
  expr_with_short zero k = tt
  expr_with_short (suc fuel) k = expr_of_short (expr_with fuel words) k (node_at words k) (expr_with_short fuel) (node_short words short k)

  expr_short : (k : ℕ) → ShortExpr (expr_at words k)
  unfolding expr_at
  expr_short k = expr_with_short _ k

-- all slots, or all of a list, in range
abbrev pub AllInRange : List Value → Type 0
AllInRange [] = Unit {0}
AllInRange (v ∷ vs) = InRange v × AllInRange vs

pub in_range_at : (vs : List Value) (i : ℕ) → AllInRange vs → InRange (get_or vs i Val.Absent)
in_range_at [] i h = Range.absent
in_range_at (v ∷ vs) zero h = h.0
in_range_at (v ∷ vs) (suc i) h = in_range_at vs i h.1

-- as many values as expressions, in range
pub record ManyInRange (count : ℕ) (vs : List Value) : Type 0 where
  pub many : length vs ≡ count
  pub ranged : AllInRange vs

module _ (S : Setting) (slots : Slots) (ranged : AllInRange slots) where
  eval_expr : (e : Expr) → ShortExpr e → Ranged (eval S slots e)
  unfolding eval negated
  eval_expr (bool k b) h = truth_ranged b
  eval_expr (integer k z) h = yields (Range.integer h)
  eval_expr (text k start len) h = yields (Range.text h.0 h.1)
  eval_expr (slot k s) h = present_ranged k (in_range_at slots s ranged)
  eval_expr (binary k op e f) h =
      after_yields (eval_expr e h.0) (λ v _. look_left_ranged S.message S.literals op k v
      (after_yields (eval_expr f h.1) (λ w _. operate_ranged S.message S.literals op k v w)))
  eval_expr (negation k e) h = after_yields (eval_expr e h) (λ v _. want_bool_ranged k v (λ b. truth_ranged (not b)))

  module _ (words : List ℕ) (short : Short words) where
    -- expression node k
    pub eval_ranged : (k : ℕ) → Ranged (eval S slots (expr_at words k))
    eval_ranged k = eval_expr (expr_at words k) (expr_short words short k)

    -- expression nodes, left to right
    pub eval_all_ranged : (ks : List ℕ) → Yields (ManyInRange (length ks)) (eval_all S slots (map (expr_at words) ks))
    unfolding eval_all
    eval_all_ranged [] = yields (record { many = refl; ranged = tt })
    eval_all_ranged (k ∷ ks) =
        after_yields (eval_ranged k) (λ v h. after_yields (eval_all_ranged ks)
        (λ vs hs. yields (record { many = omega (arith, hs.many); ranged = (h, hs.ranged) })))
