-- Type rules (document 01, "Type rules"). A type is 1 Bool, 2 Integer or 3 Text; 0 stands for no type.
-- `Env` has the type of each of a rule's sixteen slots, 0 where the slot is unset. Assumes nothing.
use Rattle.std.specs.Prelude.{List, [], ◌∷◌, ◌++◌, map, Bool, true, false, cond, ◌&&◌, ◌||◌, ℕ, ◌-◌, ltb, eqb, get_or, set, length, replicate}
use Rattle.std.proofs.Math.Option.{Option, none, some}
use Rattle.laws.specs.Counting.{smallest_failing}
use Rattle.laws.specs.Same.{same}
use Rattle.grammar.specs.declared.Operator.{Operator}
use Rattle.grammar.specs.declared.Operator.TheVariants.{Calculate, Equal, Greater, And, Or}
use Rattle.grammar.specs.declared.Value.{Value}
use Rattle.grammar.specs.declared.Value.TheVariants as Val
use Rattle.grammar.specs.Tree.{Expr, bool, integer, text, slot, binary, negation}
use Rattle.grammar.specs.Tree.{Parsing, empty, terminal, sequence, choice, repeat, unless, call, bind, update, constraint}
use Rattle.grammar.specs.Tree.{Rule, Grammar, rule_of}

abbrev pub Env : Type 0
Env = List ℕ

-- 'Types: 1 Bool, 2 Integer, 3 Text': the type of a value, and the types of a run's slots
abbrev pub type_number : Value → ℕ
type_number Val.Absent = 0
type_number (Val.Bool b) = 1
type_number (Val.Integer z) = 2
type_number (Val.Text s) = 3

abbrev pub types_of : List Value → Env
types_of values = map type_number values

-- Two small connectives: what follows a test that passes, and what follows a step that gives something
abbrev pub provided : {A : Type 0} → Bool → Option A → Option A
provided true o = o
provided false o = none

abbrev pub and_then : {A B : Type 0} → Option A → (A → Option B) → Option B
and_then none f = none
and_then (some a) f = f a

-- 'Add, subtract, multiply, divide take Integers; greater takes Integers, gives Bool; equal takes two of one type; and, or, not take Bools'
abbrev pub if_both : (wanted given : ℕ) → ℕ → ℕ → ℕ
if_both wanted given s t = cond (eqb s wanted && eqb t wanted) given 0

unfoldable pub operator_type : Operator → ℕ → ℕ → ℕ
operator_type (Calculate _) s t = if_both 2 2 s t
operator_type Equal s t = cond (ltb 0 s && eqb s t) 1 0
operator_type Greater s t = if_both 2 1 s t
operator_type And s t = if_both 1 1 s t
operator_type Or s t = if_both 1 1 s t

abbrev pub negation_type : ℕ → ℕ
negation_type t = cond (eqb t 1) 1 0

-- the type of an expression, 0 where it has none; 'an unset slot has no type'
unfoldable pub expr_type : Env → Expr → ℕ
expr_type env (bool k b) = 1
expr_type env (integer k z) = 2
expr_type env (text k start len) = 3
expr_type env (slot k s) = get_or env s 0
expr_type env (binary k op e f) = operator_type op (expr_type env e) (expr_type env f)
expr_type env (negation k e) = negation_type (expr_type env e)

-- the expression has the type t
unfoldable pub has : Env → Expr → ℕ → Bool
has env e t = ltb 0 t && eqb (expr_type env e) t

unfoldable pub have_all : Env → List Expr → List ℕ → Bool
have_all env [] [] = true
have_all env [] (t ∷ ts) = false
have_all env (e ∷ es) [] = false
have_all env (e ∷ es) (t ∷ ts) = has env e t && have_all env es ts

-- Update: an unset slot takes the type; a set one must have it already
unfoldable pub assign : Env → ℕ → ℕ → Option Env
assign env s t = provided (eqb (get_or env s 0) 0 || eqb (get_or env s 0) t) (some (set env s t))

-- receiving slots are updated left to right
unfoldable pub assign_all : Env → List ℕ → List ℕ → Option Env
assign_all env [] ts = some env
assign_all env (s ∷ ss) [] = some env
assign_all env (s ∷ ss) (t ∷ ts) = and_then (assign env s t) (λ env'. assign_all env' ss ts)

-- What a parsing node leaves of the slots it starts from; nothing where it breaks a rule
unfoldable pub type_of : Grammar → Env → Parsing → Option Env
type_of G env (empty k) = some env
type_of G env (terminal k byte) = some env
-- Sequence: the second part starts from what the first left
type_of G env (sequence k p q) = and_then (type_of G env p) (λ env'. type_of G env' q)
-- Choice: both parts pass from the same start and leave the same slots
type_of G env (choice k p q) = and_then (type_of G env p) (λ env₁. and_then (type_of G env q) (λ env₂. provided (same env₁ env₂) (some env₁)))
-- 'Repeat, not: the part leaves the slots as at its start (our rule)'
type_of G env (repeat k p) = and_then (type_of G env p) (λ env'. provided (same env env') (some env))
type_of G env (unless k p) = and_then (type_of G env p) (λ env'. provided (same env env') (some env))
-- Call: arguments have the callee's inherited types; receiving slots are updated left to right with its returned types
type_of G env (call k r arguments receiving) =
    provided (have_all env arguments (rule_of G r).inherited) (assign_all env receiving (rule_of G r).returned_types)
-- Bind: judged after its part; the slot is then unset and becomes Text, or is Text already
type_of G env (bind k s p) = and_then (type_of G env p) (λ env'. assign env' s 3)
type_of G env (update k s e) = provided (ltb 0 (expr_type env e)) (assign env s (expr_type env e))
-- Constraint: Bool
type_of G env (constraint k e) = provided (has env e 1) (some env)

-- A rule starts with its inherited slots set, others unset
abbrev pub start_env : List ℕ → Env
start_env ts = ts ++ replicate (16 - length ts) 0

-- after the body each returned node has its declared type
unfoldable pub typed_after : Rule → Option Env → Bool
typed_after R none = false
typed_after R (some env) = have_all env R.returned R.returned_types

unfoldable pub typed_rule : Grammar → Rule → Bool
typed_rule G R = typed_after R (type_of G (start_env R.inherited) R.body)

-- the smallest rule that fails the type rules
unfoldable pub untyped : Grammar → Option ℕ
untyped G = smallest_failing (λ r. typed_rule G (rule_of G r)) 0 (length G)
