-- The steps of the walk over an expression: each comes to the same type, and has less before it. Assumes nothing.
use mathlib.Core.Path.{◌≡◌, refl, sym, ap, subst, ◌∙◌}
use mathlib.Core.List.{List}
use mathlib.Core.Bool.{Bool, true, false, cond, ◌&&◌}
use Rattle.std.specs.Prelude.{Option as Optional, None, Some}
use Prim.Native.Nat.{ℕ, zero, suc, ◌+◌, ◌-◌, ◌%◌, ◌<◌, ◌≤◌}
use native.Mathlib.Omega.{arith}
use lib.Dec.{ltb, eqb}
use lib.ListN.{get_or, set, length}
use borrow.Author.Tests.{lt-ltb, le-ltb, ne_eqb}
use Rattle.laws.specs.Tests.{never}
use Rattle.laws.specs.Pile.{through, comes_to, unmoved, answered, opened, closed, turned, heavy, burden, heavy_some, heavy_two, heavy_one, burden_again, burden_some}
use Rattle.grammar.specs.declared.Operator.TheVariants.{Equal}
use Rattle.grammar.specs.Words.{kind_at, node_word}
use Rattle.grammar.specs.Tree.{expr_at, expr_of}
use Rattle.grammar.specs.Types.{Env, operator_type, expr_type, negation_type}
use Rattle.typing.specs.declared.slots.Slots.{Slots}
use Rattle.table.specs.declared.kinds.Kind.{Kind}
use Rattle.table.specs.declared.kinds.Kind.TheVariants as K
use Rattle.table.specs.Kinds.{kind_of}
use Rattle.typing.specs.declared.value_type.ValueType.{ValueType}
use Rattle.typing.specs.declared.expressions.Step.{Step}
use Rattle.typing.specs.declared.expressions.Step.TheVariants.{Found}
use Rattle.typing.specs.declared.expressions.Judging.{Judging}
use Rattle.typing.specs.Checked.{CheckedNode}
use Rattle.typing.specs.Slots.{types_in}
use Rattle.typing.specs.Types.{number, number_if_any}
use Rattle.typing.specs.Expressions.{kind_type, at_work, code_of, number_of, applied, operator_of, operator_weight, Operand, is_operator, has_two, node_due, type_found, comes_of, step_weight, judging, Judges, JudgedOn}
use Rattle.typing.proofs.Types.{small, positive}
use Rattle.typing.proofs.Walks.{holds, expr_is, placed_node, placed_part}
use Rattle.typing.proofs.NodeKinds.{read, binary, operator_number}

-- ════ An operator at work ════

module _ (words : List ℕ) (env : Env) (place f t : ℕ) where
  applied_left : has_two (operator_of f) ≡ true → code_of f < 32 → applied words env place f t ≡ kind_type (operator_of f) t (expr_type env (expr_at words (number_of f)))
  unfolding applied
  applied_left two h = rw (two, lt-ltb (code_of f) 32 h)

  applied_right : has_two (operator_of f) ≡ true → 32 ≤ code_of f → applied words env place f t ≡ kind_type (operator_of f) (number_of f) t
  unfolding applied
  applied_right two h = rw (two, le-ltb (code_of f) 32 h)

  applied_negation : has_two (operator_of f) ≡ false → applied words env place f t ≡ negation_type t
  unfolding applied
  applied_negation one = rw one

module _ (place f : ℕ) where
  weight_left : has_two (operator_of f) ≡ true → code_of f < 32 → operator_weight place f ≡ burden true (number_of f)
  unfolding operator_weight
  weight_left two h = rw (two, lt-ltb (code_of f) 32 h)

  weight_right : has_two (operator_of f) ≡ true → 32 ≤ code_of f → operator_weight place f ≡ burden false (number_of f)
  unfolding operator_weight
  weight_right two h = rw (two, le-ltb (code_of f) 32 h)

  weight_one : has_two (operator_of f) ≡ false → operator_weight place f ≡ burden false (number_of f)
  unfolding operator_weight
  weight_one one = rw one

-- not alone has one operand
two_operands : (kind : Kind) → (kind ≡ K.Negation → ⊥) → has_two kind ≡ true
unfolding has_two
two_operands K.Negation h = absurd (h refl)
two_operands K.Unknown h = refl
two_operands K.Empty h = refl
two_operands K.Terminal h = refl
two_operands K.Sequence h = refl
two_operands K.Choice h = refl
two_operands K.Repeat h = refl
two_operands K.Not h = refl
two_operands K.Call h = refl
two_operands K.Bind h = refl
two_operands K.Update h = refl
two_operands K.Constraint h = refl
two_operands K.Bool h = refl
two_operands K.Integer h = refl
two_operands K.Text h = refl
two_operands K.Slot h = refl
two_operands K.Add h = refl
two_operands K.Subtract h = refl
two_operands K.Multiply h = refl
two_operands K.Divide h = refl
two_operands K.Equal h = refl
two_operands K.Greater h = refl
two_operands K.And h = refl
two_operands K.Or h = refl

one_operand : (kind : Kind) → kind ≡ K.Negation → has_two kind ≡ false
unfolding has_two
one_operand k e = rw e

negation : (kind : Kind) → has_two kind ≡ false → K.Negation ≡ kind
unfolding has_two
negation K.Negation e = refl
negation K.Unknown e = never (sym e)
negation K.Empty e = never (sym e)
negation K.Terminal e = never (sym e)
negation K.Sequence e = never (sym e)
negation K.Choice e = never (sym e)
negation K.Repeat e = never (sym e)
negation K.Not e = never (sym e)
negation K.Call e = never (sym e)
negation K.Bind e = never (sym e)
negation K.Update e = never (sym e)
negation K.Constraint e = never (sym e)
negation K.Bool e = never (sym e)
negation K.Integer e = never (sym e)
negation K.Text e = never (sym e)
negation K.Slot e = never (sym e)
negation K.Add e = never (sym e)
negation K.Subtract e = never (sym e)
negation K.Multiply e = never (sym e)
negation K.Divide e = never (sym e)
negation K.Equal e = never (sym e)
negation K.Greater e = never (sym e)
negation K.And e = never (sym e)
negation K.Or e = never (sym e)

abbrev type_in : (words : List ℕ) → Slots → ℕ → ℕ
type_in words slots k = expr_type (types_in slots) (expr_at words k)

module _ {words pile : List ℕ} (slots : Slots) where
  -- ════ A node is due ════

  module _ {k top : ℕ} (judges : Judges words pile (node_due k top)) where
    abbrev start : Judging
    start = node_due k top

    pub due_node : CheckedNode words (length pile) k
    due_node = placed_node judges.due judges.table

    pub leaf_step : {t : Optional ValueType} → number_if_any t ≡ type_in words slots k → JudgedOn words slots pile start pile (type_found t top)
    unfolding judging comes_of step_weight
    leaf_step e = record { onward = answered _ judges.piled refl (λ i l. refl) e (heavy_some k); due = tt }

    abbrev kind : ℕ
    kind = kind_at words k

    abbrev field : ℕ → ℕ
    field j = node_word words k j

    -- the operator goes to work, its first operand is due
    module _ (fits : field 2 < 65536) (operates : is_operator (kind_of kind) ≡ true) where
      abbrev work : ℕ
      work = at_work kind (field 2)

      abbrev Opens : Type 0
      Opens = JudgedOn words slots pile start (set pile top work) (node_due (field 1) (top + 1))

      low : kind < 29
      low = operator_number kind operates

      code : code_of work ≡ kind
      code = omega arith

      operator_lem : operator_of work ≡ kind_of kind
      operator_lem = let l = low in let c = code in let e : code_of work % 32 ≡ kind = omega arith in ap kind_of e

      number_lem : number_of work ≡ field 2
      number_lem = omega arith

      step : field 1 < k → Operand words (length pile) top work → applied words (types_in slots) top work (type_in words slots (field 1)) ≡ type_in words slots k
          → heavy (field 1) + operator_weight top work < heavy k → Opens
      unfolding judging comes_of step_weight
      step below operand same less =
          let h = judges.due in
          record { onward = opened _ judges.piled (omega arith) operand same less; due = placed_part judges.due below }

      two_step : has_two (kind_of kind) ≡ true → Opens
      unfolding expr_type expr_of
      two_step two =
          let n = read words k refl in
          let b = binary words k (kind_of kind) operates two in
          let p = holds due_node (n ∙ b.node) in
          let l = low in
          let c = code in
          let w : has_two (operator_of work) ≡ true = rw operator_lem two in
          step p.0.below
          (record { waits = λ _ _. rw number_lem (placed_part judges.due p.1.below); typed = λ _ h. absurd (omega arith) })
          (applied_left words (types_in slots) top work (type_in words slots (field 1)) w (omega arith)
          ∙ rw (operator_lem, number_lem, expr_is due_node (n ∙ b.node)) (sym (b.types (type_in words slots (field 1)) (type_in words slots (field 2)))))
          (rw (weight_left top work w (omega arith), number_lem) (heavy_two p.0.below p.1.below))

      one_step : has_two (kind_of kind) ≡ false → Opens
      unfolding expr_type expr_of
      one_step one =
          let n = read words k (negation (kind_of kind) one) in
          let p = (holds due_node n).below in
          let w : has_two (operator_of work) ≡ false = rw operator_lem one in
          step p
          (record { waits = λ two _. never (sym w ∙ two); typed = λ two _. never (sym w ∙ two) })
          (applied_negation words (types_in slots) top work (type_in words slots (field 1)) w ∙ rw (expr_is due_node n))
          (rw (weight_one top work w) (heavy_one (number_of work) p))

      by_operands : (b : Bool) → has_two (kind_of kind) ≡ b → Opens
      by_operands true e = two_step e
      by_operands false e = one_step e

      pub operator_step : Opens
      operator_step = by_operands (has_two (kind_of kind)) refl

  -- ════ A type was found ════

  module _ {t : ValueType} {height : ℕ} (judges : Judges words pile (type_found (Some t) height)) (some₀ : 0 < height) where
    abbrev before : Judging
    before = type_found (Some t) height

    abbrev last : ℕ
    last = height - 1

    abbrev top : ℕ
    top = get_or pile last 0

    pub on_top : Operand words (length pile) last top
    on_top = judges.piled.each last (omega arith)

    -- the right operand is due, and the operator keeps the left one's type
    pub left_step : {n : ℕ} → n ≡ number t → (operator_of top ≡ K.Negation → ⊥) → code_of top < 32
        → JudgedOn words slots pile before (set pile last (at_work (code_of top + 32) n)) (node_due (number_of top) height)
    unfolding judging comes_of step_weight
    left_step {n} e other left =
        let two = two_operands (operator_of top) other in
        let low = small t in
        let some = positive t in
        let x : ℕ = at_work (code_of top + 32) n in
        let p = on_top.waits two left in
        let d : code_of x ≡ code_of top + 32 = omega arith in
        let r : code_of x % 32 ≡ code_of top % 32 = omega arith in
        let c : operator_of x ≡ operator_of top = ap kind_of r in
        let m : number_of x ≡ number t = omega arith in
        let w : has_two (operator_of x) ≡ true = rw c two in
        record {
          onward = turned _ judges.piled some₀
              (record { waits = λ _ l. absurd (omega arith); typed = λ _ l. (omega arith, omega arith) })
              (applied_right words (types_in slots) last x (type_in words slots (number_of top)) w (omega arith) ∙ rw (c, m) (sym (applied_left words (types_in slots) last top (number t) two left)))
              (omega (arith, weight_left last top two left, weight_right last x w (omega arith), burden_again (number_of x) (number_of top)));
          due = record { there = omega arith; fits = omega arith };
        }

    -- the operator's type is found
    done : {u : Optional ValueType} → 0 < operator_weight last top → number_if_any u ≡ applied words (types_in slots) last top (number t)
        → JudgedOn words slots pile before pile (type_found u last)
    unfolding judging comes_of step_weight
    done some e = record { onward = closed _ judges.piled some₀ e (omega (arith, some)); due = tt }

    pub negation_step : {u : Optional ValueType} → operator_of top ≡ K.Negation → number_if_any u ≡ negation_type (number t) → JudgedOn words slots pile before pile (type_found u last)
    negation_step e u =
        let one = one_operand (operator_of top) e in
        done (rw (weight_one last top one) (burden_some false (number_of top))) (u ∙ sym (applied_negation words (types_in slots) last top (number t) one))

    pub right_step : {u : Optional ValueType} {left : ℕ} → (operator_of top ≡ K.Negation → ⊥) → 32 ≤ code_of top → left ≡ number_of top
        → number_if_any u ≡ kind_type (operator_of top) left (number t) → JudgedOn words slots pile before pile (type_found u last)
    right_step other h e u =
        let two = two_operands (operator_of top) other in
        done (rw (weight_right last top two h) (burden_some false (number_of top))) (u ∙ rw e (sym (applied_right words (types_in slots) last top (number t) two h)))

    -- the left operand's type
    pub typed_left : (operator_of top ≡ K.Negation → ⊥) → 32 ≤ code_of top → (0 < number_of top) × (number_of top < 4)
    typed_left other h = on_top.typed (two_operands (operator_of top) other) h

-- ════ The whole walk ════

-- the same walk, its step by another name
abbrev pub by_step : Judging → Step → Judging
by_step w s = record { step = s; top = w.top }

same_walk : {w : Judging} {s : Step} → w.step ≡ s → by_step w s ≡ w
same_walk {w} is = sym (ap (by_step w) is)

pub starts : {words : List ℕ} {k : ℕ} (pile : List ℕ) (slots : Slots) → CheckedNode words (length pile) k
    → Judges words pile (node_due k 0) × (comes_to (applied words (types_in slots)) (judging words slots pile (node_due k 0)) ≡ expr_type (types_in slots) (expr_at words k))
unfolding judging comes_of comes_to through
starts pile slots node =
    (record { table = node.table; piled = record { room = omega arith; each = λ i l. absurd (omega arith) }; due = record { there = omega arith; fits = omega arith } }, refl)

goes : {words pile later : List ℕ} {slots : Slots} {w v : Judging} → Judges words pile w → JudgedOn words slots pile w later v → Judges words later v
unfolding judging
goes judges on =
    record { table = judges.table; piled = rw on.onward.long on.onward.piled; due = rw on.onward.long on.due }

-- a step of the code's loop
pub goes_on : {words pile later : List ℕ} {slots : Slots} {w v : Judging} {s : Step} {o : ℕ} → w.step ≡ s → Judges words pile w → JudgedOn words slots pile (by_step w s) later v
    → comes_to (applied words (types_in slots)) (judging words slots pile w) ≡ o → Judges words later v × (comes_to (applied words (types_in slots)) (judging words slots later v) ≡ o)
goes_on {words} {pile} {later} {slots} {w} {v} is judges on so =
    let on : JudgedOn words slots pile w later v = subst (λ (u : Judging). JudgedOn words slots pile u later v) (same_walk is) on in (goes judges on, on.onward.same ∙ so)

-- an operand without a type leaves the operator without one
and_false : (b : Bool) → (b && false) ≡ false
and_false true = refl
and_false false = refl

equal_none : (s : ℕ) → operator_type Equal s 0 ≡ 0
unfolding operator_type
equal_none zero = refl
equal_none (suc s) = rw (ne_eqb (suc s) 0 (λ e. omega arith), and_false (ltb 0 (suc s)))

kind_none : (kind : Kind) (s : ℕ) → kind_type kind s 0 ≡ 0
unfolding kind_type
kind_none K.Unknown s = rw (and_false (eqb s 2))
kind_none K.Empty s = rw (and_false (eqb s 2))
kind_none K.Terminal s = rw (and_false (eqb s 2))
kind_none K.Sequence s = rw (and_false (eqb s 2))
kind_none K.Choice s = rw (and_false (eqb s 2))
kind_none K.Repeat s = rw (and_false (eqb s 2))
kind_none K.Not s = rw (and_false (eqb s 2))
kind_none K.Call s = rw (and_false (eqb s 2))
kind_none K.Bind s = rw (and_false (eqb s 2))
kind_none K.Update s = rw (and_false (eqb s 2))
kind_none K.Constraint s = rw (and_false (eqb s 2))
kind_none K.Bool s = rw (and_false (eqb s 2))
kind_none K.Integer s = rw (and_false (eqb s 2))
kind_none K.Text s = rw (and_false (eqb s 2))
kind_none K.Slot s = rw (and_false (eqb s 2))
kind_none K.Add s = rw (and_false (eqb s 2))
kind_none K.Subtract s = rw (and_false (eqb s 2))
kind_none K.Multiply s = rw (and_false (eqb s 2))
kind_none K.Divide s = rw (and_false (eqb s 2))
kind_none K.Equal s = equal_none s
kind_none K.Greater s = rw (and_false (eqb s 2))
kind_none K.And s = rw (and_false (eqb s 1))
kind_none K.Or s = rw (and_false (eqb s 1))
kind_none K.Negation s = rw (and_false (eqb s 2))

none_left : (kind : Kind) (t : ℕ) → kind_type kind 0 t ≡ 0
unfolding kind_type operator_type
none_left K.Unknown t = refl
none_left K.Empty t = refl
none_left K.Terminal t = refl
none_left K.Sequence t = refl
none_left K.Choice t = refl
none_left K.Repeat t = refl
none_left K.Not t = refl
none_left K.Call t = refl
none_left K.Bind t = refl
none_left K.Update t = refl
none_left K.Constraint t = refl
none_left K.Bool t = refl
none_left K.Integer t = refl
none_left K.Text t = refl
none_left K.Slot t = refl
none_left K.Add t = refl
none_left K.Subtract t = refl
none_left K.Multiply t = refl
none_left K.Divide t = refl
none_left K.Equal t = refl
none_left K.Greater t = refl
none_left K.And t = refl
none_left K.Or t = refl
none_left K.Negation t = refl

all_zero : (b c : Bool) → cond b (cond c zero zero) zero ≡ zero
all_zero true true = refl
all_zero true false = refl
all_zero false c = refl

applied_none : (words : List ℕ) (env : Env) (place f : ℕ) → applied words env place f 0 ≡ 0
unfolding applied
applied_none words env place f =
    rw (kind_none (operator_of f) (number_of f), none_left (operator_of f) (expr_type env (expr_at words (number_of f)))) (all_zero (has_two (operator_of f)) (ltb (code_of f) 32))

module _ (words pile : List ℕ) (slots : Slots) (w : Judging) {found : Optional ValueType} {o : ℕ} (is : w.step ≡ Found found)
    (so : comes_to (applied words (types_in slots)) (judging words slots pile w) ≡ o) where
  comes : comes_to (applied words (types_in slots)) (judging words slots pile (type_found found w.top)) ≡ o
  comes = subst (λ (u : Judging). comes_to (applied words (types_in slots)) (judging words slots pile u) ≡ o) (sym (same_walk is)) so

  pub ends : w.top ≡ 0 → number_if_any found ≡ o
  unfolding judging comes_of comes_to through
  ends empty = rw empty at comes

  pub breaks : found ≡ None → 0 ≡ o
  unfolding judging comes_of comes_to
  breaks none = sym (unmoved (applied words (types_in slots)) pile w.top 0 (λ i f. applied_none words (types_in slots) i f)) ∙ (rw none at comes)
