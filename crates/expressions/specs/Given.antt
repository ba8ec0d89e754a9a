-- Results in two words, and operators and leaves by their numbers. Assumes nothing.
use Rattle.std.specs.Prelude.{Bool, false, true, cond, List, [], ◌∷◌, ℕ, ◌/◌, ◌%◌, eqb, ltb, get_or}
use Rattle.grammar.specs.declared.Arithmetic.TheVariants.{Add, Subtract, Multiply, Divide}
use Rattle.grammar.specs.declared.Operator.{Operator}
use Rattle.grammar.specs.declared.Operator.TheVariants.{Calculate, Equal, Greater, And, Or}
use Rattle.grammar.specs.declared.Fault.TheVariants.{Overflow, ZeroDivisor}
use Rattle.grammar.specs.declared.Ending.TheVariants.{Stuck, «Fault» as AtFault}
use Rattle.grammar.specs.declared.Span.{Span}
use Rattle.grammar.specs.declared.Value.{Value}
use Rattle.grammar.specs.declared.Value.TheVariants as Val
use Rattle.grammar.specs.Run.{Slots}
use Rattle.grammar.specs.Values.{Evaluated, value, ends, truth, present}
use Rattle.grammar.specs.Words.{signed}
use Rattle.values.specs.Slots.{text_of, value_of}
use Rattle.values.specs.Words.{integer_of}
use Rattle.expressions.specs.declared.results.Given.{Given}

-- what two words stand for, a line to a tag: a slot's five, and then why a run ends, at a node
abbrev pub givens : ℕ → List (Evaluated Value)
givens payload =
    value Val.Absent
    ∷ value (Val.Bool (eqb payload 1))
    ∷ value (Val.Integer (integer_of payload))
    ∷ value (text_of false payload)
    ∷ value (text_of true payload)
    ∷ ends Stuck (payload % 65536)
    ∷ ends (AtFault Overflow) (payload % 65536)
    ∷ ends (AtFault ZeroDivisor) (payload % 65536)
    ∷ []

-- a tag that has no line is an end too
unfoldable pub given_of : (tag payload : ℕ) → Evaluated Value
given_of tag payload = get_or (givens payload) tag (ends Stuck (payload % 65536))

abbrev pub given : Given → Evaluated Value
given g = given_of g.tag g.payload

-- the value of a result that is one
abbrev pub held : Given → Value
held g = value_of g.tag g.payload

-- are they both Integers
abbrev pub integer_tags : (vt wt : ℕ) → Bool
integer_tags vt wt = cond (eqb vt 2) (eqb wt 2) false

abbrev pub both_integers : Given → Given → Bool
both_integers v w = integer_tags v.tag w.tag

-- is it a Text, and which part
abbrev pub text_tag : ℕ → Bool
text_tag tag = cond (ltb tag 3) false (ltb tag 5)

abbrev pub is_text : Given → Bool
is_text g = text_tag g.tag

abbrev pub span_of : (tag payload : ℕ) → Span
span_of tag payload = record { literal = eqb tag 4; start = payload / 65536; length = payload % 65536 }

abbrev pub span_in : Given → Span
span_in g = span_of g.tag g.payload

-- the operators of kinds 20 to 27, from 0 on
unfoldable pub operator_of : ℕ → Operator
operator_of j =
    get_or
    (Calculate Add ∷ Calculate Subtract ∷ Calculate Multiply ∷ Calculate Divide ∷ Equal ∷ Greater ∷ And ∷ Or ∷ [])
    j Or

-- a node below 20: four kinds are leaves, the others no expressions
unfoldable pub leaf_of : Slots → (kind k a b : ℕ) → Evaluated Value
leaf_of slots kind k a b =
    cond (eqb kind 16) (truth (eqb a 1))
    (cond (eqb kind 17) (value (Val.Integer (signed a b)))
    (cond (eqb kind 18) (value (Val.Text (record { literal = true; start = a; length = b })))
    (cond (eqb kind 19) (present k (get_or slots a Val.Absent)) (truth false))))
