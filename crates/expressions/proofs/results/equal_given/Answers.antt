use Rattle.expressions.proofs.Givens.{equal_integers, equal_no_integer, equal_bools, equal_no_bool, equal_texts, equal_no_text, equal_none}
use Rattle.expressions.specs.Given.{held}
use mir.Facts.{to_z-of_z}
use mathlib.Core.Path.{◌∙◌, sym}
use Rattle.expressions.proofs.results.equal_given.Goals as goal

pub returns-then-w-eq2 : goal.returns-then-w-eq2
returns-then-w-eq2 c = rw (← equal_integers c.args.message.now c.args.literals.now c.args.k c.args.v.tag c.args.v.payload c.args.w.tag c.args.w.payload c.if-v-eq2.true c.if-w-eq2.true, ← c.integer_of.ensures, ← c.integer_of-then-w-eq2.ensures, ← rw (to_z-of_z (record { sfits = c.integer_of.type_inv }), to_z-of_z (record { sfits = c.integer_of-then-w-eq2.type_inv })) at c.same_integer.ensures) c.truth.ensures

pub returns-then-v-eq2 : goal.returns-then-v-eq2
returns-then-v-eq2 c = c.stuck.ensures ∙ equal_no_integer c.args.message.now c.args.literals.now c.args.k c.args.v.tag c.args.v.payload c.args.w.tag c.args.w.payload c.if-v-eq2.true c.if-w-eq2.false

pub returns-then-w-eq1 : goal.returns-then-w-eq1
returns-then-w-eq1 c = c.truth-then-w-eq1.ensures ∙ equal_bools c.args.message.now c.args.literals.now c.args.k c.args.v.tag c.args.v.payload c.args.w.tag c.args.w.payload c.if-v-eq1.true c.if-w-eq1.true

pub returns-then-v-eq1 : goal.returns-then-v-eq1
returns-then-v-eq1 c = c.stuck-then-v-eq1.ensures ∙ equal_no_bool c.args.message.now c.args.literals.now c.args.k c.args.v.tag c.args.v.payload c.args.w.tag c.args.w.payload c.if-v-eq1.true c.if-w-eq1.false

pub returns-then-is_text-2 : goal.returns-then-is_text-2
returns-then-is_text-2 c = rw (← equal_texts c.args.message.now c.args.literals.now c.args.k c.args.v.tag c.args.v.payload c.args.w.tag c.args.w.payload (sym c.is_text.ensures ∙ c.if-is_text.true) (sym c.is_text-then-is_text.ensures ∙ c.if-is_text-2.true), ← c.span_in.ensures, ← c.span_in-then-is_text-2.ensures, ← c.same_texts.ensures) c.truth-then-is_text-2.ensures

pub returns-then-is_text : goal.returns-then-is_text
returns-then-is_text c = c.stuck-then-is_text.ensures ∙ equal_no_text c.args.message.now c.args.literals.now c.args.k c.args.v.tag c.args.v.payload c.args.w.tag c.args.w.payload (sym c.is_text.ensures ∙ c.if-is_text.true) (sym c.is_text-then-is_text.ensures ∙ c.if-is_text-2.false)

pub returns : goal.returns
returns c = c.stuck-2.ensures ∙ equal_none c.args.message.now c.args.literals.now c.args.k c.args.v.tag c.args.v.payload (held c.args.w) c.if-v-eq2.false c.if-v-eq1.false (sym c.is_text.ensures ∙ c.if-is_text.false)
