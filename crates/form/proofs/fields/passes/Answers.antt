use Rattle.form.proofs.Force.{passes_zero}
use Rattle.grammar.specs.Form.{fits}
use borrow.Author.Rules.{rules}
use Rattle.form.proofs.fields.passes.Goals as goal

pub returns-in-1 : goal.returns-in-1
unfolding fits
returns-in-1 c = rw c.in-1.is

pub returns-in-2 : goal.returns-in-2
unfolding fits
returns-in-2 c = rw c.in-2.is

pub returns-in-3 : goal.returns-in-3
unfolding fits
returns-in-3 c = rw c.in-3.is

pub returns-in-4 : goal.returns-in-4
unfolding fits
returns-in-4 c = rw c.in-4.is c.is_part.ensures

pub returns-in-5 : goal.returns-in-5
unfolding fits
returns-in-5 c = rw c.in-5.is c.is_part-in-5.ensures

pub returns-in-6 : goal.returns-in-6
unfolding fits
returns-in-6 c = rw (c.in-6.is, c.rule_count.ensures)

pub returns-in-7 : goal.returns-in-7
unfolding fits
returns-in-7 c = rw c.in-7.is

pub returns-in-8 : goal.returns-in-8
unfolding fits
returns-in-8 c = rw (c.in-8.is, c.literal_count.ensures)

pub returns-in-9 : goal.returns-in-9
unfolding fits
returns-in-9 c = rw (c.in-9.is, c.from.ensures, c.word_at.ensures, c.from-in-9.ensures, c.from-in-9-2.ensures, c.literal_count-in-9.ensures)

pub returns-in-10 : goal.returns-in-10
unfolding fits
returns-in-10 c = rw c.in-10.is

pub returns-in_default : goal.returns-in_default
returns-in_default c = search (passes_zero, rules)
