use Rattle.runs.proofs.Verdicts.{place_other}
use Rattle.grammar.specs.Answer.{refusal_place}
use mathlib.Core.Path.{sym, ◌∙◌}
use Rattle.runs.proofs.answers.place_of.Goals as goal

pub returns-in-Field : goal.returns-in-Field
unfolding refusal_place
returns-in-Field c = rw c.in-Field.is c.from.ensures

pub returns-in-Use : goal.returns-in-Use
unfolding refusal_place
returns-in-Use c = rw c.in-Use.is c.from-in-Use.ensures

pub returns-in-Untyped : goal.returns-in-Untyped
unfolding refusal_place
returns-in-Untyped c = rw c.in-Untyped.is c.from-in-Untyped.ensures

pub returns-in_default : goal.returns-in_default
returns-in_default c = sym (place_other _ c.in_default.not-Field c.in_default.not-Use c.in_default.not-Untyped)
