use mathlib.Core.Path.{sym, ◌∙◌}
use native.Mathlib.Omega.{arith}
use Rattle.visits.specs.Visits.{consumed}
use Rattle.visits.proofs.Arms.{stands_small}
use Rattle.visits.proofs.consume.Goals as goal

pub overflow_add-run : goal.overflow_add-run
overflow_add-run c = let a = c.args in omega (arith, stands_small a.message.now a.run.at a.byte (sym c.byte_stands.ensures ∙ c.if-byte_stands.true))

pub returns-then-byte_stands : goal.returns-then-byte_stands
unfolding consumed
returns-then-byte_stands c = rw (← c.byte_stands.ensures, c.if-byte_stands.true) c.move_to.ensures

pub returns : goal.returns
unfolding consumed
returns c = rw (← c.byte_stands.ensures, c.if-byte_stands.false) c.stay.ensures
