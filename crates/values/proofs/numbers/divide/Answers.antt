use mathlib.Core.Path.{◌∙◌}
use mir.Facts.{to_z-of_z}
use Rattle.values.proofs.Integers.{no_divisor, divided}
use Rattle.values.proofs.numbers.divide.Goals as goal

pub returns-then-b-eq0 : goal.returns-then-b-eq0
returns-then-b-eq0 c = no_divisor c.args.a c.args.b c.ranges.b c.if-b-eq0.true

pub returns : goal.returns
returns c = c.ok_or.ensures.value ∙ divided c.args.a c.args.b _ c.if-b-eq0.false (rw (to_z-of_z c.ranges.a, to_z-of_z c.ranges.b) at c.checked_div.ensures)
