use Rattle.values.proofs.Integers.{same_bits}
use Rattle.values.proofs.numbers.same_integer.Goals as goal

pub returns : goal.returns
returns c = same_bits c.args.a c.args.b c.ranges.a c.ranges.b
