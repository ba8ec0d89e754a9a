use Rattle.std.proofs.Common.{to_z-of_z}
use Rattle.values.proofs.Complement.{word_bits}
use Rattle.values.proofs.words.word_of.Goals as goal

pub returns : goal.returns
returns c = rw (c.cast_unsigned.ensures, word_bits c.args.z, to_z-of_z c.ranges.z)
