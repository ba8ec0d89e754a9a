use Rattle.std.proofs.Common.{◌∙◌, to_z-of_z, w32}
use Rattle.values.proofs.Complement.{signed_is}
use Rattle.values.proofs.words.signed_of.Goals as goal

pub returns : goal.returns
returns c = to_z-of_z {w = w32} (record { sfits = c.integer_of.type_inv }) ∙ c.integer_of.ensures ∙ rw (c.from.ensures, c.from-2.ensures) (signed_is c.args.high c.args.low)
