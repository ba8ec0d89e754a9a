use Rattle.std.proofs.Common.{◌∙◌, sym, to_z-of_z, w32}
use Rattle.values.proofs.Complement.{integer_bits}
use Rattle.values.proofs.words.integer_of.Goals as goal

pub returns : goal.returns
returns c = to_z-of_z {w = w32} (record { sfits = c.cast_signed.type_inv }) ∙ c.cast_signed.ensures ∙ sym (integer_bits c.args.word)
