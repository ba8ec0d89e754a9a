use Rattle.exports.specs.Boundary.{with_writing}
use Rattle.listing.specs.Writing.{Written}
use mathlib.Core.Path.{ap, ◌∙◌}
use Rattle.exports.proofs.styrmflo_write.Goals as goal

pub returns : goal.returns
returns c = record { text = ap (λ (x : Written). x.text) c.write-writing.ensures; tells = c.put_writing.ensures ∙ ap (λ (x : Written). with_writing c.args.answer.now x.answer) c.write-writing.ensures }
