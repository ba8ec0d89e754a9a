use Rattle.exports.specs.Boundary.{with_reading}
use Rattle.listing.specs.Reading.{Filled}
use mathlib.Core.Path.{ap, ◌∙◌}
use Rattle.exports.proofs.styrmflo_read.Goals as goal

pub returns : goal.returns
returns c = record { words = ap (λ (x : Filled). x.words) c.read-reading.ensures; literals = ap (λ (x : Filled). x.literals) c.read-reading.ensures; tells = c.put_reading.ensures ∙ ap (λ (x : Filled). with_reading c.args.answer.now x.answer) c.read-reading.ensures }
