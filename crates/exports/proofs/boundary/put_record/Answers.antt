use Rattle.exports.specs.Boundary.{with_record}
use Rattle.exports.proofs.boundary.put_record.Goals as goal

pub returns : goal.returns
unfolding with_record
returns c = cc
