use Rattle.exports.proofs.boundary.put_four.Goals as goal

pub returns : goal.returns
returns g c = cc
