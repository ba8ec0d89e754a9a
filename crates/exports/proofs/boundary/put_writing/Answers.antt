use Rattle.listing.specs.Answers.{writing_number, writing_place, writing_length}
use Rattle.exports.specs.Boundary.{with_writing}
use Rattle.exports.proofs.boundary.put_writing.Goals as goal

pub returns-in-Ok : goal.returns-in-Ok
unfolding with_writing writing_number writing_place writing_length
returns-in-Ok c = rw c.in-Ok.is (cc)

pub returns-in-Size : goal.returns-in-Size
unfolding with_writing writing_number writing_place writing_length
returns-in-Size c = rw (c.in-Err.is, c.in-Size.is) (cc)

pub returns-in-Out : goal.returns-in-Out
unfolding with_writing writing_number writing_place writing_length
returns-in-Out c = rw (c.in-Err.is, c.in-Out.is) (cc)
