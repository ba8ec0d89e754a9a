use Rattle.listing.specs.Answers.{reading_number, reading_place, reading_words, reading_literals}
use Rattle.exports.specs.Boundary.{with_reading}
use Rattle.exports.proofs.boundary.put_reading.Goals as goal

pub returns-in-Ok : goal.returns-in-Ok
unfolding with_reading reading_number reading_place reading_words reading_literals
returns-in-Ok c = rw c.in-Ok.is (cc)

pub returns-in-Line : goal.returns-in-Line
unfolding with_reading reading_number reading_place reading_words reading_literals
returns-in-Line c = rw (c.in-Err.is, c.in-Line.is) (cc)

pub returns-in-Room : goal.returns-in-Room
unfolding with_reading reading_number reading_place reading_words reading_literals
returns-in-Room c = rw (c.in-Err.is, c.in-Room.is) (cc)
