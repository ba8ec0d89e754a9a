use Rattle.frames.specs.Frames.{from_in}
use Rattle.frames.proofs.from_in.Goals as goal

pub returns : goal.returns
unfolding from_in
returns c = cc
