use Rattle.frames.specs.Frames.{in_second}
use Rattle.frames.proofs.second.Goals as goal

pub returns : goal.returns
unfolding in_second
returns c = cc
