use Rattle.frames.specs.Frames.{saved}
use Rattle.frames.proofs.save.Goals as goal

pub returns : goal.returns
unfolding saved
returns c = cc
