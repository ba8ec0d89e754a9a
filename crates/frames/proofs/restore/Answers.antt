use Rattle.frames.specs.Frames.{restored}
use Rattle.frames.proofs.restore.Goals as goal

pub returns : goal.returns
unfolding restored
returns c = cc
