use Rattle.frames.specs.Frames.{pushed}
use Rattle.frames.proofs.push.Goals as goal

pub returns : goal.returns
unfolding pushed
returns c = cc
