use Rattle.frames.specs.Frames.{node_in}
use Rattle.frames.proofs.node_in.Goals as goal

pub returns : goal.returns
unfolding node_in
returns c = cc
