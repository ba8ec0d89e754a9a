use Rattle.frames.specs.Frames.{phase_in}
use Rattle.frames.proofs.phase_in.Goals as goal

pub returns : goal.returns
unfolding phase_in
returns c = cc
