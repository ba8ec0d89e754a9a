use Rattle.frames.specs.Frames.{unset}
use Rattle.frames.proofs.clear_slots.Goals as goal

pub returns : goal.returns
unfolding unset
returns c = cc
