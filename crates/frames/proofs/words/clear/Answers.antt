use native.Mathlib.Omega.{arith}
use mathlib.Core.Path.{◌≡◌, ◌∙◌}
use lib.ListN.{length, take, length-take}
use Rattle.frames.proofs.Laws.{cleared_part, cleared_there}
use Rattle.frames.proofs.words.clear.Goals as goal

pub returns : goal.returns
returns c =
    let w = c.args.words.now in
    let m = c.min-there.result in
    let e = c.min-there.ensures in
    let t = length-take m w in
    let l : length (take m w) ≡ m = omega (arith, e, t) in
    let f = rw l at c.fill.ensures.after (λ y h. h) in
    rw f (cleared_part w m (omega (arith, e))) ∙ cleared_there w c.args.n m e
