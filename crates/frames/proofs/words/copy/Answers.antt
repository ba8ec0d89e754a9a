use native.Mathlib.Omega.{arith}
use mathlib.Core.Path.{◌∙◌}
use Rattle.frames.proofs.Laws.{copied_apart}
use Rattle.frames.proofs.words.copy.Goals as goal

pub returns : goal.returns
returns c =
    let a = c.args in
    let t = c.taken-slots in
    c.put.ensures ∙ copied_apart a.words.now a.from a.to t.result t.ensures (omega arith) 32 (omega arith)
