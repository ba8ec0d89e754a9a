use mathlib.Core.Path.{refl}
use Rattle.expressions.proofs.Halves.{settled_begins, settled_found, settled_both}
use Rattle.expressions.specs.Walks.{asked}
use Rattle.expressions.proofs.walks.settle.Goals as goal

pub returns-in-Begins : goal.returns-in-Begins
returns-in-Begins c = λ words slots levels pile w on. settled_begins (asked words c.args.literals.now c.args.message.now slots levels) pile c.args.s w on c.in-Begins.is refl

pub returns-in-Found : goal.returns-in-Found
returns-in-Found c = λ words slots levels pile w on. settled_found (asked words c.args.literals.now c.args.message.now slots levels) pile c.args.s w on c.in-Found.is c.result.ensures

pub returns-in-Left : goal.returns-in-Left
returns-in-Left c = λ words slots levels pile w on. absurd (c.requires c.in-Left.is)

pub returns-in-Both : goal.returns-in-Both
returns-in-Both c = λ words slots levels pile w on. settled_both (asked words c.args.literals.now c.args.message.now slots levels) pile c.args.s w on _ c.in-Both.is c.result-in-Both.ensures (rw c.operator.ensures at c.operate_given-g.ensures)
