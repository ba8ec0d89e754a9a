use native.Mathlib.Omega.{arith}
use borrow.Author.Tests.{le-leb, lt-leb, lt-ltb, le-ltb}
use Rattle.machine.specs.Strides.{two_left}
use Rattle.machine.proofs.strides.two_left.Goals as goal

pub returns-then-room-lt9760 : goal.returns-then-room-lt9760
unfolding two_left
returns-then-room-lt9760 c = rw (lt-leb 9760 c.args.room (omega arith))

pub returns-then-run-ge255 : goal.returns-then-run-ge255
unfolding two_left
returns-then-run-ge255 c = rw (le-leb 9760 c.args.room (omega arith), le-ltb c.args.run.frames 255 (omega arith))

pub returns-then-budget-run : goal.returns-then-budget-run
unfolding two_left
returns-then-budget-run c = rw (le-leb 9760 c.args.room (omega arith), lt-ltb c.args.run.frames 255 (omega arith), le-ltb c.args.run.visits c.args.budget (omega arith))

pub returns : goal.returns
unfolding two_left
returns c = rw (le-leb 9760 c.args.room (omega arith), lt-ltb c.args.run.frames 255 (omega arith), lt-ltb c.args.run.visits c.args.budget (omega arith))
