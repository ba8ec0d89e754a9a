use Rattle.visits.proofs.Arms.{admitted_none, admitted_deep, admitted_fine}
use native.Mathlib.Omega.{arith}
use Rattle.visits.proofs.enter.Goals as goal

pub returns-then-budget-run : goal.returns-then-budget-run
returns-then-budget-run c = cc (admitted_none c.args.inputs.words.now c.args.inputs.literals.now c.args.inputs.message.now c.args.budget c.args.k c.args.run c.args.work.now (omega arith))

pub returns-then-run-ge256 : goal.returns-then-run-ge256
returns-then-run-ge256 c = cc (admitted_deep c.args.inputs.words.now c.args.inputs.literals.now c.args.inputs.message.now c.args.budget c.args.k c.args.run c.args.work.now (omega arith) (omega arith))

pub begin-requires : goal.begin-requires
begin-requires c = rw c.count.ensures (omega arith)

pub returns : goal.returns
returns c = let a = c.args in cc (admitted_fine a.inputs.words.now a.inputs.literals.now a.inputs.message.now a.budget a.k a.run a.work.now (omega arith) (omega arith))
