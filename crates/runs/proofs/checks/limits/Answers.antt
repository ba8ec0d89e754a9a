use Rattle.runs.proofs.Answering.{limits_long, limits_work, limits_none}
use native.Mathlib.Omega.{arith}
use Rattle.runs.proofs.checks.limits.Goals as goal

pub returns-then-message-gt65535 : goal.returns-then-message-gt65535
returns-then-message-gt65535 c = limits_long c.args.message c.args.work (omega arith)

pub returns-then-work-lt9760 : goal.returns-then-work-lt9760
returns-then-work-lt9760 c = limits_work c.args.message c.args.work (omega arith) (omega arith)

pub returns : goal.returns
returns c = limits_none c.args.message c.args.work (omega arith) (omega arith)
