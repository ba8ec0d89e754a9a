use Rattle.std.proofs.Common.{arith}
use Rattle.std.proofs.lemmas.Result.{err_from_is_err_and}
use Rattle.calls.proofs.Gathering.{none_yet, one_more, all_given, end_given}
use Rattle.frames.specs.Frames.{slots_in}
use Rattle.calls.proofs.evaluate_four.Goals as goal

pub loop-i-init : goal.loop-i-init
loop-i-init c = none_yet _ _ _ _ _

pub returns-in_err-values : goal.returns-in_err-values
unfolding slots_in
returns-in_err-values c =
    let p = err_from_is_err_and c.from_residual.result c.from_residual.ensures.1 in
    rw (p.1, p.2) (end_given _ _ _ _ _ _ _ c.loop-i.invariant c.in_err-values.field-0.0 (omega arith) (omega arith) (omega arith) c.evaluate.ensures c.in_err-values.was)

pub loop-i-preserved : goal.loop-i-preserved
unfolding slots_in
loop-i-preserved c = one_more _ _ _ _ _ _ _ c.loop-i.invariant _ (omega arith) c.evaluate.ensures c.in_ok-values.was

pub returns : goal.returns
returns c = all_given _ _ _ _ _ _ _ c.loop-i.invariant (omega arith) (λ h. omega arith) (omega arith)
