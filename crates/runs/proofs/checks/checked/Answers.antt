use Rattle.std.proofs.lemmas.Result.{err_from_is_err_and}
use Rattle.grammar.specs.Answer.{check}
use mathlib.Core.Path.{refl}
use Rattle.runs.proofs.checks.checked.Goals as goal

pub returns-in_err-table_checked : goal.returns-in_err-table_checked
unfolding check
returns-in_err-table_checked c =
    let p = err_from_is_err_and c.from_residual.result c.from_residual.ensures.1 in
    rw (← c.table_checked.ensures, c.in_err-table_checked.was, p.1, p.2) refl

pub returns : goal.returns
unfolding check
returns c = rw (← c.table_checked.ensures, c.in_ok-table_checked.was) c.limits.ensures
