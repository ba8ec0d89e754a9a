use mathlib.Core.Path.{refl}
use Rattle.std.proofs.lemmas.Result.{err_from_is_err_and}
use Rattle.grammar.specs.Answer.{type_check}
use Rattle.typing.proofs.type_check.Goals as goal

pub returns-in_err-check : goal.returns-in_err-check
unfolding type_check
returns-in_err-check c =
    let p = err_from_is_err_and c.from_residual.result c.from_residual.ensures.1 in
    rw (← c.check.ensures, c.in_err-check.was, p.1, p.2) refl

pub returns : goal.returns
unfolding type_check
returns c = rw (← c.check.ensures, c.in_ok-check.was) c.typed_rules.ensures
