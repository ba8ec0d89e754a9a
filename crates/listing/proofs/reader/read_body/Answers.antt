use Rattle.std.proofs.lemmas.Result.{err_from_is_err_and}
use Rattle.listing.proofs.Steps.{body_wrong, ended_wrong, ended_right}
use Rattle.listing.proofs.Whole.{body_after}
use Rattle.text.proofs.Taking.{took_as, took_to}
use native.Mathlib.Omega.{arith}
use mathlib.Core.Path.{refl}
use Rattle.listing.proofs.reader.read_body.Goals as goal

pub returns-in_err-p : goal.returns-in_err-p
returns-in_err-p c =
    let p = err_from_is_err_and c.from_residual.result c.from_residual.ensures.1 in
    rw (p.1, p.2) (took_as (body_wrong _ _ _ _ _ _ c.read_lines.ensures.found_is _ c.in_err-p.was) (took_to c.read_lines.ensures refl))

pub returns-in_err-q : goal.returns-in_err-q
returns-in_err-q c =
    let p = err_from_is_err_and c.from_residual-in_err-q.result c.from_residual-in_err-q.ensures.1 in
    rw (p.1, p.2) (body_after _ _ _ _ _ _ _ _ (omega arith) (omega arith) c.in_ok-p.ensures refl c.in_err-q.ensures refl)

pub returns-then-q-text : goal.returns-then-q-text
returns-then-q-text c = body_after _ _ _ _ _ _ _ _ (omega arith) (omega arith) c.in_ok-p.ensures refl c.in_ok-q.ensures (ended_wrong c.args.text.now _ _ refl c.if-q-text.true)

pub returns : goal.returns
returns c = body_after _ _ _ _ _ _ _ _ (omega arith) (omega arith) c.in_ok-p.ensures refl c.in_ok-q.ensures (ended_right c.args.text.now _ _ refl c.if-q-text.false)
