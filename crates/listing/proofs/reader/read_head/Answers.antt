use Rattle.std.proofs.lemmas.Result.{err_from_is_err_and}
use Rattle.listing.proofs.Steps.{not_found, head_first, head_second, head_third, third_wrong, third_is}
use Rattle.text.proofs.Taking.{took_as, took_none, took_to}
use Prim.Native.Nat.{◌+◌}
use mathlib.Core.Path.{sym, ◌∙◌}
use Rattle.listing.proofs.reader.read_head.Goals as goal

pub returns-in_err-rules : goal.returns-in_err-rules
returns-in_err-rules c =
    let p = err_from_is_err_and c.from_residual.result c.from_residual.ensures.1 in
    let m = not_found c.read_count.result c.args.first _ c.in_err-rules.ensures.value c.in_err-rules.ensures.ok_part in
    rw (p.1, p.2, m) (took_as (head_first _ _ _ _ c.read_count.ensures c.in_err-rules.ensures.ok_part) (took_none _ _ _))

pub returns-in_err-nodes : goal.returns-in_err-nodes
returns-in_err-nodes c =
    let p = err_from_is_err_and c.from_residual-in_err-nodes.result c.from_residual-in_err-nodes.ensures.1 in
    let m = not_found c.read_count-2.result (c.args.first + 1) _ c.in_err-nodes.ensures.value c.in_err-nodes.ensures.ok_part in
    rw (p.1, p.2, m) (took_as (head_second _ _ _ _ c.read_count.ensures _ _ c.in_ok-rules.ensures.ok_part _ c.read_count-2.ensures c.in_err-nodes.ensures.ok_part) (took_none _ _ _))

pub returns-in_err-bytes : goal.returns-in_err-bytes
returns-in_err-bytes c =
    let p = err_from_is_err_and c.from_residual-in_err-bytes.result c.from_residual-in_err-bytes.ensures.1 in
    let m = not_found c.read_literals.result (c.args.first + 2) _ c.in_err-bytes.ensures.value c.in_err-bytes.ensures.ok_part in
    rw (p.1, p.2, m) (took_as (head_third _ _ _ _ c.read_count.ensures _ _ c.in_ok-rules.ensures.ok_part _ c.read_count-2.ensures _ _ c.in_ok-nodes.ensures.ok_part) (took_to c.read_literals.ensures (third_wrong _ _ _ _ (sym c.read_literals.ensures.found_is ∙ c.in_err-bytes.ensures.ok_part))))

pub returns : goal.returns
returns c = took_as (head_third _ _ _ _ c.read_count.ensures _ _ c.in_ok-rules.ensures.ok_part _ c.read_count-2.ensures _ _ c.in_ok-nodes.ensures.ok_part) (took_to c.read_literals.ensures (third_is _ _ _ _ _ _ (sym c.read_literals.ensures.found_is ∙ c.in_ok-bytes.ensures.ok_part)))
