use Rattle.std.proofs.lemmas.Result.{err_from_is_err_and}
use Rattle.listing.proofs.Steps.{not_found, lines_at_done, lines_at_wrong, lines_at_more}
use Rattle.listing.proofs.Found.{line_found}
use Rattle.listing.proofs.Lines.{record_place, record_next}
use Rattle.text.proofs.Taking.{still_step, still_end, still_last, took_wrote}
use Rattle.text.specs.Stored.{largest_place}
use Prim.Native.Nat.{◌+◌, ◌-◌}
use native.Mathlib.Omega.{arith}
use mathlib.Core.Path.{◌≡◌, sym, ◌∙◌}
use Rattle.listing.proofs.reader.read_lines.Goals as goal

pub returns : goal.returns
returns c = still_end c.loop-i.invariant (lines_at_done _ _ _ _ _ _ (omega arith))

pub returns-in_err-p : goal.returns-in_err-p
returns-in_err-p c =
    let p = err_from_is_err_and c.from_residual.result c.from_residual.ensures.1 in
    let m = not_found c.read_line.result (c.args.number + c.loop-i.i) _ c.in_err-p.ensures.value c.in_err-p.ensures.ok_part in
    rw (p.1, p.2, m) (still_last c.loop-i.invariant c.read_line.ensures (lines_at_wrong _ _ _ _ (c.args.count - (c.loop-i.i + 1)) _ _ _ (omega arith) c.read_line.ensures.found_is c.in_err-p.ensures.ok_part))

pub loop-i-preserved : goal.loop-i-preserved
loop-i-preserved c =
    let n : c.args.number + (c.loop-i.i + 1) ≡ c.args.number + c.loop-i.i + 1 = omega arith in
    let l = line_found c.args.text.now c.args.records.key.now c.args.records.width c.loop-i.p _ (sym c.read_line.ensures.found_is ∙ c.in_ok-p.ensures.ok_part) in
    rw n (still_step (omega arith) c.loop-i.invariant (lines_at_more _ _ _ _ (c.args.count - (c.loop-i.i + 1)) _ _ _ (omega arith) c.read_line.ensures.found_is _ c.in_ok-p.ensures.ok_part)
    (took_wrote c.read_line.ensures (omega (arith, l.count, record_place c.loop-i.i c.args.count c.args.records.width c.args.from largest_place c.loop-i-test.true c.requires.0, record_next c.loop-i.i c.args.records.width c.args.from))))
