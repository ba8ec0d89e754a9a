use Rattle.listing.proofs.Steps.{count_at_wrong, count_at_lem, number_outside, number_inside}
use Rattle.listing.specs.Reading.{number_within}
use mathlib.Core.Path.{sym, ap, ◌∙◌}
use Rattle.listing.proofs.reader.read_count.Goals as goal

pub returns-in_err-p : goal.returns-in_err-p
returns-in_err-p c = rw c.from_residual.ensures (count_at_wrong _ _ _ _ _ _ c.after_key.ensures c.in_err-p.was)

pub returns-in_err-n : goal.returns-in_err-n
returns-in_err-n c = rw c.from_residual-in_err-n.ensures (ap (number_within c.args.low c.args.high) (sym c.in_err-n.was) ∙ count_at_lem _ _ _ _ _ _ c.after_key.ensures _ _ c.in_ok-p.was c.read_number.ensures)

pub returns-then-not-in_range : goal.returns-then-not-in_range
returns-then-not-in_range c = number_outside c.args.low c.args.high c.in_ok-n.n c.in_ok-n.q (sym c.in_range.ensures ∙ c.if-not-in_range.true) ∙ ap (number_within c.args.low c.args.high) (sym c.in_ok-n.was) ∙ count_at_lem _ _ _ _ _ _ c.after_key.ensures _ _ c.in_ok-p.was c.read_number.ensures

pub returns : goal.returns
returns c = number_inside c.args.low c.args.high c.in_ok-n.n c.in_ok-n.q (sym c.in_range.ensures ∙ c.if-not-in_range.false) ∙ ap (number_within c.args.low c.args.high) (sym c.in_ok-n.was) ∙ count_at_lem _ _ _ _ _ _ c.after_key.ensures _ _ c.in_ok-p.was c.read_number.ensures
