use Rattle.listing.proofs.Steps.{pairs_wrong, pairs_outside, pairs_inside}
use Rattle.listing.proofs.Steps.{literals_at_wrong, literals_at_lem}
use Rattle.text.proofs.Taking.{took_as, took_none}
use mathlib.Core.Path.{sym, ◌∙◌}
use Rattle.listing.proofs.reader.read_literals.Goals as goal

pub returns-in_err-p : goal.returns-in_err-p
returns-in_err-p c = rw c.from_residual.ensures (took_as (literals_at_wrong _ _ _ c.after_key.ensures c.in_err-p.was) (took_none _ _ _))

pub returns-in_err-n : goal.returns-in_err-n
returns-in_err-n c = rw c.from_residual-in_err-n.ensures (took_as (literals_at_lem _ _ _ _ c.after_key.ensures c.in_ok-p.was) (pairs_wrong 0 4096 c.read_hex.ensures c.in_err-n.was))

pub returns-then-not-in_range : goal.returns-then-not-in_range
returns-then-not-in_range c = took_as (literals_at_lem _ _ _ _ c.after_key.ensures c.in_ok-p.was) (pairs_outside 0 4096 c.read_hex.ensures _ _ c.in_ok-n.was (sym c.in_range.ensures ∙ c.if-not-in_range.true))

pub returns : goal.returns
returns c = took_as (literals_at_lem _ _ _ _ c.after_key.ensures c.in_ok-p.was) (pairs_inside 0 4096 c.read_hex.ensures _ _ c.in_ok-n.was (sym c.in_range.ensures ∙ c.if-not-in_range.false))
