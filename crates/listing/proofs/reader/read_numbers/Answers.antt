use Rattle.listing.proofs.Steps.{numbers_at_done, numbers_at_wrong, numbers_at_more}
use Rattle.text.proofs.Taking.{still_step, still_end}
use Rattle.text.proofs.Numbers.{number_within_lem}
use Rattle.listing.specs.Listing.{ending}
use Rattle.text.specs.Stored.{Wrote}
use mathlib.Core.List.{[], ◌∷◌}
use lib.ListN.{drop}
use Prim.Native.Nat.{◌+◌, ◌-◌}
use native.Mathlib.Omega.{arith}
use mathlib.Core.Path.{sym, ap, ◌∙◌}
use Rattle.listing.proofs.reader.read_numbers.Goals as goal

pub returns-in_err-n : goal.returns-in_err-n
returns-in_err-n c = rw c.from_residual.ensures (still_end c.loop-i.invariant (numbers_at_wrong _ _ (c.args.count - (c.loop-i.i + 1)) _ _ _ (omega arith) (c.ending_of.ensures ∙ ap ending (omega arith)) c.read_number.ensures c.in_err-n.was))

pub overflow_cast-n : goal.overflow_cast-n
overflow_cast-n c = omega (arith, number_within_lem c.ending_of.result 65535 c.loop-i.p (drop c.loop-i.p c.args.text.now) _ _ (omega arith) (sym c.read_number.ensures ∙ c.in_ok-n.was))

pub loop-i-preserved : goal.loop-i-preserved
loop-i-preserved c =
    let w : Wrote c.loop-i.words (c.args.from + c.loop-i.i) (c.in_ok-n.n ∷ []) (c.args.from + (c.loop-i.i + 1)) c.put.new.slice =
    record { next_is = omega (arith, c.put.ensures.next_is); stored = c.put.ensures.stored } in
    still_step (omega arith) c.loop-i.invariant (numbers_at_more _ _ (c.args.count - (c.loop-i.i + 1)) _ _ _ (omega arith) (c.ending_of.ensures ∙ ap ending (omega arith)) c.read_number.ensures _ _ c.in_ok-n.was) w

pub returns : goal.returns
returns c = still_end c.loop-i.invariant (numbers_at_done _ _ _ (omega arith))
