use Rattle.text.proofs.Pairs.{pairs_past, pairs_end, pairs_odd, pairs_wrong, pairs_more}
use Rattle.text.proofs.Taking.{took_as, took_none, still_step, still_end}
use Rattle.std.specs.Slice.Iter.{chunks_rest}
use native.Mathlib.Omega.{arith}
use lib.ListN.{length, length-append, drop_of_length-le}
use Prim.Native.Nat.{◌≤◌}
use mathlib.Core.Path.{sym, ap, ◌∙◌}
use Rattle.text.proofs.read_hex.Goals as goal

pub returns-in_err-get : goal.returns-in_err-get
returns-in_err-get c =
    let past : length c.args.text.now ≤ c.args.at = omega (arith, c.in_err-get.ensures.lookup.0) in
    rw (c.from_residual.ensures, drop_of_length-le c.args.text.now past) (took_as (sym (pairs_past 0 c.args.at _ (omega arith))) (took_none _ _ _))

pub returns-then-pair-eq10 : goal.returns-then-pair-eq10
returns-then-pair-eq10 c =
    let h = c.in-Some.ensures.steps in
    still_end c.loop-pair.invariant.3 (pairs_end _ _ _ c.in-Some.pair.now (chunks_rest c.next.new.self) h.1.0 (omega (arith, h.1.1, h.1.2, c.loop-pair.invariant.0)) c.if-pair-eq10.true)

pub returns-in_default : goal.returns-in_default
returns-in_default c =
    let h = c.in-Some.ensures.steps in
    let i = c.loop-pair.invariant in
    let k = simp length-append at (ap length h.1.0) in
    still_end i.3 (pairs_odd _ _ _ c.in-Some.pair.now (chunks_rest c.next.new.self) h.1.0 (omega (arith, h.1.1, h.1.2, i.0, c.in_default.len_below)) (omega (arith, k, h.1.1, h.1.2, i.0, c.in_default.len_below)) c.if-pair-eq10.false)

pub returns-in_err-pair_value : goal.returns-in_err-pair_value
returns-in_err-pair_value c =
    let h = c.in-Some.ensures.steps in
    rw c.from_residual-in_err-pair_value.ensures
    (still_end c.loop-pair.invariant.3 (pairs_wrong _ _ _ c.in-Some.pair.now (chunks_rest c.next.new.self) h.1.0 (omega (arith, c.in-len2.len_at_least, c.in-len2.len_below)) c.if-pair-eq10.false (sym c.pair_value.ensures ∙ c.in_err-pair_value.was)))

pub loop-pair-preserved : goal.loop-pair-preserved
loop-pair-preserved c =
    let h = c.in-Some.ensures.steps in
    let i = c.loop-pair.invariant in
    let k = simp length-append at (ap length h.1.0) in (
      h.0 ∙ i.0,
      omega arith,
      omega (arith, c.put-n.ensures.next_is),
      still_step (omega arith) i.3
          (pairs_more _ _ _ c.in-Some.pair.now (chunks_rest c.next.new.self) h.1.0 (omega (arith, c.in-len2.len_at_least, c.in-len2.len_below)) c.if-pair-eq10.false _ c.put-n.result (sym c.pair_value.ensures ∙ c.in_ok-pair_value.was) (omega (arith, c.put-n.ensures.next_is)))
          c.put-n.ensures,
    )

pub returns : goal.returns
returns c = still_end c.loop-pair.invariant.3 (pairs_past _ _ _ c.in-None.ensures.steps.1.0)
