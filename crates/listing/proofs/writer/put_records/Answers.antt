use Rattle.listing.proofs.Lines.{records_one, records_none}
use Rattle.text.proofs.Writing.{left_step, left_done}
use Rattle.listing.specs.Listing.{record_lines}
use lib.ListN.{length}
use Prim.Native.Nat.{◌/◌}
use mathlib.Core.List.{List}
use Prim.Native.Nat.{ℕ}
use native.Mathlib.Omega.{arith}
use mathlib.Core.Path.{ap, ◌∙◌}
use Rattle.listing.proofs.writer.put_records.Goals as goal

pub loop-record-preserved : goal.loop-record-preserved
loop-record-preserved c =
    let h = c.in-Some.ensures.steps in (
      h.0 ∙ c.loop-record.invariant.0,
      left_step (omega arith) c.loop-record.invariant.1
          (ap (λ (z : List ℕ). record_lines c.args.records.key.now c.args.records.width (length z / c.args.records.width) z) h.1.0 ∙ records_one _ _ _ _ c.requires (h.1.1 ∙ c.loop-record.invariant.0))
          c.put_line-next.ensures,
    )

pub returns : goal.returns
returns c =
    let h = c.in-None.ensures.steps in
    left_done c.loop-record.invariant.1 (records_none _ _ _ (omega (arith, h.1.0, c.loop-record.invariant.0)))
