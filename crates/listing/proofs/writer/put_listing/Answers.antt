use Rattle.listing.proofs.Lines.{listing_is}
use Rattle.table.proofs.Size.{size_facts}
use Rattle.text.proofs.Writing.{wrote_then, wrote_as}
use native.Mathlib.Omega.{arith}
use Rattle.listing.proofs.writer.put_listing.Goals as goal

pub bounds-words-0 : goal.bounds-words-0
bounds-words-0 c = omega (arith, size_facts _ _ c.requires)

pub put_head-rule_lines-requires : goal.put_head-rule_lines-requires
put_head-rule_lines-requires c = omega (arith, size_facts _ _ c.requires, c.from.ensures)

pub slice_bounds-put_records-end-2 : goal.slice_bounds-put_records-end-2
slice_bounds-put_records-end-2 c = omega (arith, size_facts _ _ c.requires, c.from.ensures)

pub slice_bounds-put_records-count-2 : goal.slice_bounds-put_records-count-2
slice_bounds-put_records-count-2 c = omega (arith, size_facts _ _ c.requires, c.from.ensures)

pub slice_bounds-put_records-start-2 : goal.slice_bounds-put_records-start-2
slice_bounds-put_records-start-2 c = omega (arith, size_facts _ _ c.requires, c.from.ensures)

pub returns : goal.returns
returns c = wrote_as (listing_is _ _ (size_facts _ _ c.requires) _ (omega (arith, c.from.ensures)))
    (wrote_then (omega arith) (wrote_then (omega arith) c.put_head-rule_lines.ensures c.put_records-node_lines.ensures) c.put_records.ensures)
