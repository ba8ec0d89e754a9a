-- `table::sizes::size_ok` meets its contract: each test holds, or none that comes after it is made. Assumes nothing.
use mathlib.Core.Bool.{◌&&◌}
use mathlib.Core.Path.{◌≡◌, refl, ◌∙◌}
use Prim.Native.Nat.{◌+◌, ◌*◌}
use lib.Dec.{leb, eqb}
use lib.ListN.{length}
use borrow.Author.Tests.{le-leb, lt-leb}
use Rattle.laws.specs.Range.{within}
use Rattle.table.proofs.Size.{size_tests}
use Rattle.table.proofs.sizes.size_ok.Goals as goal
use Rattle.table.proofs.sizes.size_ok.Goals.{then-words-ge3, else-words-ge3, then-in_range, else-in_range, then-in_range-2, else-in_range-2, then-literals-le4096, else-literals-le4096}

pub returns-then-words-rules : goal.returns-then-words-rules
returns-then-words-rules c =
    let w = c.args.words.now in
    let one : c.if-words-ge3.value ≡ (leb 3 (length w) && within 1 64 c.from-rules.result) =
    elim c.if-words-ge3.branch [ then-words-ge3 y ↦ rw (le-leb _ _ y.if-words-ge3.true, y.value-is, y.in_range.ensures) refl | else-words-ge3 n ↦ rw (n.value-is, lt-leb _ _ n.if-words-ge3.false) refl ] in
    let two : c.if-in_range.value ≡ (c.if-words-ge3.value && within 1 1024 c.from-nodes.result) =
    elim c.if-in_range.branch [ then-in_range y ↦ rw (y.if-in_range.true, y.value-is, y.in_range-then-in_range.ensures) refl | else-in_range n ↦ rw (n.value-is, n.if-in_range.false) refl ] in
    let three : c.if-in_range-2.value ≡ (c.if-in_range.value && leb c.from-literals.result 4096) =
    elim c.if-in_range-2.branch [ then-in_range-2 y ↦ rw (y.if-in_range-2.true, y.value-is) refl | else-in_range-2 n ↦ rw (n.value-is, n.if-in_range-2.false) refl ] in
    let four : c.if-literals-le4096.value ≡ (c.if-in_range-2.value && eqb (length w) (3 + 15 * c.from-rules.result + 10 * c.from-nodes.result)) =
    elim c.if-literals-le4096.branch [ then-literals-le4096 y ↦ rw (y.if-literals-le4096.true, y.value-is) refl | else-literals-le4096 n ↦ rw (n.value-is, n.if-literals-le4096.false) refl ] in
    let all =
    size_tests w c.args.literal_bytes c.from-rules.result c.from-nodes.result c.from-literals.result (c.from-rules.ensures ∙ c.rule_count.ensures) (c.from-nodes.ensures ∙ c.node_count.ensures)
    (c.from-literals.ensures ∙ c.literal_count.ensures) one two three four in
    rw c.if-words-rules.true at all

pub returns-else-words-rules : goal.returns-else-words-rules
returns-else-words-rules c =
    let w = c.args.words.now in
    let one : c.if-words-ge3.value ≡ (leb 3 (length w) && within 1 64 c.from-rules.result) =
    elim c.if-words-ge3.branch [ then-words-ge3 y ↦ rw (le-leb _ _ y.if-words-ge3.true, y.value-is, y.in_range.ensures) refl | else-words-ge3 n ↦ rw (n.value-is, lt-leb _ _ n.if-words-ge3.false) refl ] in
    let two : c.if-in_range.value ≡ (c.if-words-ge3.value && within 1 1024 c.from-nodes.result) =
    elim c.if-in_range.branch [ then-in_range y ↦ rw (y.if-in_range.true, y.value-is, y.in_range-then-in_range.ensures) refl | else-in_range n ↦ rw (n.value-is, n.if-in_range.false) refl ] in
    let three : c.if-in_range-2.value ≡ (c.if-in_range.value && leb c.from-literals.result 4096) =
    elim c.if-in_range-2.branch [ then-in_range-2 y ↦ rw (y.if-in_range-2.true, y.value-is) refl | else-in_range-2 n ↦ rw (n.value-is, n.if-in_range-2.false) refl ] in
    let four : c.if-literals-le4096.value ≡ (c.if-in_range-2.value && eqb (length w) (3 + 15 * c.from-rules.result + 10 * c.from-nodes.result)) =
    elim c.if-literals-le4096.branch [ then-literals-le4096 y ↦ rw (y.if-literals-le4096.true, y.value-is) refl | else-literals-le4096 n ↦ rw (n.value-is, n.if-literals-le4096.false) refl ] in
    let all =
    size_tests w c.args.literal_bytes c.from-rules.result c.from-nodes.result c.from-literals.result (c.from-rules.ensures ∙ c.rule_count.ensures) (c.from-nodes.ensures ∙ c.node_count.ensures)
    (c.from-literals.ensures ∙ c.literal_count.ensures) one two three four in
    rw c.if-words-rules.false (rw c.if-words-rules.false at all)
