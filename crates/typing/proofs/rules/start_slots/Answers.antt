use native.Mathlib.Omega.{arith}
use mathlib.Core.Path.{◌∙◌}
use Rattle.typing.proofs.Leaves.{inherited_few, inherited_declared}
use Rattle.typing.proofs.Types.{type_is}
use Rattle.typing.proofs.Fours.{inherited, start_next}
use Rattle.typing.proofs.rules.start_slots.Goals as goal

pub loop-i-preserved : goal.loop-i-preserved
loop-i-preserved c =
    let few = inherited_few c.requires in
    let there = c.loop-i-test.true in
    let count = c.inherited_count-i-end.ensures in
    c.with-slots.ensures ∙ rw (c.loop-i.invariant, type_is c.try_from.ensures c.unwrap-t.ensures, c.inherited_type.ensures) (start_next (inherited c.args.words.now c.args.r) c.loop-i.i (omega arith))

pub unwrap-t-requires : goal.unwrap-t-requires
unwrap-t-requires c = inherited_declared c.requires c.try_from.result c.try_from.ensures c.loop-i.i c.inherited_type.ensures (omega (arith, c.loop-i-test.true, c.inherited_count-i-end.ensures))
