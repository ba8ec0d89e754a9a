use native.Mathlib.Omega.{arith}
use mathlib.Core.Path.{refl, sym, ap, ◌∙◌}
use Rattle.grammar.specs.Words.{returned_count}
use Rattle.typing.specs.Places.{received_all}
use Rattle.typing.specs.Slots.{told, types_in}
use Rattle.typing.proofs.Leaves.{returned_few, returned_declared}
use Rattle.typing.proofs.Types.{type_is}
use Rattle.typing.proofs.Fours.{receiving, returned_type, broken_here, received_here, all_received}
use Rattle.typing.proofs.parsing.all_received.Goals as goal

pub loop-i-init : goal.loop-i-init
unfolding received_all
loop-i-init c = refl

pub overflow_add-i : goal.overflow_add-i
overflow_add-i c =
    let few = returned_few c.requires in
    let count = c.returned_count-i-end.ensures in
    let there = c.loop-i-test.true in record { fits = omega arith }

pub returns-in_err-left : goal.returns-in_err-left
unfolding told
returns-in_err-left c =
    rw c.from_residual.ensures
    (sym (broken_here (receiving c.args.words.now c.args.k) (returned_type c.args.words.now c.args.r) (returned_count c.args.words.now c.args.r) (returned_few c.requires) (types_in c.loop-i.left) c.loop-i.i
    (omega (arith, c.loop-i-test.true, c.returned_count-i-end.ensures)) (rw (← c.node_word-receiving.ensures, ← c.returned_type.ensures, ← type_is c.try_from.ensures c.unwrap-t.ensures) (sym c.assigned.ensures ∙ ap told c.in_err-left.was)))
    ∙ c.loop-i.invariant)

pub loop-i-preserved : goal.loop-i-preserved
unfolding told
loop-i-preserved c =
    received_here (receiving c.args.words.now c.args.k) (returned_type c.args.words.now c.args.r) (returned_count c.args.words.now c.args.r) (returned_few c.requires) (types_in c.loop-i.left) c.loop-i.i
    (omega (arith, c.loop-i-test.true, c.returned_count-i-end.ensures)) (rw (← c.node_word-receiving.ensures, ← c.returned_type.ensures, ← type_is c.try_from.ensures c.unwrap-t.ensures) (sym c.assigned.ensures ∙ ap told c.in_ok-left.was))
    ∙ c.loop-i.invariant

pub returns : goal.returns
unfolding told
returns c =
    all_received (receiving c.args.words.now c.args.k) (returned_type c.args.words.now c.args.r) (returned_count c.args.words.now c.args.r) (returned_few c.requires) (types_in c.loop-i.left)
    (omega (arith, c.loop-i-test.false, c.returned_count-i-end.ensures))
    ∙ c.loop-i.invariant

pub unwrap-t-requires : goal.unwrap-t-requires
unwrap-t-requires c = returned_declared c.requires c.try_from.result c.try_from.ensures c.loop-i.i c.returned_type.ensures (omega (arith, c.loop-i-test.true, c.returned_count-i-end.ensures))
