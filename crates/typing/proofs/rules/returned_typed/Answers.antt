use native.Mathlib.Omega.{arith}
use mathlib.Core.Path.{refl, sym, ◌∙◌}
use Rattle.grammar.specs.Words.{returned_count}
use Rattle.grammar.specs.Tree.{expr_at}
use Rattle.typing.specs.Places.{returned_typed}
use Rattle.typing.specs.Slots.{types_in}
use Rattle.typing.proofs.Leaves.{returned_few, returned_declared}
use Rattle.typing.proofs.Walks.{longer}
use Rattle.typing.proofs.Whole.{returned_there}
use Rattle.typing.proofs.Types.{type_is}
use Rattle.typing.proofs.Fours.{returned, returned_type, untyped_here, typed_here, all_typed}
use Rattle.typing.proofs.rules.returned_typed.Goals as goal

pub loop-i-init : goal.loop-i-init
unfolding returned_typed
loop-i-init c = (refl, refl)

pub has_type-requires : goal.has_type-requires
has_type-requires c = longer c.loop-i.invariant.0 (returned_there c.requires.0 c.requires.1 (omega (arith, c.loop-i-test.true, c.returned_count-i-end.ensures)) c.returned_node-node.ensures)

pub returns-then-not-has_type : goal.returns-then-not-has_type
returns-then-not-has_type c =
    sym (untyped_here (expr_at c.args.words.now) (types_in c.args.slots) (returned c.args.words.now c.args.r) (returned_type c.args.words.now c.args.r) (returned_count c.args.words.now c.args.r)
    (returned_few c.requires.0) c.loop-i.i
    (omega (arith, c.loop-i-test.true, c.returned_count-i-end.ensures)) (rw (← c.returned_node-node.ensures, ← c.returned_type.ensures, ← type_is c.try_from.ensures c.unwrap-t.ensures) (sym c.has_type.ensures ∙ c.if-not-has_type.true)))
    ∙ c.loop-i.invariant.1

pub loop-i-preserved : goal.loop-i-preserved
loop-i-preserved c = (
  c.has_type.auto.pile ∙ c.loop-i.invariant.0,
  typed_here (expr_at c.args.words.now) (types_in c.args.slots) (returned c.args.words.now c.args.r) (returned_type c.args.words.now c.args.r) (returned_count c.args.words.now c.args.r)
      (returned_few c.requires.0) c.loop-i.i
      (omega (arith, c.loop-i-test.true, c.returned_count-i-end.ensures)) (rw (← c.returned_node-node.ensures, ← c.returned_type.ensures, ← type_is c.try_from.ensures c.unwrap-t.ensures) (sym c.has_type.ensures ∙ c.if-not-has_type.false))
      ∙ c.loop-i.invariant.1,
)

pub returns : goal.returns
returns c =
    all_typed (expr_at c.args.words.now) (types_in c.args.slots) (returned c.args.words.now c.args.r) (returned_type c.args.words.now c.args.r) (returned_count c.args.words.now c.args.r)
    (returned_few c.requires.0) (omega (arith, c.loop-i-test.false, c.returned_count-i-end.ensures))
    ∙ c.loop-i.invariant.1

pub unwrap-t-requires : goal.unwrap-t-requires
unwrap-t-requires c = returned_declared c.requires.0 c.try_from.result c.try_from.ensures c.loop-i.i c.returned_type.ensures (omega (arith, c.loop-i-test.true, c.returned_count-i-end.ensures))
