use native.Mathlib.Omega.{arith}
use mathlib.Core.Path.{refl, sym, ◌∙◌}
use Rattle.grammar.specs.Words.{inherited_count}
use Rattle.grammar.specs.Tree.{expr_at}
use Rattle.typing.specs.Places.{arguments_typed}
use Rattle.typing.specs.Slots.{types_in}
use Rattle.typing.proofs.Leaves.{callee, inherited_few, inherited_declared, call_argument}
use Rattle.typing.proofs.Walks.{longer}
use Rattle.typing.proofs.Types.{type_is}
use Rattle.typing.proofs.Fours.{argument, inherited, untyped_here, typed_here, all_typed}
use Rattle.typing.proofs.parsing.arguments_typed.Goals as goal

pub loop-i-init : goal.loop-i-init
unfolding arguments_typed
loop-i-init c = (refl, refl)

pub overflow_add-i : goal.overflow_add-i
overflow_add-i c =
    let few = inherited_few (callee (types_in c.args.slots) c.requires.0 c.requires.1) in
    let count = c.inherited_count-i-end.ensures in
    let there = c.loop-i-test.true in record { fits = omega arith }

pub has_type-requires : goal.has_type-requires
has_type-requires c =
    longer c.loop-i.invariant.0 (call_argument (types_in c.args.slots) c.requires.0 c.requires.1 (omega (arith, c.loop-i-test.true, c.inherited_count-i-end.ensures)) c.node_word-argument.ensures)

pub returns-then-not-has_type : goal.returns-then-not-has_type
returns-then-not-has_type c =
    let few = inherited_few (callee (types_in c.args.slots) c.requires.0 c.requires.1) in
    sym (untyped_here (expr_at c.args.words.now) (types_in c.args.slots) (argument c.args.words.now c.args.k) (inherited c.args.words.now c.args.r) (inherited_count c.args.words.now c.args.r) few c.loop-i.i
    (omega (arith, c.loop-i-test.true, c.inherited_count-i-end.ensures)) (rw (← c.node_word-argument.ensures, ← c.inherited_type.ensures, ← type_is c.try_from.ensures c.unwrap-t.ensures) (sym c.has_type.ensures ∙ c.if-not-has_type.true)))
    ∙ c.loop-i.invariant.1

pub loop-i-preserved : goal.loop-i-preserved
loop-i-preserved c =
    let few = inherited_few (callee (types_in c.args.slots) c.requires.0 c.requires.1) in (
      c.has_type.auto.pile ∙ c.loop-i.invariant.0,
      typed_here (expr_at c.args.words.now) (types_in c.args.slots) (argument c.args.words.now c.args.k) (inherited c.args.words.now c.args.r) (inherited_count c.args.words.now c.args.r) few c.loop-i.i
          (omega (arith, c.loop-i-test.true, c.inherited_count-i-end.ensures)) (rw (← c.node_word-argument.ensures, ← c.inherited_type.ensures, ← type_is c.try_from.ensures c.unwrap-t.ensures) (sym c.has_type.ensures ∙ c.if-not-has_type.false))
          ∙ c.loop-i.invariant.1,
    )

pub returns : goal.returns
returns c =
    let few = inherited_few (callee (types_in c.args.slots) c.requires.0 c.requires.1) in
    all_typed (expr_at c.args.words.now) (types_in c.args.slots) (argument c.args.words.now c.args.k) (inherited c.args.words.now c.args.r) (inherited_count c.args.words.now c.args.r) few
    (omega (arith, c.loop-i-test.false, c.inherited_count-i-end.ensures))
    ∙ c.loop-i.invariant.1

pub unwrap-t-requires : goal.unwrap-t-requires
unwrap-t-requires c = inherited_declared (callee (types_in c.args.slots) c.requires.0 c.requires.1) c.try_from.result c.try_from.ensures c.loop-i.i c.inherited_type.ensures (omega (arith, c.loop-i-test.true, c.inherited_count-i-end.ensures))
