use Rattle.expressions.proofs.Givens.{two_integers, not_two_integers, not_of_integers}
use Rattle.expressions.specs.Meant.{of_integers}
use mir.Facts.{to_z-of_z}
use mathlib.Core.Path.{sym, ◌∙◌}
use Rattle.expressions.proofs.results.integers_given.Goals as goal

pub returns-then-not-both_integers : goal.returns-then-not-both_integers
returns-then-not-both_integers c =
    c.stuck.ensures ∙ not_two_integers c.args.k c.args.v.tag c.args.v.payload c.args.w.tag c.args.w.payload (of_integers c.args.op c.args.k) (sym c.both_integers.ensures ∙ c.if-not-both_integers.true)

pub returns-in-Calculate : goal.returns-in-Calculate
unfolding of_integers
returns-in-Calculate c =
    rw (← two_integers c.args.k c.args.v.tag c.args.v.payload c.args.w.tag c.args.w.payload (of_integers c.args.op c.args.k) (sym c.both_integers.ensures ∙ c.if-not-both_integers.false), c.in-Calculate.is, ← c.integer_of-a.ensures, ← c.integer_of-b.ensures)
    (rw (to_z-of_z (record { sfits = c.integer_of-a.type_inv }), to_z-of_z (record { sfits = c.integer_of-b.type_inv })) at c.calculated.ensures)

pub returns-in-Greater : goal.returns-in-Greater
unfolding of_integers
returns-in-Greater c =
    rw (
      ← two_integers c.args.k c.args.v.tag c.args.v.payload c.args.w.tag c.args.w.payload (of_integers c.args.op c.args.k) (sym c.both_integers.ensures ∙ c.if-not-both_integers.false),
      c.in-Greater.is,
      ← c.integer_of-a.ensures,
      ← c.integer_of-b.ensures,
      ← rw (to_z-of_z (record { sfits = c.integer_of-b.type_inv }), to_z-of_z (record { sfits = c.integer_of-a.type_inv })) at c.greater.ensures,
    )
    c.truth.ensures

pub returns-in_default : goal.returns-in_default
returns-in_default c =
    rw (← two_integers c.args.k c.args.v.tag c.args.v.payload c.args.w.tag c.args.w.payload (of_integers c.args.op c.args.k) (sym c.both_integers.ensures ∙ c.if-not-both_integers.false))
    (c.stuck-in_default.ensures ∙ not_of_integers c.args.op c.args.k _ _ c.in_default.not-Calculate c.in_default.not-Greater)
