use mathlib.Core.Path.{sym, ◌∙◌}
use Rattle.typing.proofs.Judged.{leaf_step, operator_step}
use native.Mathlib.Omega.{arith}
use Rattle.typing.proofs.expressions.judge.Goals as goal

pub returns-then-not-is_operator : goal.returns-then-not-is_operator
returns-then-not-is_operator c = leaf_step c.args.slots c.requires c.leaf_type.ensures

pub returns : goal.returns
returns c = rw (c.at_work.ensures, c.from.ensures, c.kind_at-number.ensures, c.node_word-first.ensures, c.node_word-second.ensures) (operator_step c.args.slots c.requires (omega (arith, c.node_word-second.type_inv, c.node_word-second.ensures)) (rw (c.from-kind.ensures, c.kind_at-number.ensures) at (sym c.is_operator.ensures ∙ c.if-not-is_operator.false)))
