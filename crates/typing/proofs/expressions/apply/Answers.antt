use mathlib.Core.Path.{◌≡◌, sym, ◌∙◌}
use Rattle.std.proofs.lemmas.Grind.{common_steps}
use native.Mathlib.Omega.{arith}
use Rattle.table.specs.declared.kinds.Kind.TheVariants as K
use Rattle.typing.proofs.Judged.{left_step, negation_step, right_step, typed_left}
use Rattle.typing.proofs.Types.{type_is, is_type}
use Rattle.typing.proofs.expressions.apply.Goals as goal

pub returns-then-eq : goal.returns-then-eq
returns-then-eq c =
    let e : c.from-kind.result ≡ K.Negation = grind (arith, common_steps) in
    negation_step c.args.slots c.requires.0 c.requires.1 (sym c.from-kind.ensures ∙ e) c.negation_type.ensures

pub returns-then-code-lt32 : goal.returns-then-code-lt32
returns-then-code-lt32 c =
    let other : (c.from-kind.result ≡ K.Negation → ⊥) = λ e. grind (arith, common_steps) in
    rw c.at_work.ensures (left_step c.args.slots c.requires.0 c.requires.1 c.from.ensures (λ e. other (c.from-kind.ensures ∙ e)) c.if-code-lt32.true)

pub unwrap-left-requires : goal.unwrap-left-requires
unwrap-left-requires c =
    let other : (c.from-kind.result ≡ K.Negation → ⊥) = λ e. grind (arith, common_steps) in
    let p = typed_left c.args.slots c.requires.0 c.requires.1 (λ e. other (c.from-kind.ensures ∙ e)) c.if-code-lt32.false in is_type c.try_from.result c.try_from.ensures p.0 p.1

pub returns : goal.returns
returns c =
    let other : (c.from-kind.result ≡ K.Negation → ⊥) = λ e. grind (arith, common_steps) in
    right_step c.args.slots c.requires.0 c.requires.1 (λ e. other (c.from-kind.ensures ∙ e)) c.if-code-lt32.false (type_is c.try_from.ensures c.unwrap-left.ensures) (rw c.from-kind.ensures at c.operator_type.ensures)
