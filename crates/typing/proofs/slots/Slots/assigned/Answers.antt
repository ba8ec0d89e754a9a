use native.Mathlib.Omega.{arith}
use Rattle.std.proofs.lemmas.Grind.{common_steps}
use mathlib.Core.Path.{sym, ap, ◌∙◌}
use mathlib.Core.Option.{some}
use Rattle.typing.specs.Slots.{told}
use Rattle.typing.specs.Types.{number, number_if_any}
use Rattle.typing.proofs.Types.{positive}
use Rattle.typing.proofs.Numbers.{assign_same, assign_other, assign_unset}
use Rattle.typing.proofs.slots.Slots.assigned.Goals as goal

pub returns-in-None : goal.returns-in-None
unfolding told
returns-in-None c = ap some c.with.ensures ∙ assign_unset c.args.self c.args.s (number c.args.t) (sym c.type_of.ensures ∙ ap number_if_any c.in-None.is)

pub returns-in-Some : goal.returns-in-Some
unfolding told
returns-in-Some c = let old = c.in-Some.ensures in assign_same c.args.self c.args.s (number c.args.t) (grind (arith, common_steps))

pub returns-in-Some-2 : goal.returns-in-Some-2
unfolding told
returns-in-Some-2 c =
    let old = c.in-Some-2.ensures in
    let set = positive c.in-Some-2.field-0 in assign_other c.args.self c.args.s (number c.args.t) (λ e. omega arith) (λ e. let f = old ∙ e in grind (arith, common_steps))
