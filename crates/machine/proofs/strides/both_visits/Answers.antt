use Rattle.grammar.specs.Words.{word}
use Rattle.stages.specs.Stages.{with}
use mathlib.Core.Path.{ap, refl}
use lib.Dec.{eqb}
use Rattle.stages.specs.declared.Stage.TheVariants as S
use Prim.Native.Nat.{◌+◌}
use mathlib.Core.Path.{◌≡◌, sym, ◌∙◌}
use mathlib.Core.Bool.{cond}
use native.Mathlib.Omega.{arith}
use Rattle.visits.proofs.Arms.{stands_small}
use Rattle.machine.proofs.ThreeSteps.{came_on, came_off, both_read}
use Rattle.machine.proofs.strides.both_visits.Goals as goal
use Rattle.machine.proofs.strides.both_visits.Goals.{then-stands, else-stands, then-stands-2, else-stands-2}

pub overflow_add-after : goal.overflow_add-after
overflow_add-after c = omega (arith, stands_small c.args.inputs.message.now c.args.run.at c.field_in-2.result (sym c.byte_stands-stands.ensures ∙ c.if-stands.true))

pub returns-then-stands-sequence : goal.returns-then-stands-sequence
returns-then-stands-sequence c = let a = c.args in let stands = c.byte_stands-stands.result in let after : c.if-stands.after ≡ cond stands (a.run.at + 1) a.run.at = elim c.if-stands.branch [ then-stands v ↦ rw v.if-stands.true v.after-is | else-stands v ↦ rw v.if-stands.false v.after-is ] in ap (with _) c.second.ensures ∙ (came_on c.field_in-then-stands-sequence.result a.run c.push.new.work c.if-stands.after (eqb c.kind_in-sequence.result 3) stands c.if-stands-sequence.true after ∙ both_read a.inputs.words.now a.inputs.message.now a.k a.run a.work.now c.node_place-place.ensures c.kind_in-sequence.ensures c.field_in.ensures c.node_place-part.ensures c.field_in-2.ensures c.byte_stands-stands.ensures c.field_in-then-stands-sequence.ensures c.push.ensures)

pub returns : goal.returns
returns c = let a = c.args in let stands = c.byte_stands-stands.result in let after : c.if-stands.after ≡ cond stands (a.run.at + 1) a.run.at = elim c.if-stands.branch [ then-stands v ↦ rw v.if-stands.true v.after-is | else-stands v ↦ rw v.if-stands.false v.after-is ] in let stage : c.if-stands-2.result ≡ cond stands S.Matched S.Failed = elim c.if-stands-2.branch [ then-stands-2 v ↦ rw v.if-stands-2.true v.result-is | else-stands-2 v ↦ rw v.if-stands-2.false v.result-is ] in came_off (word a.inputs.words.now (c.node_place-place.result + 2)) a.run c.push.new.work c.if-stands.after (eqb c.kind_in-sequence.result 3) stands c.if-stands-2.result c.if-stands-sequence.false after stage ∙ both_read a.inputs.words.now a.inputs.message.now a.k a.run a.work.now c.node_place-place.ensures c.kind_in-sequence.ensures c.field_in.ensures c.node_place-part.ensures c.field_in-2.ensures c.byte_stands-stands.ensures refl c.push.ensures
