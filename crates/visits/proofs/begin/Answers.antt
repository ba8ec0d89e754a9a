use Rattle.frames.specs.Frames.{slots_in}
use mathlib.Core.Path.{sym}
use Rattle.visits.specs.Visits.{begun}
use Rattle.table.proofs.Decoding.{kind_read}
use Rattle.table.specs.declared.kinds.Kind.TheVariants as K
use Rattle.visits.proofs.ByKind.{begun_by, begun_first, begun_none}
use Rattle.visits.proofs.begin.Goals as goal

pub returns-in-Terminal : goal.returns-in-Terminal
unfolding begun
returns-in-Terminal c =
    let a = c.args in
    let at = sym (kind_read a.inputs.words.now a.k c.node_place-place.ensures c.kind_in.ensures) in
    cc (begun_by a.inputs.words.now a.inputs.literals.now a.inputs.message.now a.k a.run a.work.now _ _ at c.from.ensures K.Terminal c.in-Terminal.is)

pub returns-in-Sequence : goal.returns-in-Sequence
returns-in-Sequence c =
    let a = c.args in
    let at = sym (kind_read a.inputs.words.now a.k c.node_place-place.ensures c.kind_in.ensures) in
    cc (begun_first a.inputs.words.now a.inputs.literals.now a.inputs.message.now a.k a.run a.work.now _ _ at c.from.ensures c.in-Sequence.is)

pub returns-in-Call : goal.returns-in-Call
unfolding begun
returns-in-Call c =
    let a = c.args in
    let at = sym (kind_read a.inputs.words.now a.k c.node_place-place.ensures c.kind_in.ensures) in
    cc (begun_by a.inputs.words.now a.inputs.literals.now a.inputs.message.now a.k a.run a.work.now _ _ at c.from.ensures K.Call c.in-Call.is)

pub returns-in-Bind : goal.returns-in-Bind
unfolding begun
returns-in-Bind c =
    let a = c.args in
    let at = sym (kind_read a.inputs.words.now a.k c.node_place-place.ensures c.kind_in.ensures) in
    cc (begun_by a.inputs.words.now a.inputs.literals.now a.inputs.message.now a.k a.run a.work.now _ _ at c.from.ensures K.Bind c.in-Bind.is)

pub returns-in-Update : goal.returns-in-Update
unfolding begun slots_in
returns-in-Update c =
    let a = c.args in
    let at = sym (kind_read a.inputs.words.now a.k c.node_place-place.ensures c.kind_in.ensures) in
    cc (begun_by a.inputs.words.now a.inputs.literals.now a.inputs.message.now a.k a.run a.work.now _ _ at c.from.ensures K.Update c.in-Update.is)

pub returns-in-Constraint : goal.returns-in-Constraint
unfolding begun slots_in
returns-in-Constraint c =
    let a = c.args in
    let at = sym (kind_read a.inputs.words.now a.k c.node_place-place.ensures c.kind_in.ensures) in
    cc (begun_by a.inputs.words.now a.inputs.literals.now a.inputs.message.now a.k a.run a.work.now _ _ at c.from.ensures K.Constraint c.in-Constraint.is)

pub returns-in_default : goal.returns-in_default
returns-in_default c =
    let a = c.args in
    let at = sym (kind_read a.inputs.words.now a.k c.node_place-place.ensures c.kind_in.ensures) in
    let other = c.in_default in
    cc (begun_none a.inputs.words.now a.inputs.literals.now a.inputs.message.now a.k a.run a.work.now _ _ at c.from.ensures
    other.not-Terminal other.not-Sequence other.not-Choice other.not-Repeat other.not-Not other.not-Call other.not-Bind other.not-Update other.not-Constraint)
