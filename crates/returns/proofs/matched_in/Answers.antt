use mathlib.Core.Path.{sym}
use Rattle.table.proofs.Decoding.{kind_read}
use Rattle.table.specs.declared.kinds.Kind.TheVariants as K
use Rattle.returns.specs.Returns.{matched_in}
use Rattle.returns.proofs.ByKind.{matched_by, matched_none}
use Rattle.returns.proofs.matched_in.Goals as goal

pub returns-in-Sequence : goal.returns-in-Sequence
unfolding matched_in
returns-in-Sequence c =
    let a = c.args in
    let at = sym (kind_read a.inputs.words.now a.k c.node_place-place.ensures c.kind_in.ensures) in
    cc (matched_by a.inputs.words.now a.inputs.literals.now a.inputs.message.now a.k a.d a.run a.work.now at c.from.ensures K.Sequence c.in-Sequence.is)

pub returns-in-Repeat : goal.returns-in-Repeat
unfolding matched_in
returns-in-Repeat c =
    let a = c.args in
    let at = sym (kind_read a.inputs.words.now a.k c.node_place-place.ensures c.kind_in.ensures) in
    cc (matched_by a.inputs.words.now a.inputs.literals.now a.inputs.message.now a.k a.d a.run a.work.now at c.from.ensures K.Repeat c.in-Repeat.is)

pub returns-in-Not : goal.returns-in-Not
unfolding matched_in
returns-in-Not c =
    let a = c.args in
    let at = sym (kind_read a.inputs.words.now a.k c.node_place-place.ensures c.kind_in.ensures) in
    cc (matched_by a.inputs.words.now a.inputs.literals.now a.inputs.message.now a.k a.d a.run a.work.now at c.from.ensures K.Not c.in-Not.is)

pub returns-in-Call : goal.returns-in-Call
unfolding matched_in
returns-in-Call c =
    let a = c.args in
    let at = sym (kind_read a.inputs.words.now a.k c.node_place-place.ensures c.kind_in.ensures) in
    cc (matched_by a.inputs.words.now a.inputs.literals.now a.inputs.message.now a.k a.d a.run a.work.now at c.from.ensures K.Call c.in-Call.is)

pub returns-in-Bind : goal.returns-in-Bind
unfolding matched_in
returns-in-Bind c =
    let a = c.args in
    let at = sym (kind_read a.inputs.words.now a.k c.node_place-place.ensures c.kind_in.ensures) in
    cc (matched_by a.inputs.words.now a.inputs.literals.now a.inputs.message.now a.k a.d a.run a.work.now at c.from.ensures K.Bind c.in-Bind.is)

pub returns-in_default : goal.returns-in_default
returns-in_default c =
    let a = c.args in
    let at = sym (kind_read a.inputs.words.now a.k c.node_place-place.ensures c.kind_in.ensures) in
    let other = c.in_default in
    cc (matched_none a.inputs.words.now a.inputs.literals.now a.inputs.message.now a.k a.d a.run a.work.now at c.from.ensures other.not-Sequence other.not-Repeat other.not-Not other.not-Call other.not-Bind)
