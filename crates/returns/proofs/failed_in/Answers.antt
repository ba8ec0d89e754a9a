use mathlib.Core.List.{[]}
use mathlib.Core.Path.{sym}
use Rattle.table.proofs.Decoding.{kind_read}
use Rattle.table.specs.declared.kinds.Kind.TheVariants as K
use Rattle.returns.specs.Returns.{failed_in}
use Rattle.returns.proofs.ByKind.{failed_by, failed_none}
use Rattle.returns.proofs.failed_in.Goals as goal

pub returns-in-Choice : goal.returns-in-Choice
unfolding failed_in
returns-in-Choice c =
    let a = c.args in
    let at = sym (kind_read a.words.now a.k c.node_place-place.ensures c.kind_in.ensures) in
    cc (failed_by a.words.now [] [] a.k a.d a.run a.work.now at c.from.ensures K.Choice c.in-Choice.is)

pub returns-in-Repeat : goal.returns-in-Repeat
unfolding failed_in
returns-in-Repeat c =
    let a = c.args in
    let at = sym (kind_read a.words.now a.k c.node_place-place.ensures c.kind_in.ensures) in
    cc (failed_by a.words.now [] [] a.k a.d a.run a.work.now at c.from.ensures K.Repeat c.in-Repeat.is)

pub returns-in-Not : goal.returns-in-Not
unfolding failed_in
returns-in-Not c =
    let a = c.args in
    let at = sym (kind_read a.words.now a.k c.node_place-place.ensures c.kind_in.ensures) in
    cc (failed_by a.words.now [] [] a.k a.d a.run a.work.now at c.from.ensures K.Not c.in-Not.is)

pub returns-in_default : goal.returns-in_default
returns-in_default c =
    let a = c.args in
    let at = sym (kind_read a.words.now a.k c.node_place-place.ensures c.kind_in.ensures) in
    let other = c.in_default in
    cc (failed_none a.words.now [] [] a.k a.d a.run a.work.now at c.from.ensures other.not-Choice other.not-Repeat other.not-Not)
