use Rattle.form.proofs.Force.{force_plain, force_kind, force_argument, force_receiving, force_inherited_type, force_returned, force_returned_type}
use Rattle.form.proofs.sorts.in_force.Goals as goal

pub returns-then-sort-lt-ARGUMENT : goal.returns-then-sort-lt-ARGUMENT
returns-then-sort-lt-ARGUMENT c =
    let a = c.args in
    force_plain a.words.now a.start a.sort c.if-sort-lt-ARGUMENT.true

pub returns-then-sort-eq-KIND : goal.returns-then-sort-eq-KIND
returns-then-sort-eq-KIND c =
    let a = c.args in
    force_kind a.words.now a.start a.sort c.if-sort-lt-ARGUMENT.false c.if-sort-eq-KIND.true

pub returns-then-sort-lt-RECEIVING : goal.returns-then-sort-lt-RECEIVING
returns-then-sort-lt-RECEIVING c =
    let a = c.args in
    cc (force_argument a.words.now a.start a.sort c.if-sort-lt-ARGUMENT.false c.if-sort-eq-KIND.false c.if-sort-lt-RECEIVING.true)

pub returns-then-sort-lt-INHERITED_TYPE : goal.returns-then-sort-lt-INHERITED_TYPE
returns-then-sort-lt-INHERITED_TYPE c =
    let a = c.args in
    cc (force_receiving a.words.now a.start a.sort c.if-sort-lt-ARGUMENT.false c.if-sort-eq-KIND.false c.if-sort-lt-RECEIVING.false c.if-sort-lt-INHERITED_TYPE.true)

pub returns-then-sort-lt-RETURNED : goal.returns-then-sort-lt-RETURNED
returns-then-sort-lt-RETURNED c =
    let a = c.args in
    cc (force_inherited_type a.words.now a.start a.sort c.if-sort-lt-ARGUMENT.false c.if-sort-eq-KIND.false c.if-sort-lt-INHERITED_TYPE.false c.if-sort-lt-RETURNED.true)

pub returns-then-sort-lt-RETURNED_TYPE : goal.returns-then-sort-lt-RETURNED_TYPE
returns-then-sort-lt-RETURNED_TYPE c =
    let a = c.args in
    cc (force_returned a.words.now a.start a.sort c.if-sort-lt-ARGUMENT.false c.if-sort-eq-KIND.false c.if-sort-lt-RETURNED.false c.if-sort-lt-RETURNED_TYPE.true)

pub returns : goal.returns
returns c =
    let a = c.args in
    cc (force_returned_type a.words.now a.start a.sort c.if-sort-lt-ARGUMENT.false c.if-sort-eq-KIND.false c.if-sort-lt-RETURNED_TYPE.false)
