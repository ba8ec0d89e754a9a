-- `form::check` meets its contract. Assumes nothing.
use mathlib.Core.Path.{sym, ◌∙◌}
use native.Mathlib.Omega.{arith}
use Rattle.form.proofs.Order.{size_passed, bad_below, at_size, at_field, at_use, at_start, at_end}
use Rattle.form.proofs.check.Goals as goal

pub returns-then-not-size_ok : goal.returns-then-not-size_ok
returns-then-not-size_ok c =
    let a = c.args in
    at_size a.words.now a.literals.now (sym c.size_ok.ensures ∙ c.if-not-size_ok.true)

pub first_bad-requires-clause-sized : goal.first_bad-requires-clause-sized
first_bad-requires-clause-sized c = size_passed _ _ _ c.size_ok.ensures c.if-not-size_ok.false

pub overflow_cast-result : goal.overflow_cast-result
overflow_cast-result c =
    let h = size_passed _ _ _ c.size_ok.ensures c.if-not-size_ok.false in
    let below = bad_below _ _ _ c.in-Some.ensures in
    omega arith

pub returns-in-Some : goal.returns-in-Some
returns-in-Some c =
    let a = c.args in
    at_field a.words.now a.literals.now (sym c.size_ok.ensures ∙ c.if-not-size_ok.false) c.first_bad.new.counts _ c.in-Some.ensures

pub first_other-requires : goal.first_other-requires
first_other-requires c = let h = size_passed _ _ _ c.size_ok.ensures c.if-not-size_ok.false in omega arith

pub returns-in-Some-first_other : goal.returns-in-Some-first_other
returns-in-Some-first_other c =
    let n = c.node_count in
    let a = c.args in
    let few = size_passed _ _ _ c.size_ok.ensures c.if-not-size_ok.false in
    at_use a.words.now a.literals.now (sym c.size_ok.ensures ∙ c.if-not-size_ok.false) c.first_bad.new.counts c.in_default.ensures n.result n.ensures (omega arith)
    c.first_other.result c.first_other.ensures _ c.in-Some-first_other.is

pub returns-then-inherited_count-gt0 : goal.returns-then-inherited_count-gt0
returns-then-inherited_count-gt0 c =
    let n = c.node_count in
    let a = c.args in
    let few = size_passed _ _ _ c.size_ok.ensures c.if-not-size_ok.false in
    at_start a.words.now a.literals.now (sym c.size_ok.ensures ∙ c.if-not-size_ok.false) c.first_bad.new.counts c.in_default.ensures n.result n.ensures (omega arith)
    c.first_other.result c.first_other.ensures c.in_default-first_other.is (omega (arith, c.inherited_count.ensures))

pub returns : goal.returns
returns c =
    let n = c.node_count in
    let a = c.args in
    let few = size_passed _ _ _ c.size_ok.ensures c.if-not-size_ok.false in
    at_end a.words.now a.literals.now (sym c.size_ok.ensures ∙ c.if-not-size_ok.false) c.first_bad.new.counts c.in_default.ensures n.result n.ensures (omega arith)
    c.first_other.result c.first_other.ensures c.in_default-first_other.is (omega (arith, c.inherited_count.ensures))
