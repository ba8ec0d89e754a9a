-- `form::fields::first_bad` meets its contract. Every word before the record, and in it every word before `j`, is right, and its use is counted. Assumes nothing.
use Prim.Native.Nat.{ℕ, ◌+◌}
use mathlib.Core.List.{List}
use mathlib.Core.Path.{◌≡◌, refl, ◌∙◌, ap}
use native.Mathlib.Omega.{arith}
use lib.ListN.{length}
use Rattle.grammar.specs.Words.{node_count}
use Rattle.grammar.specs.Form.{field_sorts}
use Rattle.form.specs.Sorts.{number_of}
use Rattle.form.specs.Scan.{record_start, record_sort}
use Rattle.form.proofs.Places.{start_zero, start_end, record_in}
use Rattle.form.proofs.Seen.{seen_none, room, at_all}
use Rattle.form.proofs.Asked.{judged}
use Rattle.form.proofs.fields.first_bad.Goals as goal

-- the code's constant table is the specs' table of sorts
pub records-init : goal.records-init
unfolding field_sorts number_of
records-init c = (start_zero _, seen_none _ _ c.requires.counts_value, refl, refl)

pub word_ok-requires-clause-w_bound : goal.word_ok-requires-clause-w_bound
word_ok-requires-clause-w_bound c =
    let fit = record_in c.rule_count-rules.result c.records.q c.node_count-nodes.result (omega arith) in
    room c.args.words.now c.loop-j.counts (c.records.start + c.loop-j.j) (omega arith) c.loop-j.invariant.0 (omega arith) _

pub loop-j-preserved : goal.loop-j-preserved
loop-j-preserved c =
    -- a right word has been seen
    let rules = c.rule_count-rules in
    let row = c.row_of-row in
    let own = c.record_sort-own in
    let its_own = own.ensures ∙ ap (λ (rows : List (List ℕ)). record_sort rows rules.result c.records.q row.result c.loop-j.j) c.records.invariant.3 in
    let fit = record_in rules.result c.records.q c.node_count-nodes.result (omega arith) in
    let at = c.from.ensures in
    let value = rw at at c.word_ok.ensures.value in
    let left = rw at at c.word_ok.ensures.counts_after in
    let after =
    judged c.args.words.now rules.result c.records.q c.loop-j.j c.records.start row.result own.result c.record_bound-bound.result rules.ensures (omega arith) c.records.invariant.0
    row.ensures its_own (cc) c.loop-j.counts _ c.word_ok.result (omega arith) (omega arith) c.loop-j.invariant.0 value left in
    let e : c.records.start + (c.loop-j.j + 1) ≡ c.records.start + c.loop-j.j + 1 = omega arith in
    (rw e (after.0 c.if-not-word_ok.false), c.loop-j.invariant.1)

pub returns-after-records : goal.returns-after-records
returns-after-records c =
    let o = c.records in
    let w = c.args.words.now in
    let R = c.rule_count-rules.result in
    let end : o.q ≡ R + node_count w = omega arith in
    let all : o.start ≡ length w = omega (arith, ap (record_start R) end, start_end R (node_count w)) in
    rw o.invariant.2 (at_all w o.counts o.start (omega arith) o.invariant.1 all)

pub returns-then-not-word_ok : goal.returns-then-not-word_ok
returns-then-not-word_ok c =
    -- a bad word ends the scan
    let rules = c.rule_count-rules in
    let row = c.row_of-row in
    let own = c.record_sort-own in
    let its_own = own.ensures ∙ ap (λ (rows : List (List ℕ)). record_sort rows rules.result c.records.q row.result c.loop-j.j) c.records.invariant.3 in
    let fit = record_in rules.result c.records.q c.node_count-nodes.result (omega arith) in
    let at = c.from.ensures in
    let value = rw at at c.word_ok.ensures.value in
    let left = rw at at c.word_ok.ensures.counts_after in
    let after =
    judged c.args.words.now rules.result c.records.q c.loop-j.j c.records.start row.result own.result c.record_bound-bound.result rules.ensures (omega arith) c.records.invariant.0
    row.ensures its_own (cc) c.loop-j.counts _ c.word_ok.result (omega arith) (omega arith) c.loop-j.invariant.0 value left in
    rw at (after.1 c.if-not-word_ok.true)
