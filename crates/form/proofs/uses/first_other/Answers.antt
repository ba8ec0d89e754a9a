-- `form::uses::first_other` meets its contract. Every count before `k` is 1. Assumes nothing.
use mathlib.Core.Bool.{true}
use mathlib.Core.Path.{◌≡◌, sym}
use native.Mathlib.Omega.{arith}
use borrow.Author.Count.{below_more}
use borrow.Author.Tests.{eq-eqb, ne_eqb}
use lib.Dec.{eqb}
use lib.ListN.{get_or}
use Rattle.laws.specs.Smallest.{smallest_at, smallest_none}
use Rattle.form.proofs.uses.first_other.Goals as goal

pub returns-then-counts-from-ne1 : goal.returns-then-counts-from-ne1
returns-then-counts-from-ne1 c =
    let l = c.args.counts.now in
    let k = c.loop-k.k in
    let other = rw c.from.ensures at c.if-counts-from-ne1.true in
    sym (smallest_at (λ m. eqb (get_or l m 0) 1) 0 c.args.n k (omega arith) (omega arith) (λ m low h. c.loop-k.invariant m h) (ne_eqb (get_or l k 0) 1 other))

pub loop-k-preserved : goal.loop-k-preserved
loop-k-preserved c =
    let l = c.args.counts.now in
    let one = rw c.from.ensures at c.if-counts-from-ne1.false in
    below_more (λ m. eqb (get_or l m 0) 1 ≡ true) c.loop-k.k c.loop-k.invariant (eq-eqb (get_or l c.loop-k.k 0) 1 one)

pub returns : goal.returns
returns c =
    let l = c.args.counts.now in
    sym (smallest_none (λ m. eqb (get_or l m 0) 1) 0 c.args.n (λ m low h. c.loop-k.invariant m (omega arith)))
