use mathlib.Core.Logic.{⊎_elim}
use Prim.Native.Nat.{◌≤◌, ◌<◌}
use native.Mathlib.Omega.{arith}
use borrow.Author.Tests.{le-leb, lt-leb}
use Rattle.std.proofs.lemmas.Bool.{cases_lt}
use Rattle.table.proofs.Decoding.{kind_read}
use Rattle.machine.specs.Strides.{terminal_first}
use Rattle.machine.proofs.strides.terminal_first.Goals as goal

pub returns-in-3 : goal.returns-in-3
unfolding terminal_first
returns-in-3 c =
    rw (kind_read c.args.words.now c.args.k c.node_place-place.ensures c.kind_in.ensures, le-leb 3 c.kind_in.result (omega (arith, c.in-3)), le-leb c.kind_in.result 4 (omega (arith, c.in-3)))
    (cc (kind_read c.args.words.now c.field_in.result c.node_place.ensures c.kind_in-in-3.ensures))

pub returns-in_default-2 : goal.returns-in_default-2
unfolding terminal_first
returns-in_default-2 c =
    let n = c.kind_in.result in
    let read = kind_read c.args.words.now c.args.k c.node_place-place.ensures c.kind_in.ensures in
    ⊎_elim
    (λ (h : n < 3). rw (read, lt-leb 3 n h))
    (λ (h : 3 ≤ n). rw (read, le-leb 3 n h, lt-leb n 4 (omega (arith, c.in_default))))
    (cases_lt n 3)

pub returns-in_default : goal.returns-in_default
unfolding terminal_first
returns-in_default c =
    let n = c.kind_in.result in
    let read = kind_read c.args.words.now c.args.k c.node_place-place.ensures c.kind_in.ensures in
    ⊎_elim
    (λ (h : n < 3). rw (read, lt-leb 3 n h))
    (λ (h : 3 ≤ n). rw (read, le-leb 3 n h, lt-leb n 4 (omega (arith, c.in_default))))
    (cases_lt n 3)
