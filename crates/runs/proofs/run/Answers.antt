use Rattle.runs.proofs.Answering.{runs, refuses}
use Rattle.machine.proofs.Ranges.{Short}
use Rattle.machine.specs.Drive.{Ran}
use native.Mathlib.Omega.{arith}
use mathlib.Core.Path.{ap, sym, ◌∙◌}
use Rattle.runs.proofs.run.Goals as goal

pub returns-in-Ok : goal.returns-in-Ok
returns-in-Ok c =
    let a = c.args in
    let short : Short a.words.now = λ i. omega (arith, c.type_inv.words i) in
    let e = c.run_table.ensures ∙ runs a.words.now a.literals.now a.message.now short a.mode a.budget a.work.now (sym c.checked.ensures ∙ c.in-Ok.is) in
    record { gives = ap (λ (x : Ran). x.answer) e; leaves = ap (λ (x : Ran). x.work) e }

pub returns-in-Err : goal.returns-in-Err
returns-in-Err c =
    let a = c.args in
    let short : Short a.words.now = λ i. omega (arith, c.type_inv.words i) in
    let e = refuses a.words.now a.literals.now a.message.now short a.mode a.budget a.work.now c.in-Err.why (sym c.checked.ensures ∙ c.in-Err.is) in
    record { gives = c.refuse.ensures ∙ ap (λ (x : Ran). x.answer) e; leaves = ap (λ (x : Ran). x.work) e }
