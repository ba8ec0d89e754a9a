use Rattle.form.proofs.Asked.{nothing}
use Rattle.form.proofs.fields.word_ok.Goals as goal

pub returns-then-own-eq-UNUSED : goal.returns-then-own-eq-UNUSED
returns-then-own-eq-UNUSED c =
    let a = c.args in
    let h = nothing a.words.now a.counts.now a.start a.bound a.own a.w c.if-own-eq-UNUSED.true in
    record { value = h.0; counts_after = h.1 }
