use Rattle.std.proofs.Common.{◌∙◌, sym}
use Rattle.std.proofs.lemmas.Grind.{get_or_default_zero}
use borrow.Author.Tests.{ltb-true, ltb-false, le-ltb}
use lib.ListN.{length}
use Rattle.visits.proofs.Arms.{stands_past, stands_last, stands_here}
use Rattle.visits.proofs.byte_stands.Goals as goal

pub returns-then-at-lt65535 : goal.returns-then-at-lt65535
returns-then-at-lt65535 c =
    let a = c.args in
    let h = rw c.from.ensures at c.in-Some.ensures.lookup in
    let below = ltb-true a.at (length a.message.now) (sym h.0) in
    rw (c.from-then-at-lt65535.ensures, h.1 ∙ get_or_default_zero a.message.now a.at c.in-Some.there.now below) (sym (stands_here a.message.now a.at a.byte below c.if-at-lt65535.true))

pub returns-else-at-lt65535 : goal.returns-else-at-lt65535
returns-else-at-lt65535 c =
    let a = c.args in
    le-ltb a.at 65535 c.if-at-lt65535.false ∙ sym (stands_last a.message.now a.at a.byte c.if-at-lt65535.false)

pub returns-in-None : goal.returns-in-None
returns-in-None c =
    let a = c.args in
    let h = rw c.from.ensures at c.in-None.ensures.lookup in
    sym (stands_past a.message.now a.at a.byte (ltb-false a.at (length a.message.now) (sym h.0)))
