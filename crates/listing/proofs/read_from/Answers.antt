use Rattle.listing.proofs.Fills.{told_found, told_line, fills_wrong, fills_room, fills_room_2, fills_line, fills_done}
use Rattle.listing.proofs.Whole.{head_found}
use Rattle.std.proofs.lemmas.Result.{err_from_is_err_and}
use native.Mathlib.Omega.{arith}
use mathlib.Core.Path.{sym, ◌∙◌}
use Rattle.listing.proofs.read_from.Goals as goal
use Rattle.listing.proofs.read_from.Goals.{then-words-size-via-then-words-size, then-words-size-via-else-words-size+then-literals-head}

pub returns-in_err-head : goal.returns-in_err-head
returns-in_err-head c =
    let p = err_from_is_err_and c.from_residual.result c.from_residual.ensures.1 in
    let t = told_line c.read_head.result _ c.map_err.ensures.cases c.in_err-head.was in
    rw (p.1, p.2, t.2, ← c.from-number.ensures) (fills_wrong _ _ _ _ _ c.read_head.ensures _ t.1)

pub returns-then-words-size : goal.returns-then-words-size
returns-then-words-size c =
    let f = told_found c.read_head.result _ c.map_err.ensures.cases c.in_ok-head.was in
    rw (← c.from-number.ensures) elim c.then-words-size.branch [
      | then-words-size-via-then-words-size w ↦ fills_room _ _ _ _ _ c.read_head.ensures _ _ _ _ f w.if-words-size.true
      | then-words-size-via-else-words-size+then-literals-head w ↦ fills_room_2 _ _ _ _ _ c.read_head.ensures _ _ _ _ f w.if-words-size.false w.if-literals-head.true
    ]

pub read_body-requires : goal.read_body-requires
read_body-requires c =
    let f = told_found c.read_head.result _ c.map_err.ensures.cases c.in_ok-head.was in
    let z = head_found _ _ _ _ _ _ _ (sym c.read_head.ensures.found_is ∙ f) in
    (z.rules_most, (z.nodes_most, (omega arith, omega arith)))

pub returns-in_err-map_err : goal.returns-in_err-map_err
returns-in_err-map_err c =
    let p = err_from_is_err_and c.from_residual-in_err-map_err.result c.from_residual-in_err-map_err.ensures.1 in
    let f = told_found c.read_head.result _ c.map_err.ensures.cases c.in_ok-head.was in
    let t = told_line c.read_body.result _ c.map_err-2.ensures.cases c.in_err-map_err.was in
    rw (p.1, p.2, t.2, ← c.from-number.ensures) (fills_line _ _ _ _ _ c.read_head.ensures _ _ _ _ f c.if-words-size.false c.if-literals-head.false c.read_body.ensures _ t.1)

pub fill_words-requires : goal.fill_words-requires
fill_words-requires c =
    let f = told_found c.read_head.result _ c.map_err.ensures.cases c.in_ok-head.was in
    let z = head_found _ _ _ _ _ _ _ (sym c.read_head.ensures.found_is ∙ f) in
    (z.rules_most, (z.nodes_most, (z.literals_most, omega arith)))

pub returns : goal.returns
returns c =
    let f = told_found c.read_head.result _ c.map_err.ensures.cases c.in_ok-head.was in
    let g = told_found c.read_body.result _ c.map_err-2.ensures.cases c.in_ok-map_err.was in
    rw (← c.from-number.ensures)
    (fills_done _ _ _ _ _ c.read_head.ensures _ _ _ _ f c.if-words-size.false c.if-literals-head.false c.read_body.ensures _ g c.read_head-2.ensures c.fill_words.ensures)
