use Rattle.std.specs.Prelude.{Err}
use Rattle.std.proofs.lemmas.Result.{err_from_is_err_and}
use mathlib.Core.Path.{sym, ap, ◌∙◌}
use lib.ListN.{length}
use native.Mathlib.Omega.{arith}
use Rattle.text.proofs.Taking.{nothing_taken}
use Rattle.listing.proofs.Steps.{not_found}
use Rattle.console_text.proofs.Reading.{first_wrong, second_wrong, third_wrong, from_fourth_lem}
use Rattle.console_text.proofs.Tables.{message_found, message_stored, request_run, request_line, request_room}
use Rattle.console_text.proofs.request.read_request.Goals as goal

pub returns-in_err-mode : goal.returns-in_err-mode
returns-in_err-mode c =
    let p = err_from_is_err_and c.from_residual.result c.from_residual.ensures.1 in
    let m = not_found c.read_mode.result 1 _ c.in_err-mode.ensures.value c.in_err-mode.ensures.ok_part in
    rw (p.1, p.2, m) (first_wrong _ _ _ _ c.read_mode.ensures c.in_err-mode.ensures.ok_part)

pub returns-in_err-budget : goal.returns-in_err-budget
returns-in_err-budget c =
    let p = err_from_is_err_and c.from_residual-in_err-budget.result c.from_residual-in_err-budget.ensures.1 in
    let m = not_found c.read_budget.result 2 _ c.in_err-budget.ensures.value c.in_err-budget.ensures.ok_part in
    rw (p.1, p.2, m) (second_wrong _ _ _ _ c.read_mode.ensures _ _ c.in_ok-mode.ensures.ok_part c.read_budget.ensures c.in_err-budget.ensures.ok_part)

pub returns-in_err-bytes : goal.returns-in_err-bytes
returns-in_err-bytes c =
    let p = err_from_is_err_and c.from_residual-in_err-bytes.result c.from_residual-in_err-bytes.ensures.1 in
    let m = not_found c.read_message.result 3 _ c.in_err-bytes.ensures.value c.in_err-bytes.ensures.ok_part in
    rw (p.1, p.2, m)
    (third_wrong _ _ _ _ c.read_mode.ensures _ _ c.in_ok-mode.ensures.ok_part c.read_budget.ensures _ _ c.in_ok-budget.ensures.ok_part c.read_message.ensures c.in_err-bytes.ensures.ok_part)

pub returns-in-Ok : goal.returns-in-Ok
returns-in-Ok c =
    let found = sym c.read_message.ensures.found_is ∙ c.in_ok-bytes.ensures.ok_part in
    request_run _ _ _ _ c.requires.1.1.0 c.requires.1.1.1 c.read_from.ensures _ _ _ _ _ _ c.in-Ok.is
    (message_stored _ _ _ _ found c.requires.0 (omega (arith, ap length (nothing_taken c.read_message.ensures c.args.message.now))) c.read_message-in-Ok.ensures)
    _ (message_found _ _ _ _ found).count
    ∙ from_fourth_lem _ _ _ _ c.read_mode.ensures _ _ c.in_ok-mode.ensures.ok_part c.read_budget.ensures _ _ c.in_ok-budget.ensures.ok_part c.read_message.ensures c.in_ok-bytes.ensures.ok_part

pub returns-in-Err-Line : goal.returns-in-Err-Line
returns-in-Err-Line c =
    rw c.in-Err-Line.field-0-is
    (request_line _ _ _ _ c.requires.1.1.0 c.requires.1.1.1 c.read_from.ensures _ _ _ _ _ (c.in-Err-Line.is ∙ ap Err c.in-Err-Line.field-0-is)
    ∙ from_fourth_lem _ _ _ _ c.read_mode.ensures _ _ c.in_ok-mode.ensures.ok_part c.read_budget.ensures _ _ c.in_ok-budget.ensures.ok_part c.read_message.ensures c.in_ok-bytes.ensures.ok_part)

pub returns-in-Err-Room : goal.returns-in-Err-Room
returns-in-Err-Room c = request_room c.args.input.now c.in_ok-bytes.c c.args.words.now c.args.literals.now c.requires.1.1.0 c.requires.1.1.1 c.read_from.ensures (c.in-Err-Room.is ∙ ap Err c.in-Err-Room.field-0-is)
