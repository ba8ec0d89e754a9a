use Rattle.console_text.proofs.Responding.{take_length, counted, respond_line, respond_run}
use Rattle.console_text.proofs.answer_lines.Goals as goal

pub slice_bounds-print_run-end : goal.slice_bounds-print_run-end
slice_bounds-print_run-end c = (counted _ _ _ _ c.read_request.ensures _ _ _ _ _ c.in-Ok.is).in_words

pub slice_bounds-print_run-end-in-Ok : goal.slice_bounds-print_run-end-in-Ok
slice_bounds-print_run-end-in-Ok c = take_length _ _ (counted _ _ _ _ c.read_request.ensures _ _ _ _ _ c.in-Ok.is).in_words

pub slice_bounds-print_run-end-in-Ok-2 : goal.slice_bounds-print_run-end-in-Ok-2
slice_bounds-print_run-end-in-Ok-2 c = (counted _ _ _ _ c.read_request.ensures _ _ _ _ _ c.in-Ok.is).in_literals

pub slice_bounds-print_run-end-in-Ok-3 : goal.slice_bounds-print_run-end-in-Ok-3
slice_bounds-print_run-end-in-Ok-3 c = take_length _ _ (counted _ _ _ _ c.read_request.ensures _ _ _ _ _ c.in-Ok.is).in_literals

pub slice_bounds-print_run-end-in-Ok-4 : goal.slice_bounds-print_run-end-in-Ok-4
slice_bounds-print_run-end-in-Ok-4 c = (counted _ _ _ _ c.read_request.ensures _ _ _ _ _ c.in-Ok.is).in_message

pub slice_bounds-print_run-end-in-Ok-5 : goal.slice_bounds-print_run-end-in-Ok-5
slice_bounds-print_run-end-in-Ok-5 c = take_length _ _ (counted _ _ _ _ c.read_request.ensures _ _ _ _ _ c.in-Ok.is).in_message

pub returns-in-Err : goal.returns-in-Err
returns-in-Err c = respond_line _ _ _ _ _ _ c.requires.roomy c.requires.input_len_bound c.read_request.ensures _ c.in-Err.is c.print_line.ensures

pub returns-in-Ok : goal.returns-in-Ok
returns-in-Ok c = respond_run _ _ _ _ _ _ c.requires.roomy c.requires.input_len_bound c.read_request.ensures _ _ _ _ _ c.in-Ok.is c.print_run.ensures.prints c.print_run.ensures.leaves
