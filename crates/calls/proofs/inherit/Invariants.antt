use Rattle.std.proofs.Common.{◌≡◌}
use Rattle.calls.proofs.Slots.{placed}
use Rattle.calls.proofs.inherit.Given as goal

abbrev pub invariant-loop-i : goal.invariant-loop-i
invariant-loop-i l = l.work ≡ placed l.i l.fn.values l.initial.work
