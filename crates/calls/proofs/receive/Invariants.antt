use Rattle.std.proofs.Common.{◌≡◌}
use Rattle.calls.proofs.Slots.{first}
use Rattle.calls.proofs.receive.Given as goal

abbrev pub invariant-loop-i : goal.invariant-loop-i
invariant-loop-i l = l.work ≡ first l.count l.slots l.fn.values l.initial.work l.i
