use Prim.Native.Nat.{◌+◌}
use mathlib.Core.Path.{◌≡◌}
use Rattle.std.specs.Prelude.{None}
use Rattle.form.specs.Scan.{record_start}
use Rattle.form.proofs.Rows.{field_numbers}
use Rattle.form.proofs.Seen.{Seen}
use Rattle.form.proofs.fields.first_bad.Given as goal

abbrev pub invariant-loop-j : goal.invariant-loop-j
invariant-loop-j l = Seen l.words l.counts (l.start + l.j) × (l.bad ≡ None)

abbrev pub invariant-records : goal.invariant-records
invariant-records l = (l.start ≡ record_start l.rules l.q) × Seen l.words l.counts l.start × (l.bad ≡ None) × (l.rows ≡ field_numbers)
