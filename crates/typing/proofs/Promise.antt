-- What follows from the promise of `type_check`, that its answer is `type_check`: demand 3 where it answers `passed`, and that no other answer is
-- allowed. Assumes nothing.
use mathlib.Core.Path.{◌≡◌, sym, ◌∙◌}
use mathlib.Core.List.{List}
use Prim.Native.Nat.{ℕ}
use Rattle.grammar.specs.Form.{Verdict, passed}
use Rattle.grammar.specs.declared.Mode.{Mode}
use Rattle.grammar.specs.declared.Mode.TheVariants.{Bench, Display}
use Rattle.grammar.specs.Answer.{type_check, answer}
use Rattle.grammar.specs.Demand.{WellTyped}
use Rattle.grammar.proofs.Demand.{display_well_typed, bench_well_typed}

module _ (words literals : List ℕ) (verdict : Verdict) (promised : verdict ≡ type_check words literals) where
  -- a table that the code passes never gets STUCK, bench or display, and on DONE the declared values are there with their types
  pub passed_well_typed : verdict ≡ passed → (mode : Mode) (message : List ℕ) (budget work_length : ℕ) → WellTyped words (answer mode words literals message budget work_length)
  passed_well_typed e Bench message budget work_length = bench_well_typed words literals (sym promised ∙ e) message budget work_length
  passed_well_typed e Display message budget work_length = display_well_typed words literals message budget work_length

  pub one_verdict : (other : Verdict) → other ≡ type_check words literals → verdict ≡ other
  one_verdict other e = promised ∙ sym e
