-- What the parts of a whole run come to, and that after the checks it is the answer of the written meaning. Assumes nothing but that the table's
-- words are 16-bit numbers.
use mathlib.Core.Path.{◌≡◌, sym, ap, ap₂, ◌∙◌}
use mathlib.Core.List.{List}
use Prim.Native.Nat.{ℕ, ◌≤◌, ◌<◌}
use borrow.Author.Tests.{le-leb, lt-leb}
use lib.Dec.{leb}
use lib.ListN.{length}
use Rattle.grammar.specs.declared.Answer.{Answer}
use Rattle.grammar.specs.declared.Mode.{Mode}
use Rattle.std.specs.Prelude.{Ok, Err}
use Rattle.grammar.specs.declared.Refusal.TheVariants.{Long, Work}
use Rattle.grammar.specs.declared.Refusal.{Refusal}
use Rattle.grammar.specs.Form.{Verdict, passed, followed_by, unless_ok}
use Rattle.grammar.specs.Answer.{work_words, check, conclude, refusal, answer, left_after, work_after}
use Rattle.frames.specs.Frames.{cleared, unset}
use Rattle.stages.specs.declared.Run.{Run}
use Rattle.stages.specs.Stages.{Stepped, with}
use Rattle.machine.specs.Drive.{Ran, recorded, started, driven, concluded, rested, ran}
use Rattle.machine.proofs.Ranges.{Short}
use Rattle.machine.proofs.Entry.{ran_answers}

-- ════ The parts of a run ════

module _ (words literals message : List ℕ) (budget : ℕ) where
  -- the slots cleared, the run driven to its rest and concluded, the work area cleared
  pub assembled : (work work₁ work₂ : List ℕ) (first : Stepped) (last : Run) (given : Answer)
      → first ≡ with (started words) (unset work)
      → with last work₁ ≡ driven words literals message budget first
      → given ≡ concluded words literals message (with last work₁)
      → work₂ ≡ cleared work₁ work_words
      → recorded given work₂ ≡ ran words literals message budget work
  unfolding ran rested
  assembled work work₁ work₂ first last given p q r s =
      let e : with last work₁ ≡ driven words literals message budget (with (started words) (unset work)) = q ∙ ap (driven words literals message budget) p in
      ap₂ recorded
      (r ∙ ap (concluded words literals message) e)
      (s ∙ ap (λ (x : Stepped). cleared x.work work_words) e)

-- ════ LONG and WORK ════

module _ (message work : ℕ) where
  abbrev limits_of : Verdict
  limits_of = followed_by (unless_ok (leb message 65535) Long) (unless_ok (leb work_words work) Work)

  pub limits_long : 65535 < message → Err Long ≡ limits_of
  limits_long h = rw (lt-leb message 65535 h)

  pub limits_work : message ≤ 65535 → work < work_words → Err Work ≡ limits_of
  limits_work h g = rw (le-leb message 65535 h, lt-leb work_words work g)

  pub limits_none : message ≤ 65535 → work_words ≤ work → passed ≡ limits_of
  limits_none h g = rw (le-leb message 65535 h, le-leb work_words work g)

-- ════ After the checks ════

module _ (words literals message : List ℕ) (short : Short words) (mode : Mode) (budget : ℕ) (work : List ℕ) where
  abbrev whole : Ran
  whole = recorded (answer mode words literals message budget (length work)) (work_after mode words literals message work)

  -- a run that the checks have passed
  pub runs : check mode words literals (length message) (length work) ≡ passed → ran words literals message budget work ≡ whole
  runs e = ran_answers words literals message short mode budget work e

  -- a refusal, and the area as lent
  pub refuses : (why : Refusal) → check mode words literals (length message) (length work) ≡ Err why → recorded (refusal why) work ≡ whole
  unfolding answer work_after conclude left_after
  refuses why e = rw e
