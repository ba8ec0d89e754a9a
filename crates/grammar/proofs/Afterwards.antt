-- What the work area holds after an answer, word by word. Assumes nothing.
use Rattle.std.specs.Prelude.{Ok, Err}
use mathlib.Core.Path.{◌≡◌, refl}
use mathlib.Core.List.{List, [], ◌∷◌, ◌++◌}
use Prim.Native.Nat.{ℕ, zero, suc, ◌<◌, ◌≤◌}
use native.Mathlib.Omega.{arith}
use lib.Dec.{leb}
use lib.ListN.{get_or, length, drop, replicate}
use borrow.Author.Tests.{leb-true}
use Rattle.grammar.specs.declared.Mode.{Mode}
use Rattle.grammar.specs.declared.Refusal.TheVariants.{Long, Work}
use Rattle.grammar.specs.Form.{Verdict, passed}
use Rattle.grammar.specs.Form.{unless_ok}
use Rattle.grammar.specs.Answer.{work_words, check_for, check, zeroed, left_after, work_after}
use Rattle.grammar.proofs.Facts.{Refused, followed_by_passed, unless_ok_passed}

-- the first n words are zero, and the others as they were
front_zero : (n : ℕ) (rest : List ℕ) (i other : ℕ) → i < n → get_or (replicate n 0 ++ rest) i other ≡ 0
front_zero zero rest i other h = absurd (omega arith)
front_zero (suc n) rest zero other h = refl
front_zero (suc n) rest (suc i) other h = front_zero n rest i other (omega arith)

others_stay : (n : ℕ) (work : List ℕ) (i other : ℕ) → n ≤ i → n ≤ length work → get_or (replicate n 0 ++ drop n work) i other ≡ get_or work i other
others_stay zero work i other h l = refl
others_stay (suc n) work zero other h l = absurd (omega arith)
others_stay (suc n) [] (suc i) other h l = absurd (omega arith)
others_stay (suc n) (w ∷ work) (suc i) other h l = others_stay n work i other (omega arith) (omega arith)

-- 'A run (0, 8 to 12) leaves the first W words zero and the others untouched'
pub record LeftByRun (before after : List ℕ) : Type 0 where
  pub zero_words : (i other : ℕ) → i < work_words → get_or after i other ≡ 0
  pub untouched : (i other : ℕ) → work_words ≤ i → get_or after i other ≡ get_or before i other

module _ (mode : Mode) (words literals message work : List ℕ) where
  -- WORK has passed
  long_enough : check mode words literals (length message) (length work) ≡ passed → work_words ≤ length work
  unfolding check
  long_enough e =
      let limits = (followed_by_passed (check_for mode words literals) _ e).1 in
      leb-true work_words (length work) (unless_ok_passed (leb work_words (length work)) Work (followed_by_passed (unless_ok (leb (length message) 65535) Long) _ limits).1)

  pub run_leaves : check mode words literals (length message) (length work) ≡ passed → LeftByRun work (work_after mode words literals message work)
  unfolding work_after left_after zeroed
  run_leaves e = rw e (record {
    zero_words = λ i other h. front_zero work_words (drop work_words work) i other h;
    untouched = λ i other h. others_stay work_words work i other h (long_enough e);
  })

  -- 'Answers 1 to 7 change no memory'
  pub refusal_leaves : Refused (check mode words literals (length message) (length work)) → work_after mode words literals message work ≡ work
  unfolding work_after left_after
  refusal_leaves = by (check mode words literals (length message) (length work))
    where
      by : (v : Verdict) → Refused v → left_after v work ≡ work
      by (Ok _) h = absurd h
      by (Err why) h = refl
