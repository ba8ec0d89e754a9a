-- What a function does that stores into a lent slice from a place on. Assumes nothing.
-- A place is any number a program can have for one. Storing past the slice's end is no change, and a place never passes the largest: so a writer
-- run on an empty slice measures, and a reader run on an empty slice only judges.
use Rattle.std.specs.Prelude.{◌≡◌, List, ◌++◌, ℕ, ◌+◌, min, length}
use Rattle.std.proofs.lemmas.List.Edits.{sets}

abbrev pub largest_place : ℕ
largest_place = 18446744073709551615

-- the place n on from a place
abbrev pub place_after : ℕ → ℕ → ℕ
place_after at n = min (at + n) largest_place

-- a writer stored the items from place `at` on, those past the end left out, and answered the place after them
pub record Wrote {A : Type 0} (before : List A) (at : ℕ) (items : List A) (next : ℕ) (after : List A) : Type 0 where
  pub next_is : next ≡ place_after at (length items)
  pub stored : after ≡ sets before at items

-- what a reader takes off a text: numbers, and what it found in the end
pub record Taken (F : Type 0) : Type 0 where
  pub numbers : List ℕ
  pub found : F

abbrev pub taking : {F : Type 0} → List ℕ → F → Taken F
taking numbers found = record { numbers = numbers; found = found }

-- these numbers, and then those of t
abbrev pub also : {F : Type 0} → List ℕ → Taken F → Taken F
also numbers t = taking (numbers ++ t.numbers) t.found

-- a reader answered what t has found, and stored t's numbers from place `at` on, those past the end left out
pub record Took {F : Type 0} (t : Taken F) (before : List ℕ) (at : ℕ) (found : F) (after : List ℕ) : Type 0 where
  pub found_is : found ≡ t.found
  pub stored : after ≡ sets before at t.numbers
