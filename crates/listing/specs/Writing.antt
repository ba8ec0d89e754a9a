-- What the writer answers, and what the text's slice holds then (document 01, 'Listing and console'). Assumes nothing.
use Rattle.std.specs.Prelude.{Result, Ok, Err, List, cond, ℕ, leb, length}
use Rattle.laws.specs.Stores.{over}
use Rattle.grammar.specs.Form.{size_ok}
use Rattle.listing.specs.declared.Unwritten.{Unwritten}
use Rattle.listing.specs.declared.Unwritten.TheVariants.{Size, Out}
use Rattle.listing.specs.Listing.{listing}

-- what the writer answers: how many bytes it wrote, or the refusal
abbrev pub Writing : Type 0
Writing = Result ℕ Unwritten

pub record Written : Type 0 where
  pub answer : Writing
  pub text : List ℕ

abbrev pub written : Writing → List ℕ → Written
written answer text = record { answer = answer; text = text }

-- 'the writer refuses SIZE, then OUT, and fills just the text. A refusal writes nothing; success tells the lengths'
unfoldable pub write : (words literals text : List ℕ) → Written
write words literals text =
    cond (size_ok words (length literals))
    (cond (leb (length (listing words literals)) (length text))
    (written (Ok (length (listing words literals))) (over (listing words literals) text))
    (written (Err Out) text))
    (written (Err Size) text)
