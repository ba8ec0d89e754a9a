-- Document 01's number, place and lengths for each answer of reader and writer. Assumes nothing.
use Rattle.std.specs.Prelude.{ℕ, Ok, Err}
use Rattle.grammar.specs.Numbers.{DONE, SIZE}
use Rattle.listing.specs.declared.Unread.TheVariants.{Line, Room}
use Rattle.listing.specs.declared.Unwritten.TheVariants.{Size, Out}
use Rattle.listing.specs.Reading.{Reading}
use Rattle.listing.specs.Writing.{Writing}
use Rattle.listing.specs.Numbers.{LINE, ROOM, OUT}

unfoldable pub reading_number : Reading → ℕ
reading_number (Ok lengths) = DONE
reading_number (Err (Line n)) = LINE
reading_number (Err Room) = ROOM

unfoldable pub reading_place : Reading → ℕ
reading_place (Ok lengths) = 0
reading_place (Err (Line n)) = n
reading_place (Err Room) = 0

-- 'success tells the lengths': of words and literals that were filled
unfoldable pub reading_words : Reading → ℕ
reading_words (Ok lengths) = lengths.words
reading_words (Err (Line n)) = 0
reading_words (Err Room) = 0

unfoldable pub reading_literals : Reading → ℕ
reading_literals (Ok lengths) = lengths.literals
reading_literals (Err (Line n)) = 0
reading_literals (Err Room) = 0

unfoldable pub writing_number : Writing → ℕ
writing_number (Ok bytes) = DONE
writing_number (Err Size) = SIZE
writing_number (Err Out) = OUT

unfoldable pub writing_place : Writing → ℕ
writing_place (Ok bytes) = 0
writing_place (Err Size) = 0
writing_place (Err Out) = 0

-- 'success tells the lengths': of the text that was filled
unfoldable pub writing_length : Writing → ℕ
writing_length (Ok bytes) = bytes
writing_length (Err Size) = 0
writing_length (Err Out) = 0
