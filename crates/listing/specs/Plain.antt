-- The plain meaning of reading, beside the line by line one of Reading.antt: which texts are accepted, when ROOM comes, and which line is told of any
-- other text. proofs/Exactly.antt proves all of it. Assumes nothing.
use Rattle.std.specs.Prelude.{Err, ◌≡◌, ◌≢◌, ◌↔◌, ◌⊎◌, List, [], ◌∷◌, true, cond, ℕ, zero, suc, ◌+◌, ◌≤◌, ◌<◌, eqb, length, drop}
use Rattle.laws.specs.Below.{AllBelow}
use Rattle.grammar.specs.Form.{size_ok}
use Rattle.listing.specs.declared.Unread.TheVariants.{Line, Room}
use Rattle.listing.specs.Listing.{listing}
use Rattle.listing.specs.Reading.{Filled, filled, fill, read_from}

-- ════ Listings ════

-- a table of right size, which is 16-bit words and bytes
pub record Table (words literals : List ℕ) : Type 0 where
  pub size : size_ok words (length literals) ≡ true
  pub words_fit : AllBelow 65536 words
  pub literals_fit : AllBelow 256 literals

-- the text from a place on is the table's listing, and the two slices have room for the table
pub record Listed (text : List ℕ) (at : ℕ) (words literals table_words table_literals : List ℕ) : Type 0 where
  pub table : Table table_words table_literals
  pub is : drop at text ≡ listing table_words table_literals
  pub word_room : length table_words ≤ length words
  pub literal_room : length table_literals ≤ length literals

-- a text is accepted exactly if it is the listing of a table of right size, given room
abbrev pub AcceptedExactly : Type 0
AcceptedExactly =
    (text : List ℕ) (at first : ℕ) (words literals table_words table_literals : List ℕ)
    → (read_from text at first words literals ≡ fill table_words table_literals words literals) ↔ Listed text at words literals table_words table_literals

-- ════ The answer to any other text ════

-- the first n lines, each with the byte 10 that ends it; what follows the last byte 10 is a line too
unfoldable pub first_lines : ℕ → List ℕ → List ℕ
first_lines zero l = []
first_lines (suc n) [] = []
first_lines (suc n) (b ∷ l) = b ∷ cond (eqb b 10) (first_lines n l) (first_lines (suc n) l)

-- Line n + 1 is the first that no right text has there: some right text has the n lines before it, and none has these and then the same line. So a
-- line that is missing is wrong, and any after the last: 'Bytes past the last line count as one more line, which is wrong'
pub record FirstWrong (Right : List ℕ → Type 0) (text : List ℕ) (n : ℕ) : Type 0 where
  pub some_right : (t : List ℕ) × Right t × (first_lines n t ≡ first_lines n text)
  pub none_right : (t : List ℕ) → Right t → first_lines (suc n) t ≢ first_lines (suc n) text

-- 'Head values keep SIZE's ranges, else LINE': the right texts are the listings of tables of right size
pub record IsListing (text : List ℕ) : Type 0 where
  pub table_words : List ℕ
  pub table_literals : List ℕ
  pub table : Table table_words table_literals
  pub is : text ≡ listing table_words table_literals

-- 'reader's word or literal slice too short', 'judged after line 3': the first three lines are those of a table with more words or more literals
-- than the slices
pub record NoRoom (text words literals : List ℕ) : Type 0 where
  pub table_words : List ℕ
  pub table_literals : List ℕ
  pub table : Table table_words table_literals
  pub begins : first_lines 3 (listing table_words table_literals) ≡ first_lines 3 text
  pub longer : (length words < length table_words) ⊎ (length literals < length table_literals)

-- ROOM comes exactly there, and 'A refusal writes nothing'
abbrev pub RoomExactly : Type 0
RoomExactly =
    (text : List ℕ) (at first : ℕ) (words literals : List ℕ)
    → (read_from text at first words literals ≡ filled (Err Room) words literals) ↔ NoRoom (drop at text) words literals

-- 'listing line wrong or missing', 'its number, from 1' (`first`, in general). Where there is no room the first three lines are right (`after_third`
-- in proofs/Exactly.antt): so a wrong one among these is told whatever the slices are, and any after them given room
abbrev pub LineExactly : Type 0
LineExactly =
    (text : List ℕ) (at first n : ℕ) (words literals : List ℕ)
    → (read_from text at first words literals ≡ filled (Err (Line (first + n))) words literals)
    ↔ (FirstWrong IsListing (drop at text) n × (NoRoom (drop at text) words literals → ⊥))

-- one of the three comes, so that the three statements together leave no text out
pub data Judged (text : List ℕ) (at first : ℕ) (words literals : List ℕ) (result : Filled) : Type 0 where
  is_listed : (table_words table_literals : List ℕ) → Listed text at words literals table_words table_literals → result ≡ fill table_words table_literals words literals
      → Judged text at first words literals result
  has_no_room : NoRoom (drop at text) words literals → result ≡ filled (Err Room) words literals → Judged text at first words literals result
  is_wrong_at : (n : ℕ) → FirstWrong IsListing (drop at text) n → (NoRoom (drop at text) words literals → ⊥) → result ≡ filled (Err (Line (first + n))) words literals
      → Judged text at first words literals result
