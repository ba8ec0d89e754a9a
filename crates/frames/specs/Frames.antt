-- The work area, word by word. Words 0 to 31 are the sixteen slots in use, two words a slot. Then 256 frames of 38 words, frame d from word 32 + 38 d on:
-- the node visited; its phase (0 in its first part); from, the position it began at; three spare words; and the sixteen slots it began with.
-- A read past the end gives 0, a write past the end does nothing. Assumes nothing.
use Rattle.std.specs.Prelude.{List, cond, ◌≡◌, ℕ, zero, suc, ◌+◌, ◌*◌, ◌%◌, ◌<◌, ltb, get_or, set, take}
use Rattle.grammar.specs.declared.Value.{Value}
use Rattle.values.specs.Slots.{slots_of, with_slot}

-- where frame d starts
abbrev pub base : ℕ → ℕ
base d = 32 + 38 * d

-- n words from `from` to `to`, one after the other
unfoldable pub copied : List ℕ → (from to n : ℕ) → List ℕ
copied w from to zero = w
copied w from to (suc n) = set (copied w from to n) (to + n) (get_or (copied w from to n) (from + n) 0)

-- the 32 words of sixteen slots, from `from` on
pub record Taken (w : List ℕ) (from : ℕ) (slots : List ℕ) : Type 0 where
  pub at : (i : ℕ) → i < 32 → get_or slots i 0 ≡ get_or w (from + i) 0

-- n words of a list, from `to` on
unfoldable pub stored : List ℕ → (to : ℕ) → List ℕ → ℕ → List ℕ
stored w to slots zero = w
stored w to slots (suc n) = set (stored w to slots n) (to + n) (get_or slots n 0)

-- the first n words are zero
unfoldable pub cleared : List ℕ → ℕ → List ℕ
cleared w zero = w
cleared w (suc n) = set (cleared w n) n 0

-- ════ The slots in use ════

unfoldable pub slots_in : List ℕ → List Value
slots_in w = slots_of (take 32 w)

-- slot s takes a value; 'A rule has 16 attribute slots': there is no other to write
unfoldable pub written : List ℕ → ℕ → Value → List ℕ
written w s v = cond (ltb s 16) (with_slot w s v) w

-- all slots unset: the two words of Absent are zero
unfoldable pub unset : List ℕ → List ℕ
unset w = cleared w 32

-- ════ Frames ════

-- what stands in frame d. A node's number and a position are 16-bit numbers, whatever stands there
unfoldable pub node_in : List ℕ → ℕ → ℕ
node_in w d = get_or w (base d) 0 % 65536

unfoldable pub phase_in : List ℕ → ℕ → ℕ
phase_in w d = get_or w (base d + 1) 0

unfoldable pub from_in : List ℕ → ℕ → ℕ
from_in w d = get_or w (base d + 2) 0 % 65536

-- the node of frame d begins, or begins its next round, at a position, with the slots in use
unfoldable pub saved : List ℕ → (d at : ℕ) → List ℕ
saved w d at = copied (set w (base d + 2) at) 0 (base d + 6) 32

-- frame d for node k, in its first part
unfoldable pub pushed : List ℕ → (d k at : ℕ) → List ℕ
pushed w d k at = saved (set (set w (base d) k) (base d + 1) 0) d at

-- the node of frame d is in its second part
unfoldable pub in_second : List ℕ → ℕ → List ℕ
in_second w d = set w (base d + 1) 1

-- the slots in use are again those that frame d's node began with
unfoldable pub restored : List ℕ → ℕ → List ℕ
restored w d = copied w (base d + 6) 0 32
