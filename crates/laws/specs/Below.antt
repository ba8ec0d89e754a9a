-- Numbers that are all below a bound: bytes below 256, words below 65536. Assumes nothing.
use Rattle.std.specs.Prelude.{List, [], ◌∷◌, ◌++◌, ℕ, zero, suc, ◌<◌, take, drop}

-- each number of the list is below m
abbrev pub AllBelow : ℕ → List ℕ → Type 0
AllBelow m [] = Unit {0}
AllBelow m (n ∷ ns) = (n < m) × AllBelow m ns

pub below_take : (m k : ℕ) (ns : List ℕ) → AllBelow m ns → AllBelow m (take k ns)
below_take m zero ns h = tt
below_take m (suc k) [] h = tt
below_take m (suc k) (n ∷ ns) h = (h.0, below_take m k ns h.1)

pub below_drop : (m k : ℕ) (ns : List ℕ) → AllBelow m ns → AllBelow m (drop k ns)
below_drop m zero ns h = h
below_drop m (suc k) [] h = tt
below_drop m (suc k) (n ∷ ns) h = below_drop m k ns h.1

pub below_append : (m : ℕ) (a b : List ℕ) → AllBelow m a → AllBelow m b → AllBelow m (a ++ b)
below_append m [] b h g = g
below_append m (n ∷ a) b h g = (h.0, below_append m a b h.1 g)
