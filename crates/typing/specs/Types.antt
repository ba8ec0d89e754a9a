-- Types, as code has them, and their numbers in a table. Assumes nothing.
use Rattle.std.specs.Prelude.{◌≡◌, ℕ, ◌<◌, ◌⊎◌, Option as Optional, None, Some, Result, MatchResult}
use Rattle.typing.specs.declared.value_type.NoType.{NoType}
use Rattle.typing.specs.declared.value_type.ValueType.{ValueType}
use Rattle.typing.specs.declared.value_type.ValueType.TheVariants as Is

-- 'Types: 1 Bool, 2 Integer, 3 Text'
abbrev pub number : ValueType → ℕ
number Is.Bool = 1
number Is.Integer = 2
number Is.Text = 3

-- 0 where there is none
abbrev pub number_if_any : Optional ValueType → ℕ
number_if_any None = 0
number_if_any (Some t) = number t

-- the result is the type with this number, or an error with a number that no type has
abbrev pub Decodes : ℕ → Result ValueType NoType → Type 0
Decodes n r = MatchResult r (λ t. number t ≡ n) (λ e. (e.0 ≡ n) × ((n ≡ 0) ⊎ (3 < n)))
