-- Types and their numbers. Assumes nothing.
use mathlib.Core.Path.{◌≡◌, refl, sym}
use mathlib.Core.Logic.{⊎_elim}
use Prim.Native.Nat.{ℕ, ◌<◌}
use native.Mathlib.Omega.{arith}
use Rattle.std.specs.Prelude.{Result, Ok, Err, IsOk}
use Rattle.std.specs.Result.{result_ok}
use Rattle.typing.specs.declared.value_type.NoType.{NoType}
use Rattle.typing.specs.declared.value_type.ValueType.{ValueType}
use Rattle.typing.specs.declared.value_type.ValueType.TheVariants as Is
use Rattle.typing.specs.Types.{number, number_if_any, Decodes}

pub small : (t : ValueType) → number t < 4
small Is.Bool = omega arith
small Is.Integer = omega arith
small Is.Text = omega arith

pub positive : (t : ValueType) → 0 < number t
positive Is.Bool = omega arith
positive Is.Integer = omega arith
positive Is.Text = omega arith

-- a number below 4 is a type's or stands for none
pub if_any : {n : ℕ} (r : Result ValueType NoType) → Decodes n r → n < 4 → number_if_any (result_ok r) ≡ n
if_any (Ok t) d h = d
if_any (Err e) d h = ⊎_elim (λ z. sym z) (λ l. absurd (omega arith)) d.1

pub is_type : {n : ℕ} (r : Result ValueType NoType) → Decodes n r → 0 < n → n < 4 → IsOk r
is_type (Ok t) d h i = refl
is_type (Err e) d h i = absurd (⊎_elim (λ z. omega arith) (λ l. omega arith) d.1)

pub type_is : {n : ℕ} {r : Result ValueType NoType} {t : ValueType} → Decodes n r → r ≡ Ok t → number t ≡ n
type_is {n} d e = rw e at d
