-- The types of slots in one number: reading a slot, setting one that is unset, and comparing all. Assumes nothing.
use mathlib.Core.Path.{◌≡◌, refl, sym, ap, ◌∙◌}
use mathlib.Core.Bool.{Bool, true, false, ◌&&◌, ◌||◌}
use mathlib.Core.Option.{none, some}
use mathlib.Core.List.{List, ◌∷◌}
use Prim.Native.Nat.{ℕ, zero, suc, ◌+◌, ◌*◌, ◌/◌, ◌%◌, ◌^◌, ◌<◌, ◌≤◌}
use native.Mathlib.Nat.{mul_left_comm}
use native.Mathlib.Omega.{arith}
use lib.Dec.{eqb}
use lib.Pow.{shr-shr, pow-add, shl_exact}
use lib.ListN.{get_or, set, length, get_or-eq_default}
use lib.Seq.{set-get_or, set_out}
use borrow.Author.Tests.{eq-eqb, ne_eqb, eqb-true, eqb-false}
use Rattle.laws.specs.Same.{same}
use Rattle.grammar.specs.Types.{assign}
use Rattle.typing.specs.declared.slots.Slots.{Slots}
use Rattle.typing.specs.Slots.{slot_types, types_in}

-- a slot further is two bits further
further : (s : ℕ) → 2 ^ (2 * suc s) ≡ 4 * 2 ^ (2 * s)
further s = let e : 2 * suc s ≡ 2 + 2 * s = omega arith in rw e (pow-add 2 2 (2 * s))

pub types_length : (k n : ℕ) → length (slot_types k n) ≡ k
unfolding slot_types
types_length zero n = refl
types_length (suc k) n = ap suc (types_length k (n / 4))

pub type_at : (k n s : ℕ) → s < k → n / 2 ^ (2 * s) % 4 ≡ get_or (slot_types k n) s 0
unfolding slot_types
type_at zero n s h = absurd (omega arith)
type_at (suc k) n zero h = omega arith
type_at (suc k) n (suc s) h =
    let e : 2 * suc s ≡ 2 + 2 * s = omega arith in
    rw e (ap (λ (x : ℕ). x % 4) (sym (shr-shr n 2 (2 * s))) ∙ type_at k (n / 4) s (omega arith))

or_true : (b : Bool) → (b || true) ≡ true
or_true true = refl
or_true false = refl

module _ (t : ℕ) (small : t < 4) where
  -- an unset slot takes a type
  pub types_set : (k n s : ℕ) → s < k → get_or (slot_types k n) s 0 ≡ 0 → slot_types k (n + t * 2 ^ (2 * s)) ≡ set (slot_types k n) s t
  unfolding slot_types
  types_set zero n s h unset = absurd (omega arith)
  types_set (suc k) n zero h unset =
      let first : (n + t * 1) % 4 ≡ t = omega arith in
      let rest : (n + t * 1) / 4 ≡ n / 4 = omega arith in
      rw (first, rest)
  types_set (suc k) n (suc s) h unset =
      let p : 2 ^ (2 * suc s) ≡ 4 * 2 ^ (2 * s) = further s in
      let q : t * (4 * 2 ^ (2 * s)) ≡ 4 * (t * 2 ^ (2 * s)) = mul_left_comm t 4 (2 ^ (2 * s)) in
      let first : (n + 4 * (t * 2 ^ (2 * s))) % 4 ≡ n % 4 = omega arith in
      let rest : (n + 4 * (t * 2 ^ (2 * s))) / 4 ≡ n / 4 + t * 2 ^ (2 * s) = omega arith in
      rw (p, q, first, rest) (ap (λ (l : List ℕ). n % 4 ∷ l) (types_set k (n / 4) s (omega arith) unset))

  -- and the number still has room
  pub types_room : (k n s : ℕ) → s < k → get_or (slot_types k n) s 0 ≡ 0 → n < 2 ^ (2 * k) → n + t * 2 ^ (2 * s) < 2 ^ (2 * k)
  unfolding slot_types
  types_room zero n s h unset fits = absurd (omega arith)
  types_room (suc k) n zero h unset fits = let p = further k in omega arith
  types_room (suc k) n (suc s) h unset fits =
      let p : 2 ^ (2 * suc s) ≡ 4 * 2 ^ (2 * s) = further s in
      let q : 2 ^ (2 * suc k) ≡ 4 * 2 ^ (2 * k) = further k in
      let r : n / 4 + t * 2 ^ (2 * s) < 2 ^ (2 * k) = types_room k (n / 4) s (omega arith) unset (omega arith) in
      rw (p, q, mul_left_comm t 4 (2 ^ (2 * s))) (omega arith)

split_eqb : (a b : ℕ) (x y : Bool) → eqb (a % 4) (b % 4) ≡ x → eqb (a / 4) (b / 4) ≡ y → (x && y) ≡ eqb a b
split_eqb a b true true e f =
    let p = eqb-true (a % 4) (b % 4) e in
    let q = eqb-true (a / 4) (b / 4) f in
    sym (eq-eqb a b (omega arith))
split_eqb a b true false e f = sym (ne_eqb a b (λ g. eqb-false (a / 4) (b / 4) f (ap (λ (x : ℕ). x / 4) g)))
split_eqb a b false true e f = sym (ne_eqb a b (λ g. eqb-false (a % 4) (b % 4) e (ap (λ (x : ℕ). x % 4) g)))
split_eqb a b false false e f = sym (ne_eqb a b (λ g. eqb-false (a % 4) (b % 4) e (ap (λ (x : ℕ). x % 4) g)))

-- all slots alike: one comparison
pub types_same : (k a b : ℕ) → a < 2 ^ (2 * k) → b < 2 ^ (2 * k) → same (slot_types k a) (slot_types k b) ≡ eqb a b
unfolding slot_types same
types_same zero a b h i = sym (eq-eqb a b (omega arith))
types_same (suc k) a b h i =
    let p = further k in
    rw (types_same k (a / 4) (b / 4) (omega arith) (omega arith)) (split_eqb a b (eqb (a % 4) (b % 4)) (eqb (a / 4) (b / 4)) refl refl)

-- a slot before the others
pub types_before : (k t n : ℕ) → t < 4 → slot_types (suc k) (t + 4 * n) ≡ t ∷ slot_types k n
unfolding slot_types
types_before k t n h =
    let first : (t + 4 * n) % 4 ≡ t = omega arith in
    let rest : (t + 4 * n) / 4 ≡ n = omega arith in
    rw (first, rest)

-- ════ Sixteen slots ════

-- its number fits the field
abbrev pub Fits : Slots → Type 0
Fits slots = slots.types < 2 ^ 32

pub same_slots : (a b : Slots) → Fits a → Fits b → eqb a.types b.types ≡ same (types_in a) (types_in b)
unfolding types_in
same_slots a b h i = sym (types_same 16 a.types b.types h i)

module _ (slots : Slots) (s : ℕ) where
  pub slot_in : s < 16 → slots.types / 2 ^ (2 * s) % 4 ≡ get_or (types_in slots) s 0
  unfolding types_in
  slot_in h = type_at 16 slots.types s h

  pub slot_past : 16 ≤ s → 0 ≡ get_or (types_in slots) s 0
  unfolding types_in
  slot_past h = sym (get_or-eq_default (slot_types 16 slots.types) 0 (let e = types_length 16 slots.types in omega arith))

  module _ (t : ℕ) where
    -- a slot that has the type already
    pub assign_same : t ≡ get_or (types_in slots) s 0 → some (types_in slots) ≡ assign (types_in slots) s t
    unfolding assign
    assign_same e =
        rw (e, eq-eqb (get_or (types_in slots) s 0) (get_or (types_in slots) s 0) refl, or_true (eqb (get_or (types_in slots) s 0) 0), set-get_or (types_in slots) s 0)

    pub assign_other : (get_or (types_in slots) s 0 ≡ 0 → ⊥) → (get_or (types_in slots) s 0 ≡ t → ⊥) → none ≡ assign (types_in slots) s t
    unfolding assign
    assign_other e f = rw (ne_eqb (get_or (types_in slots) s 0) 0 e, ne_eqb (get_or (types_in slots) s 0) t f)

    pub assign_unset : get_or (types_in slots) s 0 ≡ 0 → some (set (types_in slots) s t) ≡ assign (types_in slots) s t
    unfolding assign
    assign_unset e = rw (eq-eqb (get_or (types_in slots) s 0) 0 e)

    pub set_in : t < 4 → get_or (types_in slots) s 0 ≡ 0 → s < 16 → types_in (record { types = slots.types + t * 2 ^ (2 * s) }) ≡ set (types_in slots) s t
    unfolding types_in
    set_in small unset h = types_set t small 16 slots.types s h unset

    pub set_past : 16 ≤ s → types_in slots ≡ set (types_in slots) s t
    unfolding types_in
    set_past h = sym (set_out (slot_types 16 slots.types) s t (let e = types_length 16 slots.types in omega arith))

    pub set_fits : t < 4 → get_or (types_in slots) s 0 ≡ 0 → s < 16 → Fits slots → slots.types + t * 2 ^ (2 * s) < 2 ^ 32
    unfolding types_in
    set_fits small unset h fits = types_room t small 16 slots.types s h unset fits

-- a type, shifted to its slot
pub shifted : (t s : ℕ) → t < 4 → s < 16 → (t * 2 ^ (2 * s)) % 2 ^ 32 ≡ t * 2 ^ (2 * s)
shifted t s small h = shl_exact 2 (2 * s) 32 small (omega arith)
