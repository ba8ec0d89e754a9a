-- Up to four places, one after the other: arguments and returned nodes with their types, receiving slots, and the slots that a rule starts with. Assumes nothing.
use mathlib.Core.Path.{◌≡◌, refl, sym, ◌∙◌}
use mathlib.Core.Bool.{Bool, true, false, ◌&&◌}
use mathlib.Core.Option.{Option, some, none}
use mathlib.Core.List.{List, [], ◌∷◌, map}
use Prim.Native.Nat.{ℕ, zero, suc, ◌+◌, ◌<◌, ◌≤◌}
use native.Mathlib.Omega.{arith}
use lib.ListN.{get_or, set, drop}
use Rattle.grammar.specs.Words.{node_word, rule_word}
use Rattle.grammar.specs.Tree.{Expr, four}
use Rattle.grammar.specs.Types.{Env, and_then, has, have_all, assign, assign_all, start_env}

-- the arguments of the call k and its receiving slots; what rule r inherits, its returned nodes and their types
abbrev pub argument : (words : List ℕ) (k : ℕ) → ℕ → ℕ
argument words k i = node_word words k (2 + i)

abbrev pub receiving : (words : List ℕ) (k : ℕ) → ℕ → ℕ
receiving words k i = node_word words k (6 + i)

abbrev pub inherited : (words : List ℕ) (r : ℕ) → ℕ → ℕ
inherited words r i = rule_word words r (2 + i)

abbrev pub returned : (words : List ℕ) (r : ℕ) → ℕ → ℕ
returned words r i = rule_word words r (7 + i)

abbrev pub returned_type : (words : List ℕ) (r : ℕ) → ℕ → ℕ
returned_type words r i = rule_word words r (11 + i)

-- the places, of which n are in use
abbrev pub places : (ℕ → ℕ) → ℕ → List ℕ
places f n = four n (f 0) (f 1) (f 2) (f 3)

module _ {A : Type 0} (part : ℕ → A) (f : ℕ → ℕ) where
  next_part : (n i : ℕ) → i < n → n ≤ 4 → drop i (map part (places f n)) ≡ part (f i) ∷ drop (i + 1) (map part (places f n))
  next_part (suc n) zero h few = refl
  next_part (suc (suc n)) (suc zero) h few = refl
  next_part (suc (suc (suc n))) (suc (suc zero)) h few = refl
  next_part (suc (suc (suc (suc n)))) (suc (suc (suc zero))) h few = refl
  next_part n (suc (suc (suc (suc i)))) h few = absurd (omega arith)
  next_part zero i h few = absurd (omega arith)
  next_part (suc zero) (suc i) h few = absurd (omega arith)
  next_part (suc (suc zero)) (suc (suc i)) h few = absurd (omega arith)
  next_part (suc (suc (suc zero))) (suc (suc (suc i))) h few = absurd (omega arith)

  no_part : (n : ℕ) → n ≤ 4 → drop n (map part (places f n)) ≡ []
  no_part zero few = refl
  no_part (suc zero) few = refl
  no_part (suc (suc zero)) few = refl
  no_part (suc (suc (suc zero))) few = refl
  no_part (suc (suc (suc (suc zero)))) few = refl
  no_part (suc (suc (suc (suc (suc n))))) few = absurd (omega arith)

module _ (f : ℕ → ℕ) where
  next : (n i : ℕ) → i < n → n ≤ 4 → drop i (places f n) ≡ f i ∷ drop (i + 1) (places f n)
  next (suc n) zero h few = refl
  next (suc (suc n)) (suc zero) h few = refl
  next (suc (suc (suc n))) (suc (suc zero)) h few = refl
  next (suc (suc (suc (suc n)))) (suc (suc (suc zero))) h few = refl
  next n (suc (suc (suc (suc i)))) h few = absurd (omega arith)
  next zero i h few = absurd (omega arith)
  next (suc zero) (suc i) h few = absurd (omega arith)
  next (suc (suc zero)) (suc (suc i)) h few = absurd (omega arith)
  next (suc (suc (suc zero))) (suc (suc (suc i))) h few = absurd (omega arith)

  no_more : (n : ℕ) → n ≤ 4 → drop n (places f n) ≡ []
  no_more zero few = refl
  no_more (suc zero) few = refl
  no_more (suc (suc zero)) few = refl
  no_more (suc (suc (suc zero))) few = refl
  no_more (suc (suc (suc (suc zero)))) few = refl
  no_more (suc (suc (suc (suc (suc n))))) few = absurd (omega arith)

pub place : (f : ℕ → ℕ) (i : ℕ) → i < 4 → get_or (f 0 ∷ f 1 ∷ f 2 ∷ f 3 ∷ []) i 0 ≡ f i
place f zero h = refl
place f (suc zero) h = refl
place f (suc (suc zero)) h = refl
place f (suc (suc (suc zero))) h = refl
place f (suc (suc (suc (suc i)))) h = absurd (omega arith)

-- ════ Nodes with their types ════

module _ (part : ℕ → Expr) (env : Env) (f g : ℕ → ℕ) (n : ℕ) where
  -- the places from i on
  abbrev pub typed_from : ℕ → Bool
  typed_from i = have_all env (drop i (map part (places f n))) (drop i (places g n))

  module _ (few : n ≤ 4) where
    typed_next : (i : ℕ) → i < n → typed_from i ≡ (has env (part (f i)) (g i) && typed_from (i + 1))
    unfolding have_all
    typed_next i h = rw (next_part part f n i h few, next g n i h few) refl

    pub untyped_here : (i : ℕ) → i < n → has env (part (f i)) (g i) ≡ false → typed_from i ≡ false
    untyped_here i h e = typed_next i h ∙ rw e refl

    pub typed_here : (i : ℕ) → i < n → has env (part (f i)) (g i) ≡ true → typed_from (i + 1) ≡ typed_from i
    typed_here i h e = sym (typed_next i h ∙ rw e refl)

    pub all_typed : {i : ℕ} → i ≡ n → true ≡ typed_from i
    unfolding have_all
    all_typed e = rw (e, no_part part f n few, no_more g n few) refl

-- ════ Receiving slots ════

module _ (f g : ℕ → ℕ) (n : ℕ) where
  -- the places from i on
  abbrev pub received_from : Env → ℕ → Option Env
  received_from env i = assign_all env (drop i (places f n)) (drop i (places g n))

  module _ (few : n ≤ 4) where
    received_next : (env : Env) (i : ℕ) → i < n → received_from env i ≡ and_then (assign env (f i) (g i)) (λ later. received_from later (i + 1))
    unfolding assign_all
    received_next env i h = rw (next f n i h few, next g n i h few) refl

    pub broken_here : (env : Env) (i : ℕ) → i < n → assign env (f i) (g i) ≡ none → received_from env i ≡ none
    broken_here env i h e = received_next env i h ∙ rw e refl

    pub received_here : (env : Env) {later : Env} (i : ℕ) → i < n → assign env (f i) (g i) ≡ some later → received_from later (i + 1) ≡ received_from env i
    received_here env i h e = sym (received_next env i h ∙ rw e refl)

    pub all_received : (env : Env) {i : ℕ} → i ≡ n → some env ≡ received_from env i
    unfolding assign_all
    all_received env e = rw (e, no_more f n few) refl

-- ════ The slots that a rule starts with ════

module _ (f : ℕ → ℕ) where
  pub start_next : (i : ℕ) → i < 4 → set (start_env (places f i)) i (f i) ≡ start_env (places f (i + 1))
  start_next zero h = refl
  start_next (suc zero) h = refl
  start_next (suc (suc zero)) h = refl
  start_next (suc (suc (suc zero))) h = refl
  start_next (suc (suc (suc (suc i)))) h = absurd (omega arith)

  pub start_unset : (i : ℕ) → i < 4 → get_or (start_env (places f i)) i 0 ≡ 0
  start_unset zero h = refl
  start_unset (suc zero) h = refl
  start_unset (suc (suc zero)) h = refl
  start_unset (suc (suc (suc zero))) h = refl
  start_unset (suc (suc (suc (suc i)))) h = absurd (omega arith)
