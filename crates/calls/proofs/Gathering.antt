-- Four expressions, one after the other as far as they count, give what the list of those that count gives. Assumes nothing.
use mathlib.Core.Path.{◌≡◌, refl, sym, ◌∙◌}
use mathlib.Core.List.{List, [], ◌∷◌, map}
use mathlib.Core.Logic.{⊎_elim}
use Prim.Native.Nat.{ℕ, zero, suc, ◌+◌, ◌-◌, ◌≤◌, ◌<◌}
use native.Mathlib.Nat.{eq-or-lt_of_le}
use native.Mathlib.Omega.{arith}
use borrow.Author.Tests.{lt-ltb, le-ltb}
use lib.Seq.{take-nil}
use lib.ListN.{take, set, length, get_or}
use Rattle.std.specs.Prelude.{Result, Ok, Err, cond, ltb}
use Rattle.grammar.specs.declared.Ended.{Ended}
use Rattle.grammar.specs.declared.Value.{Value}
use Rattle.grammar.specs.declared.Value.TheVariants as Val
use Rattle.grammar.specs.Tree.{Expr}
use Rattle.grammar.specs.Values.{Evaluated, value, ends, after}
use Rattle.grammar.specs.Run.{Setting, Slots, eval, eval_all}
use Rattle.expressions.specs.Meant.{meant}
use Rattle.calls.specs.Calls.{given_by}

abbrev pub Gathered : Type 0
Gathered = Result (List Value) Ended

abbrev pub no_values : List Value
no_values = Val.Absent ∷ Val.Absent ∷ Val.Absent ∷ Val.Absent ∷ []

-- one more value, at place i
unfoldable pub with_next : List Value → ℕ → Evaluated Value → Gathered
with_next vs i (value v) = Ok (set vs i v)
with_next vs i (ends why j) = Err (record { why = why; node = j })

-- expression i of n is the next: once the run has ended, it stays so
unfoldable pub added : Gathered → (i n : ℕ) → Evaluated Value → Gathered
added (Ok vs) i n e = cond (ltb i n) (with_next vs i e) (Ok vs)
added (Err e) i n _ = Err e

abbrev added_four : ℕ → (a b c d : Evaluated Value) → Gathered
added_four n a b c d = added (added (added (added (Ok no_values) 0 n a) 1 n b) 2 n c) 3 n d

-- the list of the results, up to the first end
abbrev and_then : Evaluated Value → Evaluated (List Value) → Evaluated (List Value)
and_then e rest = after e (λ v. after rest (λ vs. value (v ∷ vs)))

one : (a b c d : Evaluated Value) → added_four 1 a b c d ≡ given_by (and_then a (value []))
unfolding added with_next given_by
one (value v) b c d = refl
one (ends why j) b c d = refl

two : (a b c d : Evaluated Value) → added_four 2 a b c d ≡ given_by (and_then a (and_then b (value [])))
unfolding added with_next given_by
two (value v) (value x) c d = refl
two (value v) (ends why j) c d = refl
two (ends why j) b c d = refl

three : (a b c d : Evaluated Value) → added_four 3 a b c d ≡ given_by (and_then a (and_then b (and_then c (value []))))
unfolding added with_next given_by
three (value v) (value x) (value y) d = refl
three (value v) (value x) (ends why j) d = refl
three (value v) (ends why j) c d = refl
three (ends why j) b c d = refl

all : (a b c d : Evaluated Value) → added_four 4 a b c d ≡ given_by (and_then a (and_then b (and_then c (and_then d (value [])))))
unfolding added with_next given_by
all (value v) (value x) (value y) (value z) = refl
all (value v) (value x) (value y) (ends why j) = refl
all (value v) (value x) (ends why j) d = refl
all (value v) (ends why j) c d = refl
all (ends why j) b c d = refl

-- there are no more than four
enough : (g : Gathered) (i n : ℕ) (e : Evaluated Value) → i < n → i < 4 → added g i n e ≡ added g i 4 e
unfolding added
enough (Ok f) i n e h k = rw (lt-ltb i n h, lt-ltb i 4 k)
enough (Err _) i n e h k = refl

more : (n : ℕ) (a b c d : Evaluated Value) → 4 ≤ n → added_four n a b c d ≡ added_four 4 a b c d
more n a b c d h =
    let one : Gathered = added (Ok no_values) 0 n a in
    let two : Gathered = added one 1 n b in
    let three : Gathered = added two 2 n c in
    cc (
      enough (Ok no_values) 0 n a (omega arith) (omega arith),
      enough one 1 n b (omega arith) (omega arith),
      enough two 2 n c (omega arith) (omega arith),
      enough three 3 n d (omega arith) (omega arith),
    )

module _ (S : Setting) (slots : Slots) (expr : ℕ → Expr) (n : ℕ) where
  abbrev given_at : ℕ → Evaluated Value
  given_at k = eval S slots (expr k)

  -- all four, in a list
  abbrev whole : (nodes : List ℕ) → Gathered
  whole nodes = given_by (eval_all S slots (map expr (take n nodes)))

  added_whole : (m a b c d : ℕ) → n ≡ m → added_four m (given_at a) (given_at b) (given_at c) (given_at d) ≡ whole (a ∷ b ∷ c ∷ d ∷ [])
  unfolding added given_by eval_all
  added_whole zero a b c d e = rw e
  added_whole (suc zero) a b c d e = rw e (one _ _ _ _)
  added_whole (suc (suc zero)) a b c d e = rw e (two _ _ _ _)
  added_whole (suc (suc (suc zero))) a b c d e = rw e (three _ _ _ _)
  added_whole (suc (suc (suc (suc m)))) a b c d e =
      rw e (more (suc (suc (suc (suc m)))) _ _ _ _ (omega arith) ∙ rw (take-nil {A = ℕ} m) (all _ _ _ _))

  -- what the first i of them give, as far as they are under n
  unfoldable pub first : (nodes : List ℕ) → ℕ → Gathered
  first nodes zero = Ok no_values
  first nodes (suc i) = added (first nodes i) i n (given_at (get_or nodes i 0))

  next : (nodes : List ℕ) (i : ℕ) → first nodes (i + 1) ≡ added (first nodes i) i n (given_at (get_or nodes i 0))
  unfolding first
  next nodes i = let e : i + 1 ≡ suc i = omega arith in rw e

  first_whole : (nodes : List ℕ) → length nodes ≡ 4 → first nodes 4 ≡ whole nodes
  unfolding first
  first_whole [] h = absurd (omega arith)
  first_whole (a ∷ []) h = absurd (omega arith)
  first_whole (a ∷ b ∷ []) h = absurd (omega arith)
  first_whole (a ∷ b ∷ c ∷ []) h = absurd (omega arith)
  first_whole (a ∷ b ∷ c ∷ d ∷ []) h = added_whole n a b c d refl
  first_whole (a ∷ b ∷ c ∷ d ∷ e ∷ more) h = absurd (omega arith)

  -- an end stays, and those past n add nothing: up to number j
  stays : (nodes : List ℕ) (i m : ℕ) (e : Ended) → first nodes i ≡ Err e → {j : ℕ} → j ≡ i + m → first nodes j ≡ Err e
  unfolding added
  stays nodes i zero e p {j} at = let here : j ≡ i = omega arith in rw (here, p)
  stays nodes i (suc m) e p {j} at = let up : j ≡ i + m + 1 = omega arith in rw (up, next nodes (i + m), stays nodes i m e p refl)

  past : (nodes : List ℕ) (i m : ℕ) (vs : List Value) → n ≤ i → first nodes i ≡ Ok vs → {j : ℕ} → j ≡ i + m → first nodes j ≡ Ok vs
  unfolding added
  past nodes i zero vs h p {j} at = let here : j ≡ i = omega arith in rw (here, p)
  past nodes i (suc m) vs h p {j} at =
      let up : j ≡ i + m + 1 = omega arith in
      rw (up, next nodes (i + m), past nodes i m vs h p refl, le-ltb (i + m) n (omega arith))

  module _ (nodes : List ℕ) where
    -- the first i of them have given these values
    abbrev pub Gathers : ℕ → List Value → Type 0
    Gathers i vs = first nodes i ≡ Ok vs

    pub none_yet : Gathers 0 no_values
    unfolding first
    none_yet = refl

    module _ (i : ℕ) (vs : List Value) (so_far : first nodes i ≡ Ok vs) where
      pub one_more : {r : Result Value Ended} (v : Value) → i < n → meant r ≡ given_at (get_or nodes i 0) → r ≡ Ok v → Gathers (i + 1) (set vs i v)
      unfolding added with_next meant
      one_more v h same is = rw (next nodes i, so_far, lt-ltb i n h, ← same, is)

      -- to the last
      pub all_given : i ≤ 4 → (i < 4 → n ≤ i) → length nodes ≡ 4 → Ok vs ≡ whole nodes
      all_given few done long = last ∙ first_whole nodes long
        where
          last : Ok vs ≡ first nodes 4
          last = ⊎_elim (λ (g : i ≡ 4). rw (← g, so_far)) (λ (l : i < 4). sym (past nodes i (4 - i) vs (done l) so_far (omega arith))) (eq-or-lt_of_le few)

      -- or to one that ends the run
      pub end_given : {r : Result Value Ended} (e : Ended) → i < 4 → i < n → length nodes ≡ 4 → meant r ≡ given_at (get_or nodes i 0) → r ≡ Err e → Err e ≡ whole nodes
      unfolding added with_next meant
      end_given e few h long same is =
          let ended : first nodes (i + 1) ≡ Err e = rw (next nodes i, so_far, lt-ltb i n h, ← same, is) in
          sym (stays nodes (i + 1) (3 - i) e ended (omega arith)) ∙ first_whole nodes long
