-- Applying a node that passes the type rules is never STUCK. Where it matches, its slots have the types that the rules leave; where it fails,
-- those of its start. Assumes nothing.
use mathlib.Core.Path.{◌≡◌, refl, sym, ap, ◌∙◌}
use mathlib.Core.List.{List, [], ◌∷◌, map-append}
use mathlib.Core.Bool.{Bool, true, false, cond, ◌||◌}
use mathlib.Core.Option.{Option, none, some, some-injective}
use Prim.Native.Nat.{ℕ, zero, suc}
use native.Mathlib.Omega.{arith}
use lib.Dec.{ltb, eqb}
use lib.ListN.{get_or, set, replicate, length-map}
use borrow.Author.Tests.{ltb-true, eqb-true}
use Rattle.laws.specs.Tests.{never}
use Rattle.grammar.specs.declared.Ending.{Ending}
use Rattle.grammar.specs.declared.Ending.TheVariants.{Budget, Deep, Stuck, «Fault» as AtFault}
use Rattle.grammar.specs.declared.Value.{Value}
use Rattle.grammar.specs.declared.Value.TheVariants as Val
use Rattle.grammar.specs.Tree.{Parsing, empty, terminal, sequence, choice, repeat, unless, call, bind, update, constraint, Rule, Grammar, rule_of}
use Rattle.laws.specs.Same.{same, same_equal}
use Rattle.grammar.specs.Types.{Env, type_number, types_of, provided, and_then, expr_type, has, have_all, assign, assign_all, type_of, start_env, typed_after, typed_rule}
use Rattle.grammar.specs.Values.{Evaluated}
use Rattle.grammar.specs.Run.{Slots, Setting, Tally, counted, Applied, matched, failed, ended, out_of_fuel, next, giving_back, onward, with_value, judged, fresh, receive}
use Rattle.grammar.specs.Run.{message_part, byte_stands, Application, rounds, Due, fine, no_budget, too_deep, due, returning, visit, admit, apply}
use Rattle.grammar.proofs.Typed.{Goodly, good, faulty, eval_good, eval_all_good}

-- ════ What the small connectives of the type rules say ════

no_some : {A B : Type 0} {a : A} → none ≡ some a → B
no_some e = absurd (let z : ◌≡◌ {A = ℕ} 0 1 = cc in omega arith)

and_then_some : {A B : Type 0} (o : Option A) (f : A → Option B) {b : B} → and_then o f ≡ some b → (a : A) × (o ≡ some a) × (f a ≡ some b)
and_then_some none f e = no_some e
and_then_some (some a) f e = (a, refl, e)

provided_some : {A : Type 0} (b : Bool) (o : Option A) {a : A} → provided b o ≡ some a → (b ≡ true) × (o ≡ some a)
provided_some true o e = (refl, e)
provided_some false o e = no_some e

-- ════ Slots ════

types_set : (slots : Slots) (s : ℕ) (v : Value) → types_of (set slots s v) ≡ set (types_of slots) s (type_number v)
types_set [] s v = refl
types_set (x ∷ xs) zero v = refl
types_set (x ∷ xs) (suc s) v = ap {B = List ℕ} (λ r. type_number x ∷ r) (types_set xs s v)

types_absent : (n : ℕ) → types_of (replicate n Val.Absent) ≡ replicate n 0
types_absent zero = refl
types_absent (suc n) = ap {B = List ℕ} (λ r. 0 ∷ r) (types_absent n)

pub types_fresh : (vs : List Value) → types_of (fresh vs) ≡ start_env (types_of vs)
unfolding fresh
types_fresh vs = simp (map-append, types_absent, length-map)

assign_types : (slots : Slots) (s : ℕ) (v : Value) {env : Env} → assign (types_of slots) s (type_number v) ≡ some env → types_of (set slots s v) ≡ env
unfolding assign
assign_types slots s v e =
    let p = provided_some (eqb (get_or (types_of slots) s 0) 0 || eqb (get_or (types_of slots) s 0) (type_number v)) (some (set (types_of slots) s (type_number v))) e in
    types_set slots s v ∙ some-injective _ _ p.1

receive_types : (slots : Slots) (ss : List ℕ) (vs : List Value) {env : Env} → assign_all (types_of slots) ss (types_of vs) ≡ some env → types_of (receive slots ss vs) ≡ env
unfolding assign_all receive
receive_types slots [] vs e = some-injective _ _ e
receive_types slots (s ∷ ss) [] e = some-injective _ _ e
receive_types slots (s ∷ ss) (v ∷ vs) e =
    let a = and_then_some (assign (types_of slots) s (type_number v)) (λ env'. assign_all env' ss (types_of vs)) e in
    receive_types (set slots s v) ss vs (rw (assign_types slots s v a.1) a.2)

-- ════ Results ════

abbrev pub NotStuck : Ending → Type 0
NotStuck Budget = Unit {0}
NotStuck Deep = Unit {0}
NotStuck Stuck = ⊥
NotStuck (AtFault why) = Unit {0}

-- Matched with the slots' types as the rules leave them; failed with those of the start; or ended, but not STUCK
pub data Sound (env env' : Env) : Applied → Type 0 where
  sound_matched : {at : ℕ} {slots : Slots} {t : Tally} → types_of slots ≡ env' → Sound env env' (matched at slots t)
  sound_failed : {slots : Slots} {t : Tally} → types_of slots ≡ env → Sound env env' (failed slots t)
  sound_ended : {place : ℕ} {t : Tally} (why : Ending) → NotStuck why → Sound env env' (ended why place t)
  sound_out : Sound env env' out_of_fuel

pub next_sound : {env₁ env₂ env env' : Env} {r : Applied} {m : ℕ → Slots → Tally → Applied} {f : Slots → Tally → Applied} →
    Sound env₁ env₂ r →
    ((at : ℕ) (slots : Slots) (t : Tally) → types_of slots ≡ env₂ → Sound env env' (m at slots t)) →
    ((slots : Slots) (t : Tally) → types_of slots ≡ env₁ → Sound env env' (f slots t)) →
    Sound env env' (next r m f)
unfolding next
next_sound (sound_matched {at = at} {slots = s} {t = t} e) m f = m at s t e
next_sound (sound_failed {slots = s} {t = t} e) m f = f s t e
next_sound (sound_ended why h) m f = sound_ended why h
next_sound sound_out m f = sound_out

pub with_value_sound : {A : Type 0} {P : A → Type 0} {env env' : Env} {e : Evaluated A} (t : Tally) {f : A → Applied} →
    Goodly P e → ((a : A) → P a → Sound env env' (f a)) → Sound env env' (with_value e t f)
unfolding with_value
with_value_sound t (good {a = v} p) h = h v p
with_value_sound t (faulty {why = why}) h = sound_ended (AtFault why) tt

-- the slots given back are those of the start, whatever a part left
giving_back_sound : {env₀ env env' : Env} {r : Applied} (slots : Slots) → types_of slots ≡ env → Sound env₀ env' r → Sound env env' (giving_back slots r)
giving_back_sound slots e h = next_sound h (λ _ _ _ e₁. sound_matched e₁) (λ _ _ _. sound_failed e)

-- first one part, then another; the slots given back are those of the start, whichever failed
onward_sound : {env₀ env₁ env₂ env env' : Env} {r : Applied} {m : ℕ → Slots → Tally → Applied} (slots : Slots) → types_of slots ≡ env → Sound env₀ env₁ r →
    ((at : ℕ) (slots₁ : Slots) (t : Tally) → types_of slots₁ ≡ env₁ → Sound env₂ env' (m at slots₁ t)) → Sound env env' (giving_back slots (onward r m))
unfolding next
onward_sound slots e (sound_matched {at = at} {slots = s} {t = t} h) m = giving_back_sound slots e (m at s t h)
onward_sound slots e (sound_failed h) m = sound_failed e
onward_sound slots e (sound_ended why h) m = sound_ended why h
onward_sound slots e sound_out m = sound_out

cond_sound : {env env' : Env} (b : Bool) {x y : Applied} → Sound env env' x → Sound env env' y → Sound env env' (cond b x y)
cond_sound true g h = g
cond_sound false g h = h

judged_sound : {env env' : Env} (k : ℕ) (v : Value) (at : ℕ) (slots : Slots) (t : Tally) → type_number v ≡ 1 → types_of slots ≡ env → types_of slots ≡ env' →
    Sound env env' (judged k v at slots t)
unfolding judged
judged_sound k Val.Absent at slots t h e e' = absurd (omega arith)
judged_sound k (Val.Bool b) at slots t h e e' = cond_sound b (sound_matched e') (sound_failed e)
judged_sound k (Val.Integer z) at slots t h e e' = absurd (omega arith)
judged_sound k (Val.Text s) at slots t h e e' = absurd (omega arith)

-- ════ Applications ════

-- an application is sound where every typed node, applied to slots of its start's types, is
abbrev pub SoundApplication : Grammar → Application → Type 0
SoundApplication G apply' = (depth : ℕ) (p : Parsing) (at : ℕ) (slots : Slots) (t : Tally) (env env' : Env) →
    type_of G env p ≡ some env' → types_of slots ≡ env → Sound env env' (apply' depth p at slots t)

-- the rounds of a repeat, whose part leaves the slots as at its start
rounds_sound : (G : Grammar) (apply' : Application) → SoundApplication G apply' → (fuel depth : ℕ) (p : Parsing) (at : ℕ) (slots : Slots) (t : Tally) (env : Env) →
    type_of G env p ≡ some env → types_of slots ≡ env → Sound env env (rounds apply' fuel depth p at slots t)
unfolding rounds
rounds_sound G apply' self zero depth p at slots t env h e = sound_out
rounds_sound G apply' self (suc fuel) depth p at slots t env h e =
    next_sound (self depth p at slots t env env h e)
    (λ at₁ slots₁ t₁ e₁. rounds_sound G apply' self fuel depth p at₁ slots₁ t₁ env h e₁)
    (λ _ _ _. sound_matched e)

-- every rule of the grammar passes the type rules
abbrev pub TypedGrammar : Grammar → Type 0
TypedGrammar G = (r : ℕ) → typed_rule G (rule_of G r) ≡ true

pub typed_body : (R : Rule) (o : Option Env) → typed_after R o ≡ true → (env : Env) × (o ≡ some env) × (have_all env R.returned R.returned_types ≡ true)
unfolding typed_after
typed_body R none e = never e
typed_body R (some env) e = (env, refl, e)

-- repeat, not: the part leaves the slots as at its start
unchanged : (G : Grammar) (p : Parsing) (env : Env) {env' : Env} → and_then (type_of G env p) (λ env₁. provided (same env env₁) (some env)) ≡ some env' →
    (env ≡ env') × (type_of G env p ≡ some env)
unchanged G p env e =
    let a = and_then_some (type_of G env p) (λ env₁. provided (same env env₁) (some env)) e in
    let c = provided_some (same env a.0) (some env) a.2 in
    (some-injective _ _ c.1, a.1 ∙ ap {B = Option Env} some (sym (same_equal env a.0 c.0)))

module _ (S : Setting) (typed : TypedGrammar S.grammar) where
  abbrev G : Grammar
  G = S.grammar

  visit_sound : (apply' : Application) (fuel : ℕ) → SoundApplication G apply' → SoundApplication G (visit S apply' (rounds apply' fuel))
  unfolding visit type_of typed_rule has returning
  visit_sound apply' fuel self depth (empty k) at slots t env env' h e = sound_matched (e ∙ some-injective _ _ h)
  visit_sound apply' fuel self depth (terminal k byte) at slots t env env' h e =
      cond_sound (byte_stands S.message at byte) (sound_matched (e ∙ some-injective _ _ h)) (sound_failed e)
  visit_sound apply' fuel self depth (sequence k p q) at slots t env env' h e =
      let a = and_then_some (type_of G env p) (λ env₁. type_of G env₁ q) h in
      onward_sound slots e (self (suc depth) p at slots t env a.0 a.1 e)
      (λ at₁ slots₁ t₁ e₁. self (suc depth) q at₁ slots₁ t₁ a.0 env' a.2 e₁)
  visit_sound apply' fuel self depth (choice k p q) at slots t env env' h e =
      let a = and_then_some (type_of G env p) (λ env₁. and_then (type_of G env q) (λ env₂. provided (same env₁ env₂) (some env₁))) h in
      let b = and_then_some (type_of G env q) (λ env₂. provided (same a.0 env₂) (some a.0)) a.2 in
      let c = provided_some (same a.0 b.0) (some a.0) b.2 in
      let d : a.0 ≡ env' = some-injective _ _ c.1 in
      let f : a.0 ≡ b.0 = same_equal a.0 b.0 c.0 in
      giving_back_sound slots e (next_sound (self (suc depth) p at slots t env a.0 a.1 e)
      (λ _ _ _ e₁. sound_matched (e₁ ∙ d))
      (λ _ t₁ _. self (suc depth) q at slots t₁ env env' (b.1 ∙ ap {B = Option Env} some (sym f ∙ d)) e))
  visit_sound apply' fuel self depth (repeat k p) at slots t env env' h e =
      let a = unchanged G p env h in
      rw (← a.0) (rounds_sound G apply' self fuel (suc depth) p at slots t env a.1 e)
  visit_sound apply' fuel self depth (unless k p) at slots t env env' h e =
      let a = unchanged G p env h in
      next_sound (self (suc depth) p at slots t env env a.1 e) (λ _ _ _ e₁. sound_failed e₁) (λ _ _ e₁. sound_matched (e₁ ∙ a.0))
  visit_sound apply' fuel self depth (call k r es ss) at slots t env env' h e =
      let c = provided_some (have_all env es (rule_of G r).inherited) (assign_all env ss (rule_of G r).returned_types) h in
      let b = typed_body (rule_of G r) (type_of G (start_env (rule_of G r).inherited) (rule_of G r).body) (typed r) in
      with_value_sound t (eval_all_good S slots es (rule_of G r).inherited (rw e c.0)) (λ given i.
      onward_sound {env₂ = env} slots e
      (self (suc depth) (rule_of G r).body at (fresh given) t (start_env (rule_of G r).inherited) b.0 b.1 (types_fresh given ∙ ap start_env i))
      (λ at₁ slots₁ t₁ e₁. with_value_sound t₁ (eval_all_good S slots₁ (rule_of G r).returned (rule_of G r).returned_types (rw e₁ b.2)) (λ results j.
      sound_matched (receive_types slots ss results (rw (e, j) c.1)))))
  visit_sound apply' fuel self depth (bind k s p) at slots t env env' h e =
      let a = and_then_some (type_of G env p) (λ env₁. assign env₁ s 3) h in
      onward_sound {env₂ = env} slots e (self (suc depth) p at slots t env a.0 a.1 e)
      (λ at₁ slots₁ _ e₁. sound_matched (assign_types slots₁ s (message_part at at₁) (rw e₁ a.2)))
  visit_sound apply' fuel self depth (update k s x) at slots t env env' h e =
      let c = provided_some (ltb 0 (expr_type env x)) (assign env s (expr_type env x)) h in
      with_value_sound t (eval_good S slots x (rw e (ltb-true 0 (expr_type env x) c.0))) (λ v i.
      sound_matched (assign_types slots s v (rw (i, e) c.1)))
  visit_sound apply' fuel self depth (constraint k x) at slots t env env' h e =
      let c = provided_some (has env x 1) (some env) h in
      let q : expr_type (types_of slots) x ≡ 1 = rw e (eqb-true (expr_type env x) 1 c.0) in
      with_value_sound t (eval_good S slots x (omega arith)) (λ v i. judged_sound k v at slots t (i ∙ q) e (e ∙ some-injective _ _ c.1))

  admit_sound : (d : Due) (apply' : Application) (fuel : ℕ) → SoundApplication G apply' → SoundApplication G (admit S d apply' (rounds apply' fuel))
  unfolding admit
  admit_sound fine apply' fuel self depth p at slots t env env' h e = visit_sound apply' fuel self depth p at slots (counted t) env env' h e
  admit_sound no_budget apply' fuel self depth p at slots t env env' h e = sound_ended Budget tt
  admit_sound too_deep apply' fuel self depth p at slots t env env' h e = sound_ended Deep tt

  -- Applying a node of a typed grammar is sound, whatever the budget, the deepest depth and the fuel
  pub apply_sound : (budget deepest fuel : ℕ) → SoundApplication G (apply S budget deepest fuel)
  unfolding apply
  apply_sound budget deepest zero depth p at slots t env env' h e = sound_out
  apply_sound budget deepest (suc fuel) depth p at slots t env env' h e =
      admit_sound (due budget deepest depth t.visits) (apply S budget deepest fuel) fuel (apply_sound budget deepest fuel) depth p at slots t env env' h e
