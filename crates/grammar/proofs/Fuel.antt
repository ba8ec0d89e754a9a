-- The fuel of `apply` is no part of the meaning: with more fuel than visits left it never runs out, and any two such fuels give the same.
-- Visits stay within the budget, and each match or failure has made at least one. Assumes nothing.
use Rattle.std.specs.Prelude.{Ok, Err}
use mathlib.Core.Path.{◌≡◌, refl, sym, ◌∙◌}
use mathlib.Core.Logic.{◌≢◌}
use mathlib.Core.List.{List, []}
use mathlib.Core.Bool.{Bool, true, false, cond}
use Prim.Native.Nat.{ℕ, zero, suc, ◌+◌, ◌<◌, ◌≤◌}
use native.Mathlib.Omega.{arith}
use lib.Dec.{T, ltb, leb, ltb→lt}
use lib.ListN.{length}
use Rattle.grammar.specs.declared.Ending.{Ending}
use Rattle.grammar.specs.declared.Mode.{Mode}
use Rattle.grammar.specs.Form.{Verdict}
use Rattle.grammar.specs.declared.Value.{Value}
use Rattle.grammar.specs.declared.Value.TheVariants as Val
use Rattle.grammar.specs.Tree.{Parsing, empty, terminal, sequence, choice, repeat, unless, call, bind, update, constraint}
use Rattle.grammar.specs.Tree.{rule_of}
use Rattle.grammar.specs.Values.{Evaluated, value, ends}
use Rattle.grammar.specs.Run.{Slots, Setting, Tally, counted, Applied, matched, failed, ended, out_of_fuel, next, giving_back, onward, with_value, judged, fresh}
use Rattle.grammar.specs.Run.{byte_stands, eval, eval_all, Application, rounds, Due, fine, no_budget, too_deep, due, returning, visit, admit, apply}
use Rattle.grammar.specs.Answer.{deepest_visit, run, answer_of, conclude, refusal, check, setting_of, answer}

-- ════ Fuel enough never runs out, visits stay within the budget ════

-- more than v visits, and no more than the budget
abbrev pub Counted : (budget v : ℕ) → Tally → Type 0
Counted budget v t = (v < t.visits) × (t.visits ≤ budget)

-- What comes after v visits: a match or a failure has made one more at least; and it is never out_of_fuel
pub data Since (budget v : ℕ) : Applied → Type 0 where
  since_matched : {at : ℕ} {slots : Slots} (t : Tally) → Counted budget v t → Since budget v (matched at slots t)
  since_failed : {slots : Slots} (t : Tally) → Counted budget v t → Since budget v (failed slots t)
  since_ended : {why : Ending} {place : ℕ} (t : Tally) → (v ≤ t.visits) × (t.visits ≤ budget) → Since budget v (ended why place t)

earlier : {budget u v : ℕ} {r : Applied} → v ≤ u → Since budget u r → Since budget v r
earlier h (since_matched t c) = since_matched t (omega arith)
earlier h (since_failed t c) = since_failed t (omega arith)
earlier h (since_ended t c) = since_ended t (omega arith)

pub next_since : {budget v : ℕ} {r : Applied} {m : ℕ → Slots → Tally → Applied} {f : Slots → Tally → Applied} →
    Since budget v r →
    ((at : ℕ) (slots : Slots) (t : Tally) → Counted budget v t → Since budget v (m at slots t)) →
    ((slots : Slots) (t : Tally) → Counted budget v t → Since budget v (f slots t)) →
    Since budget v (next r m f)
unfolding next
next_since (since_matched {at = at} {slots = s} t c) m f = m at s t c
next_since (since_failed {slots = s} t c) m f = f s t c
next_since (since_ended t c) m f = since_ended t c

giving_back_since : {budget v : ℕ} {r : Applied} (slots : Slots) → Since budget v r → Since budget v (giving_back slots r)
giving_back_since slots h = next_since h (λ _ _ t₁ c. since_matched t₁ c) (λ _ t₁ c. since_failed t₁ c)

onward_since : {budget v : ℕ} {r : Applied} {m : ℕ → Slots → Tally → Applied} → Since budget v r →
    ((at : ℕ) (slots : Slots) (t : Tally) → Counted budget v t → Since budget v (m at slots t)) → Since budget v (onward r m)
onward_since h m = next_since h m (λ _ t₁ c. since_failed t₁ c)

pub with_value_since : {A : Type 0} {budget v : ℕ} (e : Evaluated A) (t : Tally) {f : A → Applied} → Counted budget v t →
    ((a : A) → Since budget v (f a)) → Since budget v (with_value e t f)
unfolding with_value
with_value_since (value a) t c h = h a
with_value_since (ends why k) t c h = since_ended t (omega arith)

cond_since : {budget v : ℕ} (b : Bool) {x y : Applied} → Since budget v x → Since budget v y → Since budget v (cond b x y)
cond_since true g h = g
cond_since false g h = h

judged_since : {budget v : ℕ} (k : ℕ) (u : Value) (at : ℕ) (slots : Slots) (t : Tally) → Counted budget v t → Since budget v (judged k u at slots t)
unfolding judged
judged_since k Val.Absent at slots t c = since_ended t (omega arith)
judged_since k (Val.Bool b) at slots t c = cond_since b (since_matched t c) (since_failed t c)
judged_since k (Val.Integer z) at slots t c = since_ended t (omega arith)
judged_since k (Val.Text s) at slots t c = since_ended t (omega arith)

-- an application goes on counting
abbrev Counting : (budget v : ℕ) → Application → Type 0
Counting budget v apply' = (depth : ℕ) (p : Parsing) (at : ℕ) (slots : Slots) (t : Tally) → Counted budget v t → Since budget v (apply' depth p at slots t)

module _ (S : Setting) where
  returning_since : (budget v r : ℕ) (slots : Slots) (receiving : List ℕ) (at : ℕ) (slots₁ : Slots) (t : Tally) → Counted budget v t →
      Since budget v (returning S r slots receiving at slots₁ t)
  unfolding returning
  returning_since budget v r slots receiving at slots₁ t c =
      with_value_since (eval_all S slots₁ (rule_of S.grammar r).returned) t c (λ _. since_matched t c)

  visit_since : (budget v : ℕ) (apply' rounds' : Application) → Counting budget v apply' → Counting budget v rounds' → Counting budget v (visit S apply' rounds')
  unfolding visit
  visit_since budget v apply' rounds' part again depth (empty k) at slots t c = since_matched t c
  visit_since budget v apply' rounds' part again depth (terminal k byte) at slots t c =
      cond_since (byte_stands S.message at byte) (since_matched t c) (since_failed t c)
  visit_since budget v apply' rounds' part again depth (sequence k p q) at slots t c =
      giving_back_since slots (onward_since (part (suc depth) p at slots t c) (part (suc depth) q))
  visit_since budget v apply' rounds' part again depth (choice k p q) at slots t c =
      giving_back_since slots (next_since (part (suc depth) p at slots t c) (λ _ _ t₁ c₁. since_matched t₁ c₁) (λ _ t₁ c₁. part (suc depth) q at slots t₁ c₁))
  visit_since budget v apply' rounds' part again depth (repeat k p) at slots t c = again (suc depth) p at slots t c
  visit_since budget v apply' rounds' part again depth (unless k p) at slots t c =
      next_since (part (suc depth) p at slots t c) (λ _ _ t₁ c₁. since_failed t₁ c₁) (λ _ t₁ c₁. since_matched t₁ c₁)
  visit_since budget v apply' rounds' part again depth (call k r es ss) at slots t c =
      with_value_since (eval_all S slots es) t c (λ given.
      giving_back_since slots (onward_since (part (suc depth) (rule_of S.grammar r).body at (fresh given) t c) (returning_since budget v r slots ss)))
  visit_since budget v apply' rounds' part again depth (bind k s p) at slots t c =
      giving_back_since slots (onward_since (part (suc depth) p at slots t c) (λ _ _ t₁ c₁. since_matched t₁ c₁))
  visit_since budget v apply' rounds' part again depth (update k s e) at slots t c = with_value_since (eval S slots e) t c (λ _. since_matched t c)
  visit_since budget v apply' rounds' part again depth (constraint k e) at slots t c = with_value_since (eval S slots e) t c (λ u. judged_since k u at slots t c)

-- an application with more fuel than visits left
abbrev Enough : (budget fuel : ℕ) → Application → Type 0
Enough budget fuel apply' = (depth : ℕ) (p : Parsing) (at : ℕ) (slots : Slots) (t : Tally) →
    t.visits ≤ budget → budget < fuel + t.visits → Since budget t.visits (apply' depth p at slots t)

rounds_since : (budget fuel v : ℕ) (apply' : Application) → Enough budget fuel apply' → budget ≤ fuel + v →
    (n depth : ℕ) (p : Parsing) (at : ℕ) (slots : Slots) (t : Tally) → Counted budget v t → budget < n + t.visits → Since budget v (rounds apply' n depth p at slots t)
unfolding rounds
rounds_since budget fuel v apply' enough e zero depth p at slots t c l = absurd (omega arith)
rounds_since budget fuel v apply' enough e (suc n) depth p at slots t c l =
    earlier (omega arith) (next_since (enough depth p at slots t c.1 (omega arith))
    (λ at₁ slots₁ t₁ c₁. rounds_since budget fuel t.visits apply' enough (omega arith) n depth p at₁ slots₁ t₁ c₁ (omega arith))
    (λ _ t₁ c₁. since_matched t₁ c₁))

-- a visit that may be made has the budget for it
due_fine : (a b : Bool) → cond a (cond b fine too_deep) no_budget ≡ fine → T a
due_fine true b e = tt
due_fine false b e = absurd (let z : ◌≡◌ {A = ℕ} 0 1 = cc in omega arith)

pub fine_below : (budget deepest depth visits : ℕ) → due budget deepest depth visits ≡ fine → visits < budget
unfolding due
fine_below budget deepest depth visits e = ltb→lt visits budget (due_fine (ltb visits budget) (leb depth deepest) e)

admit_since : (S : Setting) (budget fuel : ℕ) (apply' : Application) → Enough budget fuel apply' →
    (d : Due) (depth : ℕ) (p : Parsing) (at : ℕ) (slots : Slots) (t : Tally) → (d ≡ fine → t.visits < budget) → t.visits ≤ budget → budget ≤ fuel + t.visits →
    Since budget t.visits (admit S d apply' (rounds apply' fuel) depth p at slots t)
unfolding admit
admit_since S budget fuel apply' enough fine depth p at slots t below le e =
    let l : t.visits < budget = below refl in
    visit_since S budget t.visits apply' (rounds apply' fuel)
    (λ depth₁ p₁ at₁ slots₁ t₁ c₁. earlier (omega arith) (enough depth₁ p₁ at₁ slots₁ t₁ c₁.1 (omega arith)))
    (λ depth₁ p₁ at₁ slots₁ t₁ c₁. rounds_since budget fuel t.visits apply' enough e fuel depth₁ p₁ at₁ slots₁ t₁ c₁ (omega arith))
    depth p at slots (counted t) (omega arith)
admit_since S budget fuel apply' enough no_budget depth p at slots t below le e = since_ended t (omega arith)
admit_since S budget fuel apply' enough too_deep depth p at slots t below le e = since_ended t (omega arith)

-- With more fuel than visits left: never out_of_fuel, visits within the budget, a visit made by each match and failure
pub apply_since : (S : Setting) (budget deepest fuel depth : ℕ) (p : Parsing) (at : ℕ) (slots : Slots) (t : Tally) →
    t.visits ≤ budget → budget < fuel + t.visits → Since budget t.visits (apply S budget deepest fuel depth p at slots t)
unfolding apply
apply_since S budget deepest zero depth p at slots t le e = absurd (omega arith)
apply_since S budget deepest (suc fuel) depth p at slots t le e =
    admit_since S budget fuel (apply S budget deepest fuel) (apply_since S budget deepest fuel) (due budget deepest depth t.visits)
    depth p at slots t (fine_below budget deepest depth t.visits) le (omega arith)

-- ════ More fuel makes no difference ════

-- the same, unless the first ran out of fuel
pub data Extends : Applied → Applied → Type 0 where
  ran_out : {r : Applied} → Extends out_of_fuel r
  same : {r : Applied} → Extends r r

next_extends : {r r' : Applied} {m m' : ℕ → Slots → Tally → Applied} {f f' : Slots → Tally → Applied} → Extends r r' →
    ((at : ℕ) (slots : Slots) (t : Tally) → Extends (m at slots t) (m' at slots t)) → ((slots : Slots) (t : Tally) → Extends (f slots t) (f' slots t)) →
    Extends (next r m f) (next r' m' f')
unfolding next
next_extends ran_out m f = ran_out
next_extends (same {r = matched at slots t}) m f = m at slots t
next_extends (same {r = failed slots t}) m f = f slots t
next_extends (same {r = ended why place t}) m f = same
next_extends (same {r = out_of_fuel}) m f = same

giving_back_extends : {r r' : Applied} (slots : Slots) → Extends r r' → Extends (giving_back slots r) (giving_back slots r')
giving_back_extends slots h = next_extends h (λ _ _ _. same) (λ _ _. same)

with_value_extends : {A : Type 0} (e : Evaluated A) (t : Tally) {f g : A → Applied} → ((a : A) → Extends (f a) (g a)) → Extends (with_value e t f) (with_value e t g)
unfolding with_value
with_value_extends (value a) t h = h a
with_value_extends (ends why k) t h = same

abbrev AllExtend : Application → Application → Type 0
AllExtend apply' apply'' = (depth : ℕ) (p : Parsing) (at : ℕ) (slots : Slots) (t : Tally) → Extends (apply' depth p at slots t) (apply'' depth p at slots t)

rounds_extends : (apply' apply'' : Application) → AllExtend apply' apply'' → (m n : ℕ) → m ≤ n → AllExtend (rounds apply' m) (rounds apply'' n)
unfolding rounds
rounds_extends apply' apply'' part zero n le depth p at slots t = ran_out
rounds_extends apply' apply'' part (suc m) zero le depth p at slots t = absurd (omega arith)
rounds_extends apply' apply'' part (suc m) (suc n) le depth p at slots t =
    next_extends (part depth p at slots t) (rounds_extends apply' apply'' part m n (omega arith) depth p) (λ _ _. same)

module _ (S : Setting) where
  visit_extends : (apply' apply'' rounds' rounds'' : Application) → AllExtend apply' apply'' → AllExtend rounds' rounds'' → AllExtend (visit S apply' rounds') (visit S apply'' rounds'')
  unfolding visit
  visit_extends apply' apply'' rounds' rounds'' part again depth (empty k) at slots t = same
  visit_extends apply' apply'' rounds' rounds'' part again depth (terminal k byte) at slots t = same
  visit_extends apply' apply'' rounds' rounds'' part again depth (sequence k p q) at slots t =
      giving_back_extends slots (next_extends (part (suc depth) p at slots t) (part (suc depth) q) (λ _ _. same))
  visit_extends apply' apply'' rounds' rounds'' part again depth (choice k p q) at slots t =
      giving_back_extends slots (next_extends (part (suc depth) p at slots t) (λ _ _ _. same) (λ _ t₁. part (suc depth) q at slots t₁))
  visit_extends apply' apply'' rounds' rounds'' part again depth (repeat k p) at slots t = again (suc depth) p at slots t
  visit_extends apply' apply'' rounds' rounds'' part again depth (unless k p) at slots t = next_extends (part (suc depth) p at slots t) (λ _ _ _. same) (λ _ _. same)
  visit_extends apply' apply'' rounds' rounds'' part again depth (call k r es ss) at slots t =
      with_value_extends (eval_all S slots es) t (λ given.
      giving_back_extends slots (next_extends (part (suc depth) (rule_of S.grammar r).body at (fresh given) t) (λ _ _ _. same) (λ _ _. same)))
  visit_extends apply' apply'' rounds' rounds'' part again depth (bind k s p) at slots t =
      giving_back_extends slots (next_extends (part (suc depth) p at slots t) (λ _ _ _. same) (λ _ _. same))
  visit_extends apply' apply'' rounds' rounds'' part again depth (update k s e) at slots t = same
  visit_extends apply' apply'' rounds' rounds'' part again depth (constraint k e) at slots t = same

  admit_extends : (d : Due) (apply' apply'' rounds' rounds'' : Application) → AllExtend apply' apply'' → AllExtend rounds' rounds'' → AllExtend (admit S d apply' rounds') (admit S d apply'' rounds'')
  unfolding admit
  admit_extends fine apply' apply'' rounds' rounds'' part again depth p at slots t = visit_extends apply' apply'' rounds' rounds'' part again depth p at slots (counted t)
  admit_extends no_budget apply' apply'' rounds' rounds'' part again depth p at slots t = same
  admit_extends too_deep apply' apply'' rounds' rounds'' part again depth p at slots t = same

  -- more fuel gives the same, unless the fuel ran out
  pub apply_extends : (budget deepest f g : ℕ) → f ≤ g → AllExtend (apply S budget deepest f) (apply S budget deepest g)
  unfolding apply
  apply_extends budget deepest zero g le depth p at slots t = ran_out
  apply_extends budget deepest (suc f) zero le depth p at slots t = absurd (omega arith)
  apply_extends budget deepest (suc f) (suc g) le depth p at slots t =
      let fewer = apply S budget deepest f in
      let more = apply S budget deepest g in
      let part = apply_extends budget deepest f g (omega arith) in
      admit_extends (due budget deepest depth t.visits) fewer more (rounds fewer f) (rounds more g) part (rounds_extends fewer more part f g (omega arith)) depth p at slots t

  extends_same : {budget v : ℕ} {r r' : Applied} → Since budget v r → Extends r r' → r ≡ r'
  extends_same (since_matched t c) same = refl
  extends_same (since_failed t c) same = refl
  extends_same (since_ended t c) same = refl

  -- Any two fuels that are more than the visits left give the same
  pub apply_agree : (budget deepest f g depth : ℕ) (p : Parsing) (at : ℕ) (slots : Slots) (t : Tally) →
      t.visits ≤ budget → budget < f + t.visits → budget < g + t.visits →
      apply S budget deepest f depth p at slots t ≡ apply S budget deepest g depth p at slots t
  apply_agree budget deepest f g depth p at slots t le e h =
      extends_same (apply_since S budget deepest f depth p at slots t le e) (apply_extends budget deepest f (f + g) (omega arith) depth p at slots t)
      ∙ sym (extends_same (apply_since S budget deepest g depth p at slots t le h) (apply_extends budget deepest g (f + g) (omega arith) depth p at slots t))

  -- ════ The run ════

  -- Its visits stay within the budget; where the body matched or failed it made one at least
  pub run_since : (budget : ℕ) → Since budget 0 (run S budget)
  unfolding run
  run_since budget =
      onward_since (apply_since S budget deepest_visit (suc budget) 1 (rule_of S.grammar 0).body 0 (fresh []) (record { visits = 0 }) (omega arith) (omega arith))
      (λ at slots t c. with_value_since (eval_all S slots (rule_of S.grammar 0).returned) t c (λ _. since_matched t c))

  -- A run never gives out_of_fuel
  pub run_never_out : (budget : ℕ) → run S budget ≢ out_of_fuel
  run_never_out budget e = go (run_since budget) e
    where
      go : {v : ℕ} {r : Applied} → Since budget v r → r ≡ out_of_fuel → ⊥
      go (since_matched t c) e = let z : ◌≡◌ {A = ℕ} 0 1 = cc in omega arith
      go (since_failed t c) e = let z : ◌≡◌ {A = ℕ} 0 1 = cc in omega arith
      go (since_ended t c) e = let z : ◌≡◌ {A = ℕ} 0 1 = cc in omega arith

  -- More fuel than the budget makes no difference to it
  pub run_fuel : (budget fuel : ℕ) → budget < fuel →
      run S budget ≡ onward (apply S budget deepest_visit fuel 1 (rule_of S.grammar 0).body 0 (fresh []) (record { visits = 0 })) (λ at slots t.
      with_value (eval_all S slots (rule_of S.grammar 0).returned) t (λ results. matched at results t))
  unfolding run
  run_fuel budget fuel h =
      rw (apply_agree budget deepest_visit (suc budget) fuel 1 (rule_of S.grammar 0).body 0 (fresh []) (record { visits = 0 }) (omega arith) (omega arith) (omega arith))

-- ════ The answer ════

answer_of_visits : {budget v : ℕ} {r : Applied} → Since budget v r → (answer_of r).visits ≤ budget
unfolding answer_of
answer_of_visits (since_matched t c) = c.1
answer_of_visits (since_failed t c) = c.1
answer_of_visits (since_ended t c) = c.1

conclude_visits : (budget : ℕ) (v : Verdict) (r : Applied) → (answer_of r).visits ≤ budget → (conclude v r).visits ≤ budget
unfolding conclude refusal
conclude_visits budget (Ok _) r h = h
conclude_visits budget (Err why) r h = omega arith

-- An answer's visits never exceed the budget
pub answer_visits : (mode : Mode) (words literals message : List ℕ) (budget work_length : ℕ) → (answer mode words literals message budget work_length).visits ≤ budget
unfolding answer
answer_visits mode words literals message budget work_length =
    conclude_visits budget (check mode words literals (length message) work_length) (run (setting_of words literals message) budget)
    (answer_of_visits (run_since (setting_of words literals message) budget))
