-- Demand 3 over the whole answer: a table that passes the type check is never STUCK, and the values of a DONE have their declared types, one for
-- one, and none beside them; a bench run of such a table answers as its display run. Assumes nothing.
use Rattle.std.specs.Prelude.{Ok, Err}
use mathlib.Core.Path.{◌≡◌, refl, sym, ap, ◌∙◌}
use mathlib.Core.Logic.{◌≢◌}
use mathlib.Core.List.{List, [], ◌∷◌}
use mathlib.Core.Bool.{Bool, true, false}
use mathlib.Core.Option.{none}
use Prim.Native.Nat.{ℕ, ◌+◌, ◌<◌, ◌≤◌}
use native.Mathlib.Omega.{arith}
use lib.Dec.{ltb, leb}
use lib.ListN.{get_or, length, take, length-map, get_or-map, get_or-eq_default}
use lib.Seq.{get_or-take, length-take-le}
use borrow.Author.Tests.{ltb-true, ltb-false, leb-true}
use Rattle.laws.specs.Smallest.{smallest_all}
use Rattle.laws.specs.Tests.{both_left}
use Rattle.grammar.specs.declared.Refusal.TheVariants.{Size, Field, Use, Start, Untyped, Long, Work}
use Rattle.grammar.specs.Form.{Verdict, passed}
use Rattle.grammar.specs.declared.Ending.{Ending}
use Rattle.grammar.specs.declared.Ending.TheVariants.{Budget, Deep, Stuck, «Fault» as AtFault}
use Rattle.grammar.specs.declared.Answer.{Answer}
use Rattle.grammar.specs.declared.Value.{Value}
use Rattle.grammar.specs.declared.Value.TheVariants as Val
use Rattle.grammar.specs.declared.Mode.TheVariants.{Bench, Display}
use Rattle.grammar.specs.Numbers.{DONE, STUCK}
use Rattle.grammar.specs.Words.{rule_count, rule_word, returned_count}
use Rattle.grammar.specs.Tree.{Grammar, rule_of, grammar_of}
use Rattle.grammar.specs.Form.{table_check}
use Rattle.grammar.specs.Types.{Env, type_number, types_of, type_of, start_env, have_all, typed_after, typed_rule, untyped}
use Rattle.grammar.specs.Run.{Setting, Applied, failed, ended, out_of_fuel, fresh}
use Rattle.grammar.specs.Answer.{ending_number, type_rules, type_check, check, deepest_visit, run, answered, answer_of, refusal, conclude, setting_of, answer, refusal_number}
use Rattle.grammar.specs.Demand.{Declared, WellTyped, Demand3}
use Rattle.grammar.proofs.Facts.{SoundTable, sizes, followed_by_passed, refused_at_passed, sound_of_form, start_inherits_none}
use Rattle.grammar.proofs.Records.{four_places, rule_right}
use Rattle.grammar.proofs.Decode.{inherited_types, returned_types_lem}
use Rattle.grammar.proofs.Typed.{eval_all_good}
use Rattle.grammar.proofs.Sound.{Sound, sound_matched, sound_failed, sound_ended, sound_out, NotStuck, next_sound, with_value_sound, types_fresh, typed_body, TypedGrammar, apply_sound}
use Rattle.grammar.proofs.Texts.{texts_there}

-- ════ The type check passes: every rule is typed ════

module _ (G : Grammar) (none_untyped : untyped G ≡ none) where
  typed_grammar : TypedGrammar G
  unfolding untyped typed_rule typed_after type_of have_all
  typed_grammar r = go (ltb r (length G)) refl
    where
      go : (b : Bool) → ltb r (length G) ≡ b → typed_rule G (rule_of G r) ≡ true
      go true e = smallest_all (λ r. typed_rule G (rule_of G r)) 0 (length G) none_untyped r (omega arith) (let h = ltb-true r (length G) e in omega arith)
      go false e = rw (get_or-eq_default G _ (ltb-false r (length G) e))

-- ════ The run of a typed grammar ════

-- it gives the start rule's values, in the place of slots
run_sound : (S : Setting) (budget : ℕ) → TypedGrammar S.grammar → (rule_of S.grammar 0).inherited ≡ [] →
    Sound (start_env []) (rule_of S.grammar 0).returned_types (run S budget)
unfolding run typed_rule
run_sound S budget typed e =
    let R = rule_of S.grammar 0 in
    let b = typed_body R (type_of S.grammar (start_env R.inherited) R.body) (typed 0) in
    next_sound (apply_sound S typed budget deepest_visit _ 1 R.body 0 (fresh []) (record { visits = 0 }) (start_env R.inherited) b.0 b.1 (types_fresh [] ∙ ap start_env (sym e)))
    (λ at slots t e₁. with_value_sound t (eval_all_good S slots R.returned R.returned_types (rw e₁ b.2)) (λ results j. sound_matched j))
    (λ slots t e₁. sound_failed (e₁ ∙ ap start_env e))

-- ════ The values of the record ════

-- the record has room for four
in_record_lem : (values : List Value) → length values ≤ 4 → (i : ℕ) →
    get_or (get_or values 0 Val.Absent ∷ get_or values 1 Val.Absent ∷ get_or values 2 Val.Absent ∷ get_or values 3 Val.Absent ∷ []) i Val.Absent ≡ get_or values i Val.Absent
in_record_lem values few i = go (ltb i 4) refl
  where
    four_values : List Value
    four_values = get_or values 0 Val.Absent ∷ get_or values 1 Val.Absent ∷ get_or values 2 Val.Absent ∷ get_or values 3 Val.Absent ∷ []

    go : (b : Bool) → ltb i 4 ≡ b → get_or four_values i Val.Absent ≡ get_or values i Val.Absent
    go true e = four_places (λ j. get_or four_values j Val.Absent ≡ get_or values j Val.Absent) refl refl refl refl i (ltb-true i 4 e)
    go false e =
        let h = ltb-false i 4 e in
        get_or-eq_default four_values Val.Absent h ∙ sym (get_or-eq_default values Val.Absent (omega arith))

module _ (words literals : List ℕ) (table : SoundTable words literals) where
  some_rule : 0 < rule_count words
  some_rule = (sizes words literals table).some_rule

  -- the values that a run gives, one by one
  module _ (values : List Value) (types : types_of values ≡ (rule_of (grammar_of words) 0).returned_types) where
    abbrev declared : List ℕ
    declared = rule_word words 0 11 ∷ rule_word words 0 12 ∷ rule_word words 0 13 ∷ rule_word words 0 14 ∷ []

    most : returned_count words 0 ≤ 4
    most = (rule_right words literals table 0 some_rule).returned_most

    values_length : length values ≡ returned_count words 0
    values_length = sym (length-map values type_number) ∙ ap length (types ∙ returned_types_lem words 0 some_rule) ∙ length-take-le (returned_count words 0) declared most

    value_type : (i : ℕ) → type_number (get_or values i Val.Absent) ≡ get_or (take (returned_count words 0) declared) i 0
    value_type i = sym (get_or-map type_number values i Val.Absent) ∙ ap (λ ts. get_or ts i 0) (types ∙ returned_types_lem words 0 some_rule)

    declared_at : (i : ℕ) → i < 4 → get_or declared i 0 ≡ rule_word words 0 (11 + i)
    declared_at = four_places (λ i. get_or declared i 0 ≡ rule_word words 0 (11 + i)) refl refl refl refl

    declared_values : (place consumed visits : ℕ) → Declared words (answered DONE place consumed visits values)
    declared_values place consumed visits = record {
      typed = λ i h.
          let few = most in
          let e = value_type i ∙ get_or-take (returned_count words 0) declared i 0 h ∙ declared_at i (omega arith) in
          let l = leb-true 1 (rule_word words 0 (11 + i)) (both_left (leb 1 (rule_word words 0 (11 + i))) (leb (rule_word words 0 (11 + i)) 3)
          ((rule_right words literals table 0 some_rule).returned_type_lem i h)) in
          rw (in_record_lem values (omega (arith, values_length)) i) (e, omega arith);
      absent = λ i h. in_record_lem values (omega (arith, values_length, most)) i ∙ get_or-eq_default values Val.Absent (omega (arith, values_length));
    }

-- ════ The answer ════

ending_number_lem : (why : Ending) → NotStuck why → (ending_number why ≢ STUCK) × (ending_number why ≢ DONE)
unfolding ending_number
ending_number_lem Budget h = omega arith
ending_number_lem Deep h = omega arith
ending_number_lem Stuck h = absurd h
ending_number_lem (AtFault why) h = omega arith

-- neither STUCK nor DONE
undone : (words : List ℕ) (a : Answer) → (a.number ≢ STUCK) × (a.number ≢ DONE) → WellTyped words a
undone words a h = record { never_stuck = h.0; values_declared = λ e. absurd (h.1 e) }

module _ (words literals : List ℕ) where
  ran_well : SoundTable words literals → {env : Env} {r : Applied} → Sound env (rule_of (grammar_of words) 0).returned_types r → WellTyped words (answer_of r)
  unfolding answer_of
  ran_well table (sound_matched {at = at} {slots = values} {t = t} e) = record {
    never_stuck = omega arith;
    values_declared = λ _. declared_values words literals table values e 0 at t.visits;
  }
  ran_well table (sound_failed {slots = slots} {t = t} e) = undone words (answer_of (failed slots t)) (omega arith)
  ran_well table (sound_ended {place = k} {t = t} why h) = undone words (answer_of (ended why k t)) (ending_number_lem why h)
  ran_well table sound_out = undone words (answer_of out_of_fuel) (omega arith)

  -- what is refused says neither DONE nor STUCK
  concluded_well : (v : Verdict) (ran : Applied) → (v ≡ passed → WellTyped words (answer_of ran)) → WellTyped words (conclude v ran)
  unfolding conclude refusal refusal_number
  concluded_well (Ok _) ran h = h refl
  concluded_well (Err Size) ran h = undone words (refusal Size) (omega arith)
  concluded_well (Err (Field i)) ran h = undone words (refusal (Field i)) (omega arith)
  concluded_well (Err (Use k)) ran h = undone words (refusal (Use k)) (omega arith)
  concluded_well (Err Start) ran h = undone words (refusal Start) (omega arith)
  concluded_well (Err (Untyped r)) ran h = undone words (refusal (Untyped r)) (omega arith)
  concluded_well (Err Long) ran h = undone words (refusal Long) (omega arith)
  concluded_well (Err Work) ran h = undone words (refusal Work) (omega arith)

  -- passed by the type check
  typed_passed : type_check words literals ≡ passed → (table_check words literals ≡ passed) × (type_rules words ≡ passed)
  unfolding type_check
  typed_passed e = followed_by_passed (table_check words literals) (type_rules words) e

  run_well : type_check words literals ≡ passed → (message : List ℕ) (budget : ℕ) → WellTyped words (answer_of (run (setting_of words literals message) budget))
  unfolding type_rules
  run_well e message budget =
      let p = typed_passed e in
      let table = sound_of_form words literals p.0 in
      let inherits : (rule_of (grammar_of words) 0).inherited ≡ [] = inherited_types words 0 (some_rule words literals table) ∙ rw (start_inherits_none words literals p.0) in
      ran_well table (run_sound (setting_of words literals message) budget
      (typed_grammar (grammar_of words) (refused_at_passed Untyped (untyped (grammar_of words)) p.1)) inherits)

  -- Demand 3, for every table, message, budget and work area: a display run is never STUCK, and the values of its DONE are as declared
  pub display_well_typed : (message : List ℕ) (budget work_length : ℕ) → WellTyped words (answer Display words literals message budget work_length)
  unfolding answer check
  display_well_typed message budget work_length =
      concluded_well (check Display words literals (length message) work_length) (run (setting_of words literals message) budget)
      (λ e. run_well (followed_by_passed (type_check words literals) _ e).0 message budget)

  -- A bench run of a table that passes the type check is a display run: the same checks, and the same answer, so demand 3 holds of it too
  pub same_check : type_check words literals ≡ passed → (message_length work_length : ℕ) → check Bench words literals message_length work_length ≡ check Display words literals message_length work_length
  unfolding check
  same_check e message_length work_length = rw (e, (typed_passed e).0)

  pub same_answer : type_check words literals ≡ passed → (message : List ℕ) (budget work_length : ℕ) →
      answer Bench words literals message budget work_length ≡ answer Display words literals message budget work_length
  unfolding answer
  same_answer e message budget work_length = rw (same_check e (length message) work_length)

  pub bench_well_typed : type_check words literals ≡ passed → (message : List ℕ) (budget work_length : ℕ) → WellTyped words (answer Bench words literals message budget work_length)
  bench_well_typed e message budget work_length = rw (same_answer e message budget work_length) (display_well_typed message budget work_length)

pub demand_3 : Demand3
demand_3 = record {
  of_display = λ words literals message budget work_length. display_well_typed words literals message budget work_length;
  of_bench = λ words literals message budget work_length e. bench_well_typed words literals e message budget work_length;
  of_texts = λ mode words literals message budget work_length. texts_there words literals message mode budget work_length;
}
