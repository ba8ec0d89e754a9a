-- A whole run in words gives the answer that the written meaning gives, and leaves the work area as document 01 says. Assumes nothing but that the
-- table's words are 16-bit numbers: all else the checks before the run give.
use mathlib.Core.Path.{◌≡◌, refl, sym, ap, ap₂, ◌∙◌}
use mathlib.Core.Bool.{Bool, true, false}
use mathlib.Core.List.{List, []}
use Prim.Native.Nat.{ℕ, suc, ◌≤◌}
use native.Mathlib.Omega.{arith}
use borrow.Author.Tests.{leb-true, ltb-true, ltb-false}
use lib.Dec.{leb, ltb}
use lib.ListN.{length, get_or-eq_default}
use Rattle.grammar.specs.declared.Value.{Value}
use Rattle.grammar.specs.declared.Node.TheVariants as N
use Rattle.grammar.specs.declared.Refusal.TheVariants.{Long, Work}
use Rattle.grammar.specs.declared.Mode.{Mode}
use Rattle.grammar.specs.declared.Mode.TheVariants.{Bench, Display}
use Rattle.grammar.specs.Words.{node_count, node_start, nodes, node_for, node_at, rule_word}
use Rattle.grammar.specs.Tree.{Rule, parsing_of, parsing_with, parsing_at, rule_of, rule_at, grammar_of}
use Rattle.grammar.specs.Values.{Evaluated, value, ends}
use Rattle.grammar.specs.Form.{Verdict, passed, followed_by, unless_ok, table_check}
use Rattle.grammar.specs.Run.{Setting, Applied, matched, next, onward, with_value, eval_all, fresh, apply}
use Rattle.grammar.specs.Answer.{work_words, deepest_visit, setting_of, run, answer_of, ending_number, zeroed}
use Rattle.grammar.specs.Answer.{type_rules, type_check, check_for, check, conclude, answer, left_after, work_after}
use Rattle.grammar.proofs.Facts.{SoundTable, Sizes, sizes, sound_of_form, followed_by_passed, unless_ok_passed}
use Rattle.grammar.proofs.Nodes.{node_holds}
use Rattle.grammar.proofs.Decode.{parsing_tree, rule_tree}
use Rattle.frames.specs.Frames.{cleared, slots_in, unset}
use Rattle.stages.specs.declared.Stage.{Stage}
use Rattle.stages.specs.declared.Stage.TheVariants as St
use Rattle.stages.specs.declared.Run.{Run}
use Rattle.calls.specs.Calls.{given_by, returned_by}
use Rattle.stages.specs.Stages.{Stepped, with}
use Rattle.machine.specs.Drive.{rank, weight, done_answer, recorded, started, driven, concluded_in, concluded, rested, ran}
use Rattle.machine.proofs.StackMachine.{entering, steps, meant}
use Rattle.machine.proofs.TreeMachine.{measure, read}
use Rattle.machine.proofs.Resting.{steps_final}
use Rattle.machine.proofs.Meaning.{trees_mean}
use Rattle.machine.proofs.NodeMachine.{NodeState, node_moves}
use Rattle.machine.proofs.NodesAreTrees.{tree_of, Decodes, state_of, tree_named, steps_are}
use Rattle.machine.proofs.Areas.{cleared_rest}
use Rattle.machine.proofs.Decoded.{frames_in, unset_same, unset_slots}
use Rattle.machine.proofs.Ranges.{Short}
use Rattle.machine.proofs.Fitting.{StateFits, fresh_ranged}
use Rattle.machine.proofs.WordVisits.{tally, state_in, state_at, Goes}
use Rattle.machine.proofs.WordsAreNodes.{steps_go}

-- ════ A sound table decodes ════

module _ (words literals : List ℕ) (table : SoundTable words literals) where
  -- past the last node
  past : (k : ℕ) → node_count words ≤ k → node_at words k ≡ N.Unknown
  unfolding node_at node_for nodes
  past k h =
      let size : Sizes words literals = sizes words literals table in
      rw (get_or-eq_default words 0 {n = node_start words k} (omega arith))

  tree_by : (t : Bool) (k : ℕ) → ltb k (node_count words) ≡ t → parsing_at words k ≡ tree_of words k (node_at words k)
  unfolding parsing_at parsing_with parsing_of
  tree_by true k e = parsing_tree words literals table k (ltb-true k (node_count words) e)
  tree_by false k e = rw (past k (ltb-false k (node_count words) e))

  callee_by : (t : Bool) (k r a b c d s₀ s₁ s₂ s₃ : ℕ) → ltb k (node_count words) ≡ t → node_at words k ≡ N.Call r a b c d s₀ s₁ s₂ s₃ →
      rule_of (grammar_of words) r ≡ rule_at words r
  callee_by true k r a b c d s₀ s₁ s₂ s₃ e call =
      rule_tree words r (node_holds words literals table k (N.Call r a b c d s₀ s₁ s₂ s₃) (ltb-true k (node_count words) e) call).callee
  callee_by false k r a b c d s₀ s₁ s₂ s₃ e call =
      let unknown : node_at words k ≡ N.Unknown = past k (ltb-false k (node_count words) e) in
      let z : ◌≡◌ {A = ℕ} 0 1 = cc in
      absurd (omega arith)

  decodes : Decodes words
  decodes = record {
    tree = λ k. tree_by (ltb k (node_count words)) k refl;
    callee = λ k r a b c d s₀ s₁ s₂ s₃ call. callee_by (ltb k (node_count words)) k r a b c d s₀ s₁ s₂ s₃ refl call;
  }

-- ════ What is read off the run at rest ════

module _ (words literals message : List ℕ) where
  abbrev S : Setting
  S = setting_of words literals message

  -- the start rule's returned values, where its body matched
  abbrev returning : Applied → Applied
  returning r = onward r (λ at slots t. with_value (eval_all S slots (rule_of (grammar_of words) 0).returned) t (λ results. matched at results t))

  done_is : (e : Evaluated (List Value)) (r : Run) →
      done_answer (given_by e) r ≡ answer_of (with_value e (tally r.visits) (λ results. matched r.at results (tally r.visits)))
  unfolding done_answer given_by with_value answer_of
  done_is (value vs) r = refl
  done_is (ends why k) r = refl

  module _ (D : Decodes words) (start : rule_of (grammar_of words) 0 ≡ rule_at words 0) where
    concluded_in_lem : (stage : Stage) (r : Run) (w : List ℕ) →
        concluded_in words literals message stage r w
        ≡ answer_of (returning (read (state_of words literals message (state_in stage r.at r.frames r.visits w))))
    unfolding concluded_in state_in meant read next answer_of returned_by rule_at ending_number
    concluded_in_lem (St.Enter k) r w = rw (tree_named words literals message D k)
    concluded_in_lem St.Matched r w = rw start (done_is (eval_all S (slots_in w) (rule_at words 0).returned) r)
    concluded_in_lem St.Failed r w = refl
    concluded_in_lem (St.Deep k) r w = refl
    concluded_in_lem (St.Stuck k) r w = refl
    concluded_in_lem (St.Overflow k) r w = refl
    concluded_in_lem (St.ZeroDivisor k) r w = refl

    concluded_is : (s : Stepped) → concluded words literals message s ≡ answer_of (returning (read (state_of words literals message (state_at s))))
    unfolding concluded state_at
    concluded_is s = concluded_in_lem s.run.stage s.run s.work

    -- ════ The run ════

    module _ (short : Short words) (small : length message ≤ 65535) (budget : ℕ) (work : List ℕ) (room : work_words ≤ length work) where
      -- the start rule's body is due, in fresh slots, with nothing counted
      abbrev first : NodeState
      first = entering (rule_word words 0 0) 0 (fresh []) (tally 0) []

      begins : Goes work (with (started words) (unset work)) first
      unfolding state_at state_in frames_in fresh
      begins = record { is = rw (unset_slots work (omega arith)); few = omega arith; same = unset_same work (omega arith) }

      fits : StateFits message first
      fits = (short _, record { inside = omega arith; ranged = fresh_ranged [] tt; frames = tt })

      rests : Goes work (rested words literals message budget work)
          (steps (node_moves words literals message) budget deepest_visit (weight budget (started words)) first)
      unfolding rested driven
      rests =
          steps_go words literals message short (omega arith) work room budget (weight budget (started words)) (with (started words) (unset work)) first begins fits

      -- the machine over trees, started on the same
      trees : read (state_of words literals message (steps (node_moves words literals message) budget deepest_visit (weight budget (started words)) first))
          ≡ apply S budget deepest_visit (suc budget) 1 (parsing_at words (rule_word words 0 0)) 0 (fresh []) (tally 0)
      unfolding meant measure weight rank
      trees =
          ap read (steps_are words literals message D budget deepest_visit (weight budget (started words)) first
          ∙ steps_final S budget deepest_visit (weight budget (started words)) (state_of words literals message first) (omega arith))
          ∙ trees_mean S budget deepest_visit (suc budget) (parsing_at words (rule_word words 0 0)) 0 (fresh []) (tally 0) (omega arith) (omega arith)

      -- the answer
      answers : concluded words literals message (rested words literals message budget work) ≡ answer_of (run S budget)
      unfolding run rule_at
      answers =
          concluded_is (rested words literals message budget work)
          ∙ ap (λ r. answer_of (returning r)) (ap (λ x. read (state_of words literals message x)) rests.is ∙ trees
          ∙ ap (λ p. apply S budget deepest_visit (suc budget) 1 p 0 (fresh []) (tally 0)) (sym (ap (λ (x : Rule). x.body) start)))

      -- the work area
      leaves : cleared (rested words literals message budget work).work work_words ≡ zeroed work
      unfolding zeroed
      leaves = cleared_rest work_words work (rested words literals message budget work).work room rests.same

-- ════ For the functions that run a table ════

module _ (words literals message : List ℕ) (short : Short words) where
  -- A table that passes the table check, a message that is not LONG, a work area that has W words: the run in words gives the written meaning's answer,
  -- visits included, and leaves the first W words zero and the others untouched
  pub ran_is : table_check words literals ≡ passed → length message ≤ 65535 → (budget : ℕ) (work : List ℕ) → work_words ≤ length work →
      ran words literals message budget work ≡ recorded (answer_of (run (setting_of words literals message) budget)) (zeroed work)
  unfolding ran
  ran_is checked small budget work room =
      let table : SoundTable words literals = sound_of_form words literals checked in
      let start : rule_of (grammar_of words) 0 ≡ rule_at words 0 = rule_tree words 0 (sizes words literals table).some_rule in
      ap₂ recorded
      (answers words literals message (decodes words literals table) start short small budget work room)
      (leaves words literals message (decodes words literals table) start short small budget work room)

  table_form : (mode : Mode) → check_for mode words literals ≡ passed → table_check words literals ≡ passed
  unfolding type_check
  table_form Bench e = e
  table_form Display e = (followed_by_passed (table_check words literals) (type_rules words) e).0

  -- the same for an entry point: where all checks pass, the run in words gives its whole answer
  pub ran_answers : (mode : Mode) (budget : ℕ) (work : List ℕ) → check mode words literals (length message) (length work) ≡ passed →
      ran words literals message budget work ≡ recorded (answer mode words literals message budget (length work)) (work_after mode words literals message work)
  unfolding check answer work_after conclude left_after
  ran_answers mode budget work all =
      let not_long : Verdict = unless_ok (leb (length message) 65535) Long in
      let enough_work : Verdict = unless_ok (leb work_words (length work)) Work in
      let a = followed_by_passed (check_for mode words literals) (followed_by not_long enough_work) all in
      let b = followed_by_passed not_long enough_work a.1 in
      let small : length message ≤ 65535 = leb-true (length message) 65535 (unless_ok_passed (leb (length message) 65535) Long b.0) in
      let room : work_words ≤ length work = leb-true work_words (length work) (unless_ok_passed (leb work_words (length work)) Work b.1) in
      rw all (ran_is (table_form mode a.0) small budget work room)
