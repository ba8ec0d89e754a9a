-- What the table check gives the readers of a table: its sizes, and the test that each word of a record passes. Assumes nothing.
use Rattle.std.specs.Prelude.{Ok, Err, ⊤}
use mathlib.Core.Path.{◌≡◌, refl, subst}
use mathlib.Core.List.{List, [], ◌∷◌}
use mathlib.Core.Bool.{Bool, true, false}
use mathlib.Core.Option.{Option, none, some}
use Prim.Native.Nat.{ℕ, zero, suc, ◌+◌, ◌*◌, ◌-◌, ◌/◌, ◌%◌, ◌<◌, ◌≤◌}
use native.Mathlib.Omega.{arith}
use lib.Dec.{leb, eqb}
use lib.ListN.{get_or, length}
use borrow.Author.Tests.{leb-true, eqb-true, lt-ltb, le-ltb}
use Rattle.laws.specs.Counting.{smallest_failing}
use Rattle.laws.specs.Smallest.{smallest_all}
use Rattle.laws.specs.Tests.{both_left, both_right}
use Rattle.grammar.specs.declared.Refusal.{Refusal}
use Rattle.grammar.specs.declared.Refusal.TheVariants.{Size, Field, Use, Start}
use Rattle.grammar.specs.Words.{rule_count, node_count, literal_count, rule_start, node_start, inherited_count}
use Rattle.grammar.specs.Form.{rule_word_ok, node_word_ok, word_ok, uses, every, size_ok, followed_by, unless_ok, refused_at, size_check, field_check, use_check, start_check, table_check, Verdict, passed}

-- ════ Checks that passed ════

-- every verdict but `passed`
abbrev pub Refused : Verdict → Type 0
Refused (Ok _) = ⊥
Refused (Err why) = ⊤

pub not_passed : {A : Type 0} (why : Refusal) → Err why ≡ passed → A
not_passed why e = absurd (subst Refused e tt)

pub followed_by_passed : (v w : Verdict) → followed_by v w ≡ passed → (v ≡ passed) × (w ≡ passed)
followed_by_passed (Ok _) w e = (refl, e)
followed_by_passed (Err why) w e = not_passed why e

pub unless_ok_passed : (b : Bool) (why : Refusal) → unless_ok b why ≡ passed → b ≡ true
unless_ok_passed true why e = refl
unless_ok_passed false why e = not_passed why e

pub refused_at_passed : (refusal : ℕ → Refusal) (o : Option ℕ) → refused_at refusal o ≡ passed → o ≡ none
refused_at_passed refusal none e = refl
refused_at_passed refusal (some i) e = not_passed (refusal i) e

-- ════ A table that passes SIZE and FIELD ════

pub record SoundTable (words literals : List ℕ) : Type 0 where
  pub size : size_check words literals ≡ passed
  pub field : field_check words ≡ passed

module _ (words literals : List ℕ) where
  module _ (sound : table_check words literals ≡ passed) where
    checks_passed : (size_check words literals ≡ passed) × (field_check words ≡ passed) × (use_check words ≡ passed) × (start_check words ≡ passed)
    unfolding table_check
    checks_passed =
        let a = followed_by_passed (size_check words literals) (followed_by (field_check words) (followed_by (use_check words) (start_check words))) sound in
        let b = followed_by_passed (field_check words) (followed_by (use_check words) (start_check words)) a.1 in
        let c = followed_by_passed (use_check words) (start_check words) b.1 in
        (a.0, b.0, c.0, c.1)

    pub sound_of_form : SoundTable words literals
    sound_of_form = record { size = checks_passed.0; field = checks_passed.1 }

    -- 'Each node is used exactly once'
    pub used_once : (k : ℕ) → k < node_count words → uses words k ≡ 1
    used_once k h = eqb-true (uses words k) 1 (smallest_all (λ n. eqb (uses words n) 1) 0 (node_count words)
        (refused_at_passed Use (smallest_failing (λ n. eqb (uses words n) 1) 0 (node_count words)) checks_passed.2) k (omega arith) (omega arith))

    -- rule 0 inherits nothing
    pub start_inherits_none : inherited_count words 0 ≡ 0
    start_inherits_none = eqb-true (inherited_count words 0) 0 (unless_ok_passed (eqb (inherited_count words 0) 0) Start checks_passed.3)

-- ════ Sizes ════

every_at : (ts : List Bool) → every ts ≡ true → (i : ℕ) → get_or ts i true ≡ true
unfolding every
every_at [] e i = refl
every_at (t ∷ ts) e zero = both_left t (every ts) e
every_at (t ∷ ts) e (suc i) = every_at ts (both_right t (every ts) e) i

pub record Sizes (words literals : List ℕ) : Type 0 where
  pub some_rule : 1 ≤ rule_count words
  pub most_rules : rule_count words ≤ 64
  pub some_node : 1 ≤ node_count words
  pub most_nodes : node_count words ≤ 1024
  pub most_literals : literal_count words ≤ 4096
  pub words_length : length words ≡ 3 + 15 * rule_count words + 10 * node_count words
  pub literals_length : length literals ≡ literal_count words

pub sizes : (words literals : List ℕ) → SoundTable words literals → Sizes words literals
unfolding size_ok
sizes words literals table =
    let test = every_at (leb 3 (length words)
    ∷ leb 1 (rule_count words) ∷ leb (rule_count words) 64
    ∷ leb 1 (node_count words) ∷ leb (node_count words) 1024
    ∷ leb (literal_count words) 4096
    ∷ eqb (length words) (3 + 15 * rule_count words + 10 * node_count words)
    ∷ eqb (length literals) (literal_count words)
    ∷ []) (unless_ok_passed (size_ok words (length literals)) Size table.size) in
    record {
      some_rule = leb-true 1 (rule_count words) (test 1);
      most_rules = leb-true (rule_count words) 64 (test 2);
      some_node = leb-true 1 (node_count words) (test 3);
      most_nodes = leb-true (node_count words) 1024 (test 4);
      most_literals = leb-true (literal_count words) 4096 (test 5);
      words_length = eqb-true (length words) (3 + 15 * rule_count words + 10 * node_count words) (test 6);
      literals_length = eqb-true (length literals) (literal_count words) (test 7);
    }

-- ════ Each word of each record passes its test ════

module _ (words literals : List ℕ) (table : SoundTable words literals) where
  word_passes : (i : ℕ) → 3 ≤ i → i < length words → word_ok words i ≡ true
  word_passes i low high = smallest_all (word_ok words) 3 _ (refused_at_passed Field _ table.field) i low (omega arith)

  pub rule_word_lem : (r j : ℕ) → r < rule_count words → j < 15 → rule_word_ok words r j ≡ true
  unfolding word_ok
  rule_word_lem r j hr hj =
      let size = sizes words literals table in
      let q : (rule_start r + j - 3) / 15 ≡ r = omega arith in
      let m : (rule_start r + j - 3) % 15 ≡ j = omega arith in
      rw (lt-ltb (rule_start r + j) (node_start words 0) (omega arith), q, m) at (word_passes (rule_start r + j) (omega arith) (omega arith))

  pub node_word_lem : (k j : ℕ) → k < node_count words → j < 10 → node_word_ok words k j ≡ true
  unfolding word_ok
  node_word_lem k j hk hj =
      let size = sizes words literals table in
      let q : (node_start words k + j - node_start words 0) / 10 ≡ k = omega arith in
      let m : (node_start words k + j - node_start words 0) % 10 ≡ j = omega arith in
      rw (le-ltb (node_start words k + j) (node_start words 0) (omega arith), q, m) at (word_passes (node_start words k + j) (omega arith) (omega arith))
