-- A Text is there with its bytes. In a run of any table of sound form each Text fits the slice it names; what a bind stores are the bytes that its part
-- consumed; a Text node's bytes are its part of the literals; and two Texts are equal exactly where their bytes are the same. Assumes nothing.
use Rattle.std.specs.Prelude.{Ok, Err}
use mathlib.Core.Path.{◌≡◌, refl, sym, ap, subst, ◌∙◌}
use mathlib.Core.Logic.{◌↔◌}
use mathlib.Core.List.{List, [], ◌∷◌, map}
use mathlib.Core.Bool.{Bool, true, false}
use Prim.Native.Nat.{ℕ, zero, suc, ◌+◌, ◌-◌, ◌<◌, ◌≤◌}
use native.Mathlib.Omega.{arith}
use lib.Dec.{ltb}
use lib.ListN.{get_or, set, length, take, drop, length-drop, get_or-eq_default}
use lib.Seq.{get_or-set_same, length-take-le}
use borrow.Author.Tests.{ltb-true, ltb-false, le-leb, eq-eqb}
use Rattle.laws.specs.Same.{same, same_equal}
use Rattle.grammar.specs.declared.Refusal.{Refusal}
use Rattle.grammar.specs.Form.{Verdict, passed}
use Rattle.grammar.specs.declared.Node.{Node}
use Rattle.grammar.specs.declared.Node.TheVariants as N
use Rattle.grammar.specs.declared.Mode.{Mode}
use Rattle.grammar.specs.declared.Mode.TheVariants.{Bench, Display}
use Rattle.grammar.specs.declared.Span.{Span}
use Rattle.grammar.specs.declared.Value.{Value}
use Rattle.grammar.specs.declared.Value.TheVariants as Val
use Rattle.grammar.specs.Words.{rule_count, node_count, literal_count, rule_word, inherited_count, returned_count, node_at}
use Rattle.grammar.specs.Tree.{Expr, bool, integer, text, slot, binary, negation}
use Rattle.grammar.specs.Tree.{Parsing, empty, terminal, sequence, choice, repeat, unless, call, bind, update, constraint}
use Rattle.grammar.specs.Tree.{levels_of, expr_of, parsing_of, expr_with, expr_at, parsing_with, parsing_at, rule_of, rule_at, grammar_of}
use Rattle.grammar.specs.Form.{table_check}
use Rattle.grammar.specs.Values.{Evaluated, value, slice_of, span_bytes, text_bytes, same_texts, equal}
use Rattle.grammar.specs.Run.{Slots, Setting, Tally, counted, eval, eval_all, Applied, matched, failed, ended, out_of_fuel, next, giving_back, onward, with_value, fresh, message_part, rounds, Due, fine, no_budget, too_deep, due, visit, admit, apply}
use Rattle.grammar.specs.Answer.{deepest_visit, type_rules, type_check, check_for, check, run, answered, answer_of, refusal, conclude, setting_of, answer}
use Rattle.grammar.specs.Demand.{values_of, TextsThere}
use Rattle.grammar.proofs.Facts.{SoundTable, sizes, followed_by_passed, sound_of_form}
use Rattle.grammar.proofs.Records.{four_places, rule_right}
use Rattle.grammar.proofs.Nodes.{NodeRight, node_right, node_holds}
use Rattle.grammar.proofs.Decode.{grammar_length, rule_tree, expr_tree}
use Rattle.grammar.proofs.Held.{Goods, AllGood, TextsGood, AllTextsGood, NodeTextsGood, GrammarGood, Gives, gives, ends_here, Inside, inside_matched, inside_failed, inside_ended, inside_out, good_at, fresh_good, eval_all_gives, apply_keeps}

-- ════ The bytes of a part ════

-- the bytes of a message between two positions
abbrev pub between : List ℕ → (from to : ℕ) → List ℕ
between message from to = take (to - from) (drop from message)

pub part_bytes : (message literals : List ℕ) (from to : ℕ) → from ≤ to → to ≤ length message →
    text_bytes message literals (message_part from to) ≡ between message from to
unfolding text_bytes span_bytes
part_bytes message literals from to h l = rw (le-leb (from + (to - from)) (length message) (omega arith))

-- a Text that fits has as many bytes as it says
pub fitting_length : (message literals : List ℕ) (s : Span) → s.start + s.length ≤ length (slice_of message literals s) →
    length (text_bytes message literals (Val.Text s)) ≡ s.length
unfolding text_bytes span_bytes
fitting_length message literals s h =
    let slice = slice_of message literals s in
    rw (le-leb (s.start + s.length) (length slice) h) (length-take-le s.length (drop s.start slice) (omega (arith, length-drop s.start slice)))

-- ════ 'Bind consumes what its part consumes': a bind that matched has stored just these bytes ════

module _ (Good : Value → Type 0) (all : (v : Value) → Good v) where
  all_texts : (e : Expr) → TextsGood Good e
  all_texts (bool k b) = tt
  all_texts (integer k z) = tt
  all_texts (text k start length) = all _
  all_texts (slot k s) = tt
  all_texts (binary k op e f) = (all_texts e, all_texts f)
  all_texts (negation k e) = all_texts e

  each_texts : (es : List Expr) → AllTextsGood Good es
  each_texts [] = tt
  each_texts (e ∷ es) = (all_texts e, each_texts es)

  node_texts : (p : Parsing) → NodeTextsGood Good p
  node_texts (empty k) = tt
  node_texts (terminal k byte) = tt
  node_texts (sequence k p q) = (node_texts p, node_texts q)
  node_texts (choice k p q) = (node_texts p, node_texts q)
  node_texts (repeat k p) = node_texts p
  node_texts (unless k p) = node_texts p
  node_texts (call k r es ss) = each_texts es
  node_texts (bind k s p) = node_texts p
  node_texts (update k s e) = all_texts e
  node_texts (constraint k e) = all_texts e

  every_value : (vs : List Value) → AllGood Good vs
  every_value [] = tt
  every_value (v ∷ vs) = (all v, every_value vs)

-- of any value at all
abbrev Any : Value → Type 0
Any v = Unit {0}

module _ (S : Setting) where
  -- the positions and the number of slots, whatever the grammar and the slots
  goes_forward : (budget deepest fuel depth : ℕ) (p : Parsing) (at : ℕ) (slots : Slots) (t : Tally) → at ≤ length S.message →
      Inside S.message Any at (length slots) (apply S budget deepest fuel depth p at slots t)
  goes_forward budget deepest fuel depth p at slots t l =
      apply_keeps S Any (record { absent = tt; bool = λ _. tt; integer = λ _. tt; part = λ _ _ _ _. tt })
      (record { body = λ r. node_texts Any (λ _. tt) (rule_of S.grammar r).body; returned = λ r. each_texts Any (λ _. tt) (rule_of S.grammar r).returned })
      budget deepest fuel depth p at slots t (node_texts Any (λ _. tt) p) l (every_value Any (λ _. tt) slots)

  module _ (s at : ℕ) (slots : Slots) where
    -- what a bind makes of what its part did
    abbrev bound : Applied → Applied
    bound r = giving_back slots (onward r (λ at₁ slots₁ t₁. matched at₁ (set slots₁ s (message_part at at₁)) t₁))

    bound_stores : {r : Applied} {at₁ : ℕ} {slots₁ : Slots} {t₁ : Tally} → s < length slots → Inside S.message Any at (length slots) r →
        bound r ≡ matched at₁ slots₁ t₁ → text_bytes S.message S.literals (get_or slots₁ s Val.Absent) ≡ between S.message at at₁
    unfolding next
    bound_stores {at₁ = at₁} {slots₁ = slots₁} h (inside_matched {at = at₂} {slots = slots₂} c g) e =
        let e₁ : at₂ ≡ at₁ = cc in
        let e₂ : set slots₂ s (message_part at at₂) ≡ slots₁ = cc in
        let stored : get_or slots₁ s Val.Absent ≡ message_part at at₂ =
        ap (λ (z : Slots). get_or z s Val.Absent) (sym e₂) ∙ get_or-set_same slots₂ s (message_part at at₂) Val.Absent (omega (arith, g.number)) in
        rw stored (part_bytes S.message S.literals at at₂ c.0 c.1) ∙ ap (λ (z : ℕ). between S.message at z) e₁
    bound_stores h (inside_failed g) e = absurd (let z : ◌≡◌ {A = ℕ} 0 1 = cc in omega arith)
    bound_stores h inside_ended e = absurd (let z : ◌≡◌ {A = ℕ} 0 1 = cc in omega arith)
    bound_stores h inside_out e = absurd (let z : ◌≡◌ {A = ℕ} 0 1 = cc in omega arith)

  -- Whatever the grammar, the budget and the depth: where a bind of slot s began at a position inside the message and matched, the bytes of slot s are
  -- those from there to where the run stands now
  pub bind_stores : (budget deepest fuel depth k s : ℕ) (p : Parsing) (at : ℕ) (slots : Slots) (t : Tally) {at₁ : ℕ} {slots₁ : Slots} {t₁ : Tally} →
      at ≤ length S.message → s < length slots → apply S budget deepest fuel depth (bind k s p) at slots t ≡ matched at₁ slots₁ t₁ →
      text_bytes S.message S.literals (get_or slots₁ s Val.Absent) ≡ between S.message at at₁
  unfolding apply admit visit
  bind_stores budget deepest zero depth k s p at slots t l h e = absurd (let z : ◌≡◌ {A = ℕ} 0 1 = cc in omega arith)
  bind_stores budget deepest (suc fuel) depth k s p at slots t {at₁} {slots₁} {t₁} l h e = go (due budget deepest depth t.visits) e
    where
      go : (d : Due) → admit S d (apply S budget deepest fuel) (rounds (apply S budget deepest fuel) fuel) depth (bind k s p) at slots t ≡ matched at₁ slots₁ t₁ →
          text_bytes S.message S.literals (get_or slots₁ s Val.Absent) ≡ between S.message at at₁
      go fine e = bound_stores s at slots h (goes_forward budget deepest fuel (suc depth) p at slots (counted t) l) e
      go no_budget e = absurd (let z : ◌≡◌ {A = ℕ} 0 1 = cc in omega arith)
      go too_deep e = absurd (let z : ◌≡◌ {A = ℕ} 0 1 = cc in omega arith)

-- ════ 'Two Texts are equal when their bytes are the same, wherever they stand' ════

same_self : (ns : List ℕ) → same ns ns ≡ true
unfolding same
same_self [] = refl
same_self (n ∷ ns) = rw (eq-eqb n n refl) (same_self ns)

-- equal says of two Texts, true exactly where their bytes are the same
pub record ToldEqual (message literals : List ℕ) (k : ℕ) (s t : Span) : Type 0 where
  pub told : Bool
  pub is_told : equal message literals k (Val.Text s) (Val.Text t) ≡ value (Val.Bool told)
  pub exactly : (told ≡ true) ↔ (text_bytes message literals (Val.Text s) ≡ text_bytes message literals (Val.Text t))

pub equal_exactly : (message literals : List ℕ) (k : ℕ) (s t : Span) → ToldEqual message literals k s t
unfolding equal same_texts text_bytes
equal_exactly message literals k s t = record {
  told = same_texts message literals s t;
  is_told = refl;
  exactly = (
    λ e. same_equal (span_bytes message literals s) (span_bytes message literals t) e,
    λ e. rw e (same_self (span_bytes message literals t)),
  );
}

module _ (words literals message : List ℕ) where
  abbrev S : Setting
  S = setting_of words literals message

  -- the part of a Text fits the slice that it names
  abbrev Fits : Value → Type 0
  Fits Val.Absent = Unit {0}
  Fits (Val.Bool b) = Unit {0}
  Fits (Val.Integer z) = Unit {0}
  Fits (Val.Text s) = s.start + s.length ≤ length (slice_of message literals s)

  goods_fit : Goods message Fits
  goods_fit = record { absent = tt; bool = λ _. tt; integer = λ _. tt; part = λ from to h l. omega arith }

  answered_there : (number place consumed visits : ℕ) (values : List Value) → consumed ≤ length message → AllGood Fits values →
      TextsThere message literals (answered number place consumed visits values)
  answered_there number place consumed visits values l h =
      let at : (i : ℕ) → Fits (get_or values i Val.Absent) = good_at S Fits goods_fit values h in
      let a = answered number place consumed visits values in
      record {
        text_fits = λ i s e. subst Fits e (good_at S Fits goods_fit (values_of a) (at 0, (at 1, (at 2, (at 3, tt)))) i);
        consumed_most = l;
      }

  module _ (table : SoundTable words literals) where
    -- ════ A Text node's bytes are exactly its part of the literals ════

    in_literals : (start size : ℕ) → start + size ≤ literal_count words → start + size ≤ length literals
    in_literals start size h = let e = (sizes words literals table).literals_length in omega arith

    pub text_node_bytes : (k start size : ℕ) → k < node_count words → node_at words k ≡ N.Text start size → (slots : Slots) {v : Value} →
        eval S slots (expr_at words k) ≡ value v → text_bytes message literals v ≡ take size (drop start literals)
    unfolding expr_of eval text_bytes span_bytes
    text_node_bytes k start size h e slots {v} g =
        let inside = in_literals start size (node_holds words literals table k (N.Text start size) h e) in
        let tree : expr_at words k ≡ text k start size = expr_tree words literals table k h ∙ rw e in
        let v_is : Val.Text (record { literal = true; start = start; length = size }) ≡ v = let i = rw tree at g in cc in
        rw (← v_is, le-leb (start + size) (length literals) inside)

    -- ════ Each Text of a run fits ════

    expr_fits : (k : ℕ) (f : ℕ → Expr) → ((a : ℕ) → a < k → TextsGood Fits (f a)) → (n : Node) → NodeRight words k n → TextsGood Fits (expr_of f k n)
    unfolding expr_of
    expr_fits k f h N.Unknown p = tt
    expr_fits k f h N.Empty p = tt
    expr_fits k f h (N.Terminal a) p = tt
    expr_fits k f h (N.Sequence a b) p = tt
    expr_fits k f h (N.Choice a b) p = tt
    expr_fits k f h (N.Repeat a) p = tt
    expr_fits k f h (N.Not a) p = tt
    expr_fits k f h (N.Call r a b c d s t u v) p = tt
    expr_fits k f h (N.Bind s a) p = tt
    expr_fits k f h (N.Update s a) p = tt
    expr_fits k f h (N.Constraint a) p = tt
    expr_fits k f h (N.Bool b) p = tt
    expr_fits k f h (N.Integer z) p = tt
    expr_fits k f h (N.Text start size) p = in_literals start size p
    expr_fits k f h (N.Slot s) p = tt
    expr_fits k f h (N.Binary op a b) p = (h a p.0.below, h b p.1.below)
    expr_fits k f h (N.Negation a) p = h a p.below

    exprs_fit : (fuel k : ℕ) → k < node_count words → TextsGood Fits (expr_with fuel words k)
    unfolding expr_with
    exprs_fit zero k c = tt
    exprs_fit (suc fuel) k c =
        expr_fits k (expr_with fuel words) (λ a l. exprs_fit fuel a (omega arith)) (node_at words k) (node_right words literals table k c)

    tree_fits : (k : ℕ) → k < node_count words → TextsGood Fits (expr_at words k)
    unfolding expr_at
    tree_fits k c = exprs_fit (levels_of k) k c

    -- as many of these as count
    trees_fit : (n : ℕ) (ks : List ℕ) → ((i : ℕ) → i < n → get_or ks i 0 < node_count words) → AllTextsGood Fits (map (expr_at words) (take n ks))
    trees_fit zero ks h = tt
    trees_fit (suc n) [] h = tt
    trees_fit (suc n) (k ∷ ks) h = (tree_fits k (h 0 (omega arith)), trees_fit n ks (λ i l. h (suc i) (omega arith)))

    node_fits : (k : ℕ) (f : ℕ → Parsing) → k < node_count words → ((a : ℕ) → a < k → NodeTextsGood Fits (f a)) → (n : Node) → NodeRight words k n →
        NodeTextsGood Fits (parsing_of (inherited_count words) (returned_count words) (expr_at words) f k n)
    unfolding parsing_of
    node_fits k f c h N.Unknown p = tt
    node_fits k f c h N.Empty p = tt
    node_fits k f c h (N.Terminal a) p = tt
    node_fits k f c h (N.Sequence a b) p = (h a p.0.below, h b p.1.below)
    node_fits k f c h (N.Choice a b) p = (h a p.0.below, h b p.1.below)
    node_fits k f c h (N.Repeat a) p = h a p.below
    node_fits k f c h (N.Not a) p = h a p.below
    node_fits k f c h (N.Call r a b d e s t u v) p =
        trees_fit (inherited_count words r) (a ∷ b ∷ d ∷ e ∷ []) (λ i l. let q = (p.argument i l).below in omega arith)
    node_fits k f c h (N.Bind s a) p = h a p.1.below
    node_fits k f c h (N.Update s a) p = tree_fits a (let q = p.1.below in omega arith)
    node_fits k f c h (N.Constraint a) p = tree_fits a (let q = p.below in omega arith)
    node_fits k f c h (N.Bool b) p = tt
    node_fits k f c h (N.Integer z) p = tt
    node_fits k f c h (N.Text start size) p = tt
    node_fits k f c h (N.Slot s) p = tt
    node_fits k f c h (N.Binary op a b) p = tt
    node_fits k f c h (N.Negation a) p = tt

    nodes_fit : (fuel k : ℕ) → k < node_count words → NodeTextsGood Fits (parsing_with fuel words k)
    unfolding parsing_with
    nodes_fit zero k c = tt
    nodes_fit (suc fuel) k c =
        node_fits k (parsing_with fuel words) c (λ a l. nodes_fit fuel a (omega arith)) (node_at words k) (node_right words literals table k c)

    returned_nodes : (r : ℕ) → r < rule_count words → (i : ℕ) → i < returned_count words r →
        get_or (rule_word words r 7 ∷ rule_word words r 8 ∷ rule_word words r 9 ∷ rule_word words r 10 ∷ []) i 0 < node_count words
    returned_nodes r h i l =
        let right = rule_right words literals table r h in
        let most = right.returned_most in
        let node : (j : ℕ) → j < returned_count words r → rule_word words r (7 + j) < node_count words = λ j g. (right.returned j g).below in
        four_places (λ j. j < returned_count words r → get_or (rule_word words r 7 ∷ rule_word words r 8 ∷ rule_word words r 9 ∷ rule_word words r 10 ∷ []) j 0 < node_count words)
        (node 0) (node 1) (node 2) (node 3) i (omega arith) l

    grammar_fits : GrammarGood Fits (grammar_of words)
    unfolding rule_at parsing_at
    grammar_fits = record { body = λ r. bodies r (ltb r (rule_count words)) refl; returned = λ r. returns r (ltb r (rule_count words)) refl }
      where
        past : (r : ℕ) → ltb r (rule_count words) ≡ false → length (grammar_of words) ≤ r
        past r e = let l = ltb-false r (rule_count words) e in omega (arith, grammar_length words)

        bodies : (r : ℕ) (b : Bool) → ltb r (rule_count words) ≡ b → NodeTextsGood Fits (rule_of (grammar_of words) r).body
        bodies r true e =
            let l = ltb-true r (rule_count words) e in
            rw (rule_tree words r l) (nodes_fit (suc (rule_word words r 0)) (rule_word words r 0) (rule_right words literals table r l).body.below)
        bodies r false e = rw (get_or-eq_default (grammar_of words) _ (past r e)) tt

        returns : (r : ℕ) (b : Bool) → ltb r (rule_count words) ≡ b → AllTextsGood Fits (rule_of (grammar_of words) r).returned
        returns r true e =
            let l = ltb-true r (rule_count words) e in
            rw (rule_tree words r l) (trees_fit (returned_count words r) (rule_word words r 7 ∷ rule_word words r 8 ∷ rule_word words r 9 ∷ rule_word words r 10 ∷ [])
            (returned_nodes r l))
        returns r false e = rw (get_or-eq_default (grammar_of words) _ (past r e)) tt

    -- a match stands inside the message, and its values fit; of any other end nothing is asked
    abbrev Ran : Applied → Type 0
    Ran (matched at values t) = (at ≤ length message) × AllGood Fits values
    Ran (failed slots t) = Unit {0}
    Ran (ended why place t) = Unit {0}
    Ran out_of_fuel = Unit {0}

    run_fits : (budget : ℕ) → Ran (run S budget)
    unfolding run with_value next
    run_fits budget =
        returned (apply_keeps S Fits goods_fit grammar_fits budget deepest_visit (suc budget) 1 (rule_of S.grammar 0).body 0 (fresh []) (record { visits = 0 })
        (grammar_fits.body 0) (omega arith) (fresh_good S Fits goods_fit [] tt))
      where
        evaluated : (at : ℕ) (t : Tally) (e : Evaluated (List Value)) → at ≤ length message → Gives (AllGood Fits) e → Ran (with_value e t (λ results. matched at results t))
        evaluated at t e l (gives g) = (l, g)
        evaluated at t e l ends_here = tt

        returned : {n : ℕ} {r : Applied} → Inside message Fits 0 n r →
            Ran (onward r (λ at slots t. with_value (eval_all S slots (rule_of (grammar_of words) 0).returned) t (λ results. matched at results t)))
        returned (inside_matched {at = at} {slots = slots} {t = t} c h) =
            evaluated at t _ c.1 (eval_all_gives S Fits goods_fit slots h.good (rule_of (grammar_of words) 0).returned (grammar_fits.returned 0))
        returned (inside_failed h) = tt
        returned inside_ended = tt
        returned inside_out = tt

    -- ════ The answer ════

    ran_there : (r : Applied) → Ran r → TextsThere message literals (answer_of r)
    unfolding answer_of
    ran_there (matched at values t) h = answered_there _ 0 at t.visits values h.0 h.1
    ran_there (failed slots t) h = answered_there _ 0 0 t.visits [] (omega arith) tt
    ran_there (ended why k t) h = answered_there _ k 0 t.visits [] (omega arith) tt
    ran_there out_of_fuel h = answered_there _ 0 0 0 [] (omega arith) tt

  refused_there : (why : Refusal) → TextsThere message literals (refusal why)
  unfolding refusal
  refused_there why = answered_there _ _ 0 0 [] (omega arith) tt

  concluded_there : (v : Verdict) (ran : Applied) → (v ≡ passed → TextsThere message literals (answer_of ran)) → TextsThere message literals (conclude v ran)
  unfolding conclude
  concluded_there (Ok _) ran h = h refl
  concluded_there (Err why) ran h = refused_there why

  -- either mode checks the table's form
  form_passed : (mode : Mode) → check_for mode words literals ≡ passed → table_check words literals ≡ passed
  unfolding type_check
  form_passed Bench e = e
  form_passed Display e = (followed_by_passed (table_check words literals) (type_rules words) e).0

  -- For every table, message, budget and work area, bench or display: each Text of the answer fits, and no more is consumed than there is
  pub texts_there : (mode : Mode) (budget work_length : ℕ) → TextsThere message literals (answer mode words literals message budget work_length)
  unfolding answer check
  texts_there mode budget work_length =
      concluded_there (check mode words literals (length message) work_length) (run S budget) (λ e.
      let table = sound_of_form words literals (form_passed mode (followed_by_passed (check_for mode words literals) _ e).0) in
      ran_there table (run S budget) (run_fits table budget))
