-- What the node records of a sound table hold, by their kinds. Assumes nothing.
use mathlib.Core.Path.{◌≡◌, refl, subst}
use mathlib.Core.Logic.{◌≢◌}
use mathlib.Core.List.{List, [], ◌∷◌}
use mathlib.Core.Bool.{Bool, true, false, ◌&&◌}
use Prim.Native.Nat.{ℕ, suc, ◌+◌, ◌-◌, ◌<◌, ◌≤◌}
use native.Mathlib.Omega.{arith}
use lib.Dec.{ltb, leb, eqb-suc-zero}
use lib.ListN.{get_or}
use borrow.Author.Tests.{ltb-true, leb-true, lt-leb}
use Rattle.laws.specs.Tests.{never}
use Rattle.laws.specs.Lines.{Lines, done, ◌then◌, line}
use Rattle.grammar.specs.declared.Node.{Node}
use Rattle.grammar.specs.declared.Node.TheVariants as N
use Rattle.grammar.specs.Words.{rule_count, node_count, literal_count, node_word, inherited_count, returned_count, kind_at, nodes, node_for, node_at}
use Rattle.grammar.specs.Form.{Sort, unused, byte, parsing, expression, rule, slot, argument, receiving, text_start, text_length}
use Rattle.grammar.specs.Form.{no_field, one_field, two_fields, field_sorts, field_sort, is_parsing, is_expression, is_kind, is_part, fits, node_word_ok}
use Rattle.grammar.proofs.Facts.{SoundTable, node_word_lem}
use Rattle.grammar.proofs.Records.{four_places, in_use, ParsingPart, ExpressionPart, part, rule_right}

-- the sort of a node
unfoldable pub is_parsing_node : Node → Bool
is_parsing_node N.Unknown = false
is_parsing_node N.Empty = true
is_parsing_node (N.Terminal a) = true
is_parsing_node (N.Sequence a b) = true
is_parsing_node (N.Choice a b) = true
is_parsing_node (N.Repeat a) = true
is_parsing_node (N.Not a) = true
is_parsing_node (N.Call r a b c d s t u v) = true
is_parsing_node (N.Bind s a) = true
is_parsing_node (N.Update s a) = true
is_parsing_node (N.Constraint a) = true
is_parsing_node (N.Bool b) = false
is_parsing_node (N.Integer z) = false
is_parsing_node (N.Text start length) = false
is_parsing_node (N.Slot s) = false
is_parsing_node (N.Binary op a b) = false
is_parsing_node (N.Negation a) = false

unfoldable pub is_expression_node : Node → Bool
is_expression_node N.Unknown = false
is_expression_node N.Empty = false
is_expression_node (N.Terminal a) = false
is_expression_node (N.Sequence a b) = false
is_expression_node (N.Choice a b) = false
is_expression_node (N.Repeat a) = false
is_expression_node (N.Not a) = false
is_expression_node (N.Call r a b c d s t u v) = false
is_expression_node (N.Bind s a) = false
is_expression_node (N.Update s a) = false
is_expression_node (N.Constraint a) = false
is_expression_node (N.Bool b) = true
is_expression_node (N.Integer z) = true
is_expression_node (N.Text start length) = true
is_expression_node (N.Slot s) = true
is_expression_node (N.Binary op a b) = true
is_expression_node (N.Negation a) = true

-- the sort of a node is that of its kind
abbrev pub SameSort : ℕ → Node → Type 0
SameSort kind n = (is_parsing kind ≡ is_parsing_node n) × (is_expression kind ≡ is_expression_node n)

-- 'call (rule; four argument nodes; four receiving slots; counts are the callee's n and m)'
pub record CallRight (words : List ℕ) (k r : ℕ) (arguments receiving : List ℕ) : Type 0 where
  pub callee : r < rule_count words
  pub argument : (i : ℕ) → i < inherited_count words r → ExpressionPart words k (get_or arguments i 0)
  pub receiving_slot : (i : ℕ) → i < returned_count words r → get_or receiving i 0 < 16

-- what the fields of node k hold, by its kind. (That it is not Unknown is `known`, below.)
abbrev pub NodeRight : List ℕ → ℕ → Node → Type 0
NodeRight words k N.Unknown = Unit {0}
NodeRight words k N.Empty = Unit {0}
NodeRight words k (N.Terminal a) = a < 256
NodeRight words k (N.Sequence a b) = ParsingPart words k a × ParsingPart words k b
NodeRight words k (N.Choice a b) = ParsingPart words k a × ParsingPart words k b
NodeRight words k (N.Repeat a) = ParsingPart words k a
NodeRight words k (N.Not a) = ParsingPart words k a
NodeRight words k (N.Call r a b c d s t u v) = CallRight words k r (a ∷ b ∷ c ∷ d ∷ []) (s ∷ t ∷ u ∷ v ∷ [])
NodeRight words k (N.Bind s a) = (s < 16) × ParsingPart words k a
NodeRight words k (N.Update s a) = (s < 16) × ExpressionPart words k a
NodeRight words k (N.Constraint a) = ExpressionPart words k a
NodeRight words k (N.Bool b) = Unit {0}
NodeRight words k (N.Integer z) = Unit {0}
NodeRight words k (N.Text start length) = start + length ≤ literal_count words
NodeRight words k (N.Slot s) = s < 16
NodeRight words k (N.Binary op a b) = ExpressionPart words k a × ExpressionPart words k b
NodeRight words k (N.Negation a) = ExpressionPart words k a

-- each field of node k is of its sort in this line of the constant table, and no rule has more than four places in use
record Fitting (words : List ℕ) (k : ℕ) (ss : List Sort) : Type 0 where
  fit : (j : ℕ) → j < 9 → fits words k (node_word words k) (get_or ss j unused) (node_word words k (suc j)) ≡ true
  few : (r : ℕ) → r < rule_count words → (inherited_count words r ≤ 4) × (returned_count words r ≤ 4)

module _ (words : List ℕ) (k : ℕ) where
  -- what a line of the constant table says of the node that its kind and the fields make
  abbrev Says : ℕ → List Sort → Node → Type 0
  Says kind ss n = SameSort kind n × (Fitting words k ss → NodeRight words k n)

  abbrev field : ℕ → ℕ
  field j = node_word words k j

  nothing : {ss : List Sort} → Fitting words k ss → Unit {0}
  nothing h = tt

  a_byte : Fitting words k (one_field byte) → field 1 < 256
  unfolding fits
  a_byte h = ltb-true (field 1) 256 (h.fit 0 (omega arith))

  a_slot : {b : Sort} → Fitting words k (two_fields slot b) → field 1 < 16
  unfolding fits
  a_slot h = ltb-true (field 1) 16 (h.fit 0 (omega arith))

  a_text : Fitting words k (two_fields text_start text_length) → field 1 + field 2 ≤ literal_count words
  unfolding fits
  a_text h = leb-true (field 1 + field 2) (literal_count words) (h.fit 1 (omega arith))

  a_parsing : {b : Sort} → Fitting words k (two_fields parsing b) → ParsingPart words k (field 1)
  unfolding fits
  a_parsing h = part words is_parsing k (field 1) (h.fit 0 (omega arith))

  b_parsing : {a : Sort} → Fitting words k (two_fields a parsing) → ParsingPart words k (field 2)
  unfolding fits
  b_parsing h = part words is_parsing k (field 2) (h.fit 1 (omega arith))

  an_expression : {b : Sort} → Fitting words k (two_fields expression b) → ExpressionPart words k (field 1)
  unfolding fits
  an_expression h = part words is_expression k (field 1) (h.fit 0 (omega arith))

  b_expression : {a : Sort} → Fitting words k (two_fields a expression) → ExpressionPart words k (field 2)
  unfolding fits
  b_expression h = part words is_expression k (field 2) (h.fit 1 (omega arith))

  -- both fields
  ◌also◌ : {ss : List Sort} {A B : Type 0} → (Fitting words k ss → A) → (Fitting words k ss → B) → Fitting words k ss → A × B
  ◌also◌ f g h = (f h, g h)

  infixr 6 ◌also◌
  abbrev call_sorts : List Sort
  call_sorts = rule ∷ argument 0 ∷ argument 1 ∷ argument 2 ∷ argument 3 ∷ receiving 0 ∷ receiving 1 ∷ receiving 2 ∷ receiving 3 ∷ []

  an_argument : (i a : ℕ) → fits words k field (argument i) a ≡ true → i < inherited_count words (field 1) → ExpressionPart words k a
  unfolding fits
  an_argument i a e l = part words is_expression k a (in_use i (inherited_count words (field 1)) (is_part words is_expression k a) a e l)

  a_receiving : (i a : ℕ) → fits words k field (receiving i) a ≡ true → i < returned_count words (field 1) → a < 16
  unfolding fits
  a_receiving i a e l = ltb-true a 16 (in_use i (returned_count words (field 1)) (ltb a 16) a e l)

  a_call : Fitting words k call_sorts →
      CallRight words k (field 1) (field 2 ∷ field 3 ∷ field 4 ∷ field 5 ∷ []) (field 6 ∷ field 7 ∷ field 8 ∷ field 9 ∷ [])
  unfolding fits
  a_call h =
      let c : field 1 < rule_count words = ltb-true (field 1) (rule_count words) (h.fit 0 (omega arith)) in
      let most = h.few (field 1) c in
      record {
        callee = c;
        argument = λ i l. four_places (λ j. j < inherited_count words (field 1) → ExpressionPart words k (get_or (field 2 ∷ field 3 ∷ field 4 ∷ field 5 ∷ []) j 0))
            (an_argument 0 (field 2) (h.fit 1 (omega arith))) (an_argument 1 (field 3) (h.fit 2 (omega arith)))
            (an_argument 2 (field 4) (h.fit 3 (omega arith))) (an_argument 3 (field 5) (h.fit 4 (omega arith))) i (omega arith) l;
        receiving_slot = λ i l. four_places (λ j. j < returned_count words (field 1) → get_or (field 6 ∷ field 7 ∷ field 8 ∷ field 9 ∷ []) j 0 < 16)
            (a_receiving 0 (field 6) (h.fit 5 (omega arith))) (a_receiving 1 (field 7) (h.fit 6 (omega arith)))
            (a_receiving 2 (field 8) (h.fit 7 (omega arith))) (a_receiving 3 (field 9) (h.fit 8 (omega arith))) i (omega arith) l;
      }

  -- a line to a kind, 0 to 28
  kinds : Lines Says 0 field_sorts (nodes (field 1) (field 2) (field 3) (field 4) (field 5) (field 6) (field 7) (field 8) (field 9))
  unfolding field_sorts nodes is_parsing_node is_expression_node
  kinds =
      ((refl, refl), nothing)
      then ((refl, refl), nothing)
      then ((refl, refl), a_byte)
      then ((refl, refl), a_parsing also b_parsing)
      then ((refl, refl), a_parsing also b_parsing)
      then ((refl, refl), a_parsing)
      then ((refl, refl), a_parsing)
      then ((refl, refl), a_call)
      then ((refl, refl), a_slot also b_parsing)
      then ((refl, refl), a_slot also b_expression)
      then ((refl, refl), an_expression)
      then ((refl, refl), nothing) then ((refl, refl), nothing) then ((refl, refl), nothing) then ((refl, refl), nothing) then ((refl, refl), nothing)
      then ((refl, refl), nothing)
      then ((refl, refl), nothing)
      then ((refl, refl), a_text)
      then ((refl, refl), a_slot)
      then ((refl, refl), an_expression also b_expression)
      then ((refl, refl), an_expression also b_expression)
      then ((refl, refl), an_expression also b_expression)
      then ((refl, refl), an_expression also b_expression)
      then ((refl, refl), an_expression also b_expression)
      then ((refl, refl), an_expression also b_expression)
      then ((refl, refl), an_expression also b_expression)
      then ((refl, refl), an_expression also b_expression)
      then ((refl, refl), an_expression)
      then done

  and_false : (b : Bool) → (b && false) ≡ false
  and_false true = refl
  and_false false = refl

  past_kinds : (kind : ℕ) → 29 ≤ kind → Says kind no_field N.Unknown
  unfolding is_parsing_node is_expression_node
  past_kinds kind h =
      ((rw (lt-leb kind 10 (omega arith)) (and_false (leb 1 kind)), rw (lt-leb kind 28 (omega arith)) (and_false (leb 16 kind))), nothing)

  says : Says (kind_at words k) (get_or field_sorts (kind_at words k) no_field) (node_at words k)
  unfolding node_at node_for field_sorts
  says = line no_field N.Unknown kinds past_kinds (kind_at words k) (kind_at words k) (omega arith)

  -- The sort of a node is that of its kind, whatever the table
  pub same_sort : SameSort (kind_at words k) (node_at words k)
  same_sort = says.0

-- ════ A sound table ════

module _ (words literals : List ℕ) (table : SoundTable words literals) where
  fitting : (k : ℕ) → k < node_count words → Fitting words k (get_or field_sorts (kind_at words k) no_field)
  unfolding node_word_ok field_sort
  fitting k h = record {
    fit = λ j l. let e : suc j - 1 ≡ j = omega arith in rw (eqb-suc-zero j, e) at (node_word_lem words literals table k (suc j) h (omega arith));
    few = λ r l. ((rule_right words literals table r l).inherited_most, (rule_right words literals table r l).returned_most);
  }

  -- What the fields of node k hold
  pub node_right : (k : ℕ) → k < node_count words → NodeRight words k (node_at words k)
  node_right k h = (says words k).1 (fitting k h)

  -- the same by the node that it is: `node_holds k (N.Bind s a) h e` has s < 16, and the part a
  pub node_holds : (k : ℕ) (n : Node) → k < node_count words → node_at words k ≡ n → NodeRight words k n
  node_holds k n h e = subst (NodeRight words k) e (node_right k h)

  -- Its kind is one of document 01's
  pub known_kind : (k : ℕ) → k < node_count words → is_kind (kind_at words k) ≡ true
  unfolding node_word_ok
  known_kind k h = node_word_lem words literals table k 0 h (omega arith)

  pub known : (k : ℕ) → k < node_count words → node_at words k ≢ N.Unknown
  unfolding is_parsing_node is_expression_node
  known k h e =
      let s : SameSort (kind_at words k) N.Unknown = rw e at (same_sort words k) in
      never (rw (s.0, s.1) at (known_kind k h))
