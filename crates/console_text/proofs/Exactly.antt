-- The plain meaning of the console's input, its first half: the inputs that are accepted are exactly those that are spelt so. Assumes nothing.
use Rattle.std.specs.Prelude.{Option, Some, None, Err}
use mathlib.Core.Path.{◌≡◌, refl, sym, ap, ◌∙◌, subst}
use mathlib.Core.Logic.{◌↔◌}
use mathlib.Core.List.{List, [], ◌∷◌, ◌++◌, append-nil}
use Prim.Native.Nat.{ℕ, ◌+◌, ◌≤◌, ◌<◌}
use native.Mathlib.Omega.{arith}
use lib.ListN.{length, drop, replicate, length-replicate}
use lib.Seq.{drop-length}
use Rattle.laws.specs.Below.{AllBelow}
use Rattle.laws.specs.Parts.{Stands, stands, stands_then, stands_first, stands_second}
use Rattle.grammar.specs.declared.Mode.{Mode}
use Rattle.grammar.specs.declared.Mode.TheVariants.{Bench, Display}
use Rattle.text.specs.Stored.{taking}
use Rattle.text.specs.Found.{on_place, on_number, after_key, number}
use Rattle.text.specs.Written.{decimal, hex}
use Rattle.text.proofs.Keys.{key_stands, key_reads}
use Rattle.text.proofs.Numbers.{number_stands, number_within_lem, number_reads}
use Rattle.text.proofs.Pairs.{pairs_reads}
use Rattle.listing.specs.declared.Lengths.{Lengths}
use Rattle.listing.specs.declared.Unread.TheVariants.{Line}
use Rattle.std.proofs.lemmas.Option.{some_pair_parts}
use Rattle.listing.specs.Listing.{listing}
use Rattle.listing.specs.Reading.{done, key_at, Filled, fill, read_from}
use Rattle.listing.specs.Plain as Listing
use Rattle.listing.proofs.Exactly.{front_is, told, accepted_exactly as listing_exactly}
use Rattle.console_text.specs.Asked.{bench_line, display_line, budget_key, message_key, Said, says, wrong_line, on_said, on_mode, Table, Asked, mode_line, budget_at, message_at, table_at, from_fourth, from_third, from_second, said}
use Rattle.console_text.specs.Printed.{number_line}
use Rattle.console_text.specs.Lent.{table_words, table_literals}
use Rattle.console_text.specs.Plain.{mode_spelt, message_spelt, spelt, Right, AcceptedExactly}
use Rattle.console_text.proofs.Tables.{same_lengths, read_said, read_says, message_found}

-- ════ The listing ════

-- a slice with room for n numbers
record Room (n : ℕ) : Type 0 where
  slice : List ℕ
  long : n ≤ length slice

room : (n : ℕ) → Room n
room n = record { slice = replicate n 0; long = omega (arith, length-replicate {A = ℕ} n 0) }

same_table : (t u : Table) → t.words ≡ u.words → t.literals ≡ u.literals → t ≡ u
same_table t u e f =
    ap (λ (z : List ℕ). record { words = z; literals = t.literals }) e ∙ ap (λ (z : List ℕ). record { words = u.words; literals = z }) f

-- the rest of the input is the listing of a table of right size
record Table-spelt (input : List ℕ) (p : ℕ) (t : Table) : Type 0 where
  table : Listing.Table t.words t.literals
  is : drop p input ≡ listing t.words t.literals

-- through what the listing's reader answers where there is room for every table, and plainly for this one
module _ (input : List ℕ) (p : ℕ) (t : Table) (words : Room (table_words + length t.words)) (literals : Room (table_literals + length t.literals)) where
  reads : read_from input p 4 words.slice literals.slice ≡ read_said words.slice literals.slice (table_at input p)
  reads = read_says input p words.slice literals.slice (omega (arith, words.long)) (omega (arith, literals.long))

  exactly : (read_from input p 4 words.slice literals.slice ≡ fill t.words t.literals words.slice literals.slice)
      ↔ Listing.Listed input p words.slice literals.slice t.words t.literals
  exactly = listing_exactly input p 4 words.slice literals.slice t.words t.literals

  table_found_in : table_at input p ≡ says t → Table-spelt input p t
  table_found_in e =
      let l = exactly.0 (reads ∙ ap (read_said words.slice literals.slice) e) in
      record { table = l.table; is = l.is }

  said_table : (s : Said Table) → read_said words.slice literals.slice s ≡ fill t.words t.literals words.slice literals.slice → s ≡ says t
  said_table (says u) e =
      let f : done (length u.words) (length u.literals) ≡ done (length t.words) (length t.literals) = ap (λ (z : Filled). z.answer) e in
      let same = same_lengths f in
      let m : length u.words ≡ length t.words = ap (λ (z : Lengths). z.words) same in
      let n : length u.literals ≡ length t.literals = ap (λ (z : Lengths). z.literals) same in
      let x : u.words ≡ t.words = front_is u.words t.words words.slice m (ap (λ (z : Filled). z.words) e) in
      let y : u.literals ≡ t.literals = front_is u.literals t.literals literals.slice n (ap (λ (z : Filled). z.literals) e) in
      ap says (same_table u t x y)
  said_table (wrong_line n) e =
      let f : Err (Line n) ≡ done (length t.words) (length t.literals) = ap (λ (z : Filled). z.answer) e in
      let z : ◌≡◌ {A = ℕ} 0 1 = cc in
      absurd (omega arith)

  table_back_in : Table-spelt input p t → table_at input p ≡ says t
  table_back_in s =
      said_table (table_at input p)
      (sym reads ∙ exactly.1 (record {
        table = s.table;
        is = s.is;
        word_room = omega (arith, words.long);
        literal_room = omega (arith, literals.long);
      }))

module _ (input : List ℕ) where
  table_found : (p : ℕ) (t : Table) → table_at input p ≡ says t → Table-spelt input p t
  table_found p t = table_found_in input p t (room (table_words + length t.words)) (room (table_literals + length t.literals))

  table_back : (p : ℕ) (t : Table) → Table-spelt input p t → table_at input p ≡ says t
  table_back p t = table_back_in input p t (room (table_words + length t.words)) (room (table_literals + length t.literals))

  -- a wrong line of the listing is told by its number in the input
  pub table_wrong : (p m : ℕ) → table_at input p ≡ wrong_line m → (n : ℕ) × (m ≡ 4 + n) × Listing.FirstWrong Listing.IsListing (drop p input) n
  table_wrong p m e =
      let words = room table_words in
      let literals = room table_literals in
      let t = told input p 4 m words.slice literals.slice
      (read_says input p words.slice literals.slice words.long literals.long ∙ ap (read_said words.slice literals.slice) e) in
      (t.0, t.1, t.2)

  -- ════ The first two lines: what is found stands there (Tables.antt has it of the third) ════

  pub mode_found : (mode : Mode) (q : ℕ) → mode_line input ≡ Some (mode, q) → Stands input 0 (mode_spelt mode) q
  unfolding mode_line
  mode_found mode q = bench (key_at input bench_line 0) refl
    where
      display : (s : Option ℕ) → key_at input display_line 0 ≡ s → on_place {A = Option (Mode × ℕ)} None (λ x. Some (Display, x)) s ≡ Some (mode, q) → Stands input 0 (mode_spelt mode) q
      display (Some x) f e =
          let same = some_pair_parts Display mode x q e in
          let m : Display ≡ mode = same.0 in
          let n : x ≡ q = same.1 in
          subst (λ (z : Mode). Stands input 0 (mode_spelt z) q) m (key_stands input display_line 0 q (f ∙ ap Some n))
      display None f e = let z : ◌≡◌ {A = ℕ} 0 1 = cc in absurd (omega arith)

      bench : (s : Option ℕ) → key_at input bench_line 0 ≡ s
          → on_place {A = Option (Mode × ℕ)} (on_place None (λ x. Some (Display, x)) (key_at input display_line 0)) (λ x. Some (Bench, x)) s ≡ Some (mode, q) → Stands input 0 (mode_spelt mode) q
      bench (Some x) f e =
          let same = some_pair_parts Bench mode x q e in
          let m : Bench ≡ mode = same.0 in
          let n : x ≡ q = same.1 in
          subst (λ (z : Mode). Stands input 0 (mode_spelt z) q) m (key_stands input bench_line 0 q (f ∙ ap Some n))
      bench None f e = display (key_at input display_line 0) refl e

  pub record Budget-stands (p n q : ℕ) : Type 0 where
    pub part : Stands input p (number_line budget_key n) q
    pub fits : n < 4294967296

  pub budget_found : (p n q : ℕ) → budget_at input p ≡ Some (n, q) → Budget-stands p n q
  unfolding budget_at number_line
  budget_found p n q = go (key_at input budget_key p) refl
    where
      go : (s : Option ℕ) → key_at input budget_key p ≡ s → on_place None (λ x. number 10 4294967295 x (drop x input)) s ≡ Some (n, q) → Budget-stands p n q
      go (Some x) f e =
          record {
            part = stands_then (key_stands input budget_key p x f) (number_stands input 10 4294967295 x n q (omega arith) e);
            fits = omega (arith, number_within_lem 10 4294967295 x (drop x input) n q (omega arith) e);
          }
      go None f e = let z : ◌≡◌ {A = ℕ} 0 1 = cc in absurd (omega arith)

  -- ════ The first three lines: what stands there is found ════

  pub mode_back : (mode : Mode) (q : ℕ) → Stands input 0 (mode_spelt mode) q → mode_line input ≡ Some (mode, q)
  unfolding mode_line after_key
  mode_back Bench q s = rw (key_reads input bench_line 0 q s)
  mode_back Display q s =
      let other : key_at input bench_line 0 ≡ None = ap (after_key bench_line 0) s.is in
      rw (other, key_reads input display_line 0 q s)

  pub budget_back : (p n q : ℕ) → n < 4294967296 → Stands input p (number_line budget_key n) q → budget_at input p ≡ Some (n, q)
  unfolding budget_at number_line
  budget_back p n q h s =
      let rest : List ℕ = decimal n ++ (10 ∷ []) in
      let x : ℕ = p + length budget_key in
      rw (key_reads input budget_key p x (stands_first budget_key rest s))
      (number_reads input 10 4294967295 x n q (omega arith) (omega arith) (omega arith) (stands_second budget_key rest s))

  pub message_back : (p q : ℕ) (message : List ℕ) → AllBelow 256 message → Stands input p (message_spelt message) q
      → message_at input p ≡ taking message (Some (length message, q))
  unfolding message_at
  message_back p q message h s =
      let rest : List ℕ = hex message ++ (10 ∷ []) in
      let x : ℕ = p + length message_key in
      rw (key_reads input message_key p x (stands_first message_key rest s)) (pairs_reads input message x q h (stands_second message_key rest s))

  -- ════ The whole ════

  only : (a : Asked) → said input ≡ says a → Right a × (input ≡ spelt a)
  unfolding said spelt
  only a = modes (mode_line input) refl
    where
      fourth : (mode : Mode) (b budget p n q : ℕ) (s : Said Table) → Stands input 0 (mode_spelt mode) b → Budget-stands b budget p
          → (message_at input p).found ≡ Some (n, q) → table_at input q ≡ s
          → on_said wrong_line (λ table. says (record { mode = mode; budget = budget; message = (message_at input p).numbers; table = table })) s ≡ says a
          → Right a × (input ≡ spelt a)
      fourth mode b budget p n q (says t) w v f g e =
          let made : Asked = record { mode = mode; budget = budget; message = (message_at input p).numbers; table = t } in
          let same : made ≡ a = cc in
          let m = message_found input p n q f in
          let l = table_found q t g in
          let is : input ≡ spelt made =
          w.is ∙ ap (λ (z : List ℕ). mode_spelt mode ++ z)
          (v.part.is ∙ ap (λ (z : List ℕ). number_line budget_key budget ++ z) (m.part.is ∙ ap (λ (z : List ℕ). message_spelt made.message ++ z) l.is)) in
          let right : Right made = record { budget_fits = v.fits; message_fits = m.all; table = l.table } in
          subst (λ (z : Asked). Right z × (input ≡ spelt z)) same (right, is)
      fourth mode b budget p n q (wrong_line m) w v f g e = let z : ◌≡◌ {A = ℕ} 0 1 = cc in absurd (omega arith)

      third : (mode : Mode) (b budget p : ℕ) (s : Option (ℕ × ℕ)) → Stands input 0 (mode_spelt mode) b → Budget-stands b budget p → (message_at input p).found ≡ s
          → on_number (wrong_line 3) (λ n q. from_fourth input mode budget (message_at input p).numbers q) s ≡ says a → Right a × (input ≡ spelt a)
      third mode b budget p (Some (n, q)) w v f e = fourth mode b budget p n q (table_at input q) w v f refl e
      third mode b budget p None w v f e = let z : ◌≡◌ {A = ℕ} 0 1 = cc in absurd (omega arith)

      second : (mode : Mode) (b : ℕ) (s : Option (ℕ × ℕ)) → Stands input 0 (mode_spelt mode) b → budget_at input b ≡ s
          → on_number (wrong_line 2) (λ budget q. from_third input mode budget q) s ≡ says a → Right a × (input ≡ spelt a)
      second mode b (Some (budget, p)) w f e = third mode b budget p (message_at input p).found w (budget_found b budget p f) refl e
      second mode b None w f e = let z : ◌≡◌ {A = ℕ} 0 1 = cc in absurd (omega arith)

      modes : (s : Option (Mode × ℕ)) → mode_line input ≡ s → on_mode (wrong_line 1) (λ mode p. from_second input mode p) s ≡ says a → Right a × (input ≡ spelt a)
      modes (Some (mode, b)) f e = second mode b (budget_at input b) (mode_found mode b f) refl e
      modes None f e = let z : ◌≡◌ {A = ℕ} 0 1 = cc in absurd (omega arith)

  back : (a : Asked) → Right a → input ≡ spelt a → said input ≡ says a
  unfolding said spelt
  back a r e =
      let one : List ℕ = mode_spelt a.mode in
      let two : List ℕ = number_line budget_key a.budget in
      let three : List ℕ = message_spelt a.message in
      let four : List ℕ = listing a.table.words a.table.literals in
      let all : Stands input 0 (spelt a) (length input) = stands input 0 (spelt a) [] (length input) (e ∙ sym (append-nil (spelt a))) (omega (arith, ap length e)) in
      let b : ℕ = 0 + length one in
      let p : ℕ = b + length two in
      let q : ℕ = p + length three in
      let s : Stands input b (two ++ (three ++ four)) (length input) = stands_second one (two ++ (three ++ four)) all in
      let t : Stands input p (three ++ four) (length input) = stands_second two (three ++ four) s in
      let l : drop q input ≡ four =
      (stands_second three four t).is ∙ ap (λ (z : List ℕ). four ++ z) (drop-length input) ∙ append-nil four in
      rw (
        mode_back a.mode b (stands_first one (two ++ (three ++ four)) all),
        budget_back b a.budget p r.budget_fits (stands_first two (three ++ four) s),
        message_back p q a.message r.message_fits (stands_first three four t),
        table_back q a.table (record { table = r.table; is = l }),
      )

pub accepted_exactly : AcceptedExactly
accepted_exactly input a = (only input a, λ r. back input a r.0 r.1)
