-- How long what the console reads and prints is at most. Assumes nothing.
use Rattle.std.specs.Prelude.{Option, Some, None, Result, Ok, Err}
use mathlib.Core.Path.{◌≡◌, refl, ap}
use mathlib.Core.List.{List, [], ◌∷◌}
use mathlib.Core.Bool.{Bool, true, false, cond}
use Prim.Native.Nat.{ℕ, suc, ◌+◌, ◌*◌, ◌≤◌}
use native.Mathlib.Omega.{arith}
use lib.Dec.{ltb}
use lib.IntN.{ℤ, pos, negsuc}
use lib.ListN.{length, take, drop, length-append, length-take, length-drop, get_or}
use borrow.Author.Tests.{ltb-false}
use Rattle.grammar.specs.declared.Mode.{Mode}
use Rattle.grammar.specs.declared.Span.{Span}
use Rattle.grammar.specs.declared.Value.{Value}
use Rattle.grammar.specs.declared.Value.TheVariants as Val
use Rattle.grammar.specs.declared.Answer.{Answer}
use Rattle.grammar.specs.Values.{span_fits, span_bytes, text_bytes}
use Rattle.text.specs.Found.{on_number}
use Rattle.text.specs.Written.{signed_decimal}
use Rattle.text.proofs.Decimals.{decimal_length}
use Rattle.text.proofs.Pairs.{hex_length}
use Rattle.listing.specs.declared.reader.Head.{Head}
use Rattle.listing.specs.Reading.{Lines, head_of, on_head, on_lines, head_at, body_at}
use Rattle.listing.proofs.Whole.{head_found, body_found}
use Rattle.console_text.specs.Asked.{Said, says, wrong_line, on_said, on_mode, Table, Asked, body_said, mode_line, budget_at, message_at, table_at, from_fourth, from_third, from_second, said}
use Rattle.console_text.specs.Printed.{answer_key, place_key, consumed_key, visits_key, number_line, text_text, value_text, value_line, number_lines, value_lines, answer_lines}
use Rattle.console_text.specs.Console.{longest_input, line_record, answer_to, too_long, wrong_at, ran, console_answer, printed, console_text}
use Rattle.console_text.specs.Lent.{message_bytes, table_words, table_literals, output_bytes}
use Rattle.console_text.proofs.Tables.{message_found}

-- ════ What is asked ════

pub record Table-fits (t : Table) : Type 0 where
  pub words_most : length t.words ≤ table_words
  pub literals_most : length t.literals ≤ table_literals

pub record Asked-fits (a : Asked) : Type 0 where
  pub message_most : length a.message ≤ message_bytes
  pub table : Table-fits a.table

module _ (input : List ℕ) where
  table_fits : (p : ℕ) (t : Table) → table_at input p ≡ says t → Table-fits t
  unfolding table_at
  table_fits p t = heads (head_at input 4 p).found refl
    where
      body : (r k n q : ℕ) (s : Lines) → (head_at input 4 p).found ≡ Ok (head_of r k n q) → (body_at input r k 7 q).found ≡ s
          → on_lines wrong_line (λ x. says (record { words = r ∷ k ∷ n ∷ (body_at input r k 7 q).numbers; literals = (head_at input 4 p).numbers })) s ≡ says t
          → Table-fits t
      body r k n q (Ok x) f g e =
          let a = head_found input 4 p r k n q f in
          let b = body_found input r k 7 q x g in
          let made : Table = record { words = r ∷ k ∷ n ∷ (body_at input r k 7 q).numbers; literals = (head_at input 4 p).numbers } in
          let same : made ≡ t = cc in
          let v : length made.words ≡ length t.words = ap (λ (z : Table). length z.words) same in
          let w : length made.literals ≡ length t.literals = ap (λ (z : Table). length z.literals) same in
          record {
            words_most = omega (arith, b.count, a.rules_most, a.nodes_most);
            literals_most = omega (arith, a.count, a.literals_most);
          }
      body r k n q (Err m) f g e = let z : ◌≡◌ {A = ℕ} 0 1 = cc in absurd (omega arith)

      heads : (s : Result Head ℕ) → (head_at input 4 p).found ≡ s → on_head wrong_line (λ r k n q. body_said input r k n q (head_at input 4 p).numbers) s ≡ says t → Table-fits t
      heads (Ok x) f e = body x.rules x.nodes x.literals x.next (body_at input x.rules x.nodes 7 x.next).found f refl e
      heads (Err m) f e = let z : ◌≡◌ {A = ℕ} 0 1 = cc in absurd (omega arith)

  pub asked_fits : length input ≤ longest_input → (a : Asked) → said input ≡ says a → Asked-fits a
  unfolding said
  asked_fits h a = modes (mode_line input)
    where
      fourth : (mode : Mode) (budget p n q : ℕ) (s : Said Table) → (message_at input p).found ≡ Some (n, q) → table_at input q ≡ s
          → on_said wrong_line (λ table. says (record { mode = mode; budget = budget; message = (message_at input p).numbers; table = table })) s ≡ says a → Asked-fits a
      fourth mode budget p n q (says t) f g e =
          let m = message_found input p n q f in
          let w = table_fits q t g in
          let made : Asked = record { mode = mode; budget = budget; message = (message_at input p).numbers; table = t } in
          let same : made ≡ a = cc in
          let fits : Asked-fits made = record { message_most = omega (arith, m.count, m.most); table = w } in
          rw same at fits
      fourth mode budget p n q (wrong_line m) f g e = let z : ◌≡◌ {A = ℕ} 0 1 = cc in absurd (omega arith)

      third : (mode : Mode) (budget p : ℕ) (s : Option (ℕ × ℕ)) → (message_at input p).found ≡ s
          → on_number (wrong_line 3) (λ n q. from_fourth input mode budget (message_at input p).numbers q) s ≡ says a → Asked-fits a
      third mode budget p (Some (n, q)) f e = fourth mode budget p n q (table_at input q) f refl e
      third mode budget p None f e = let z : ◌≡◌ {A = ℕ} 0 1 = cc in absurd (omega arith)

      second : (mode : Mode) (s : Option (ℕ × ℕ)) → on_number (wrong_line 2) (λ budget q. from_third input mode budget q) s ≡ says a → Asked-fits a
      second mode (Some (budget, q)) e = third mode budget q (message_at input q).found refl e
      second mode None e = let z : ◌≡◌ {A = ℕ} 0 1 = cc in absurd (omega arith)

      modes : (s : Option (Mode × ℕ)) → on_mode (wrong_line 1) (λ mode p. from_second input mode p) s ≡ says a → Asked-fits a
      modes (Some (mode, p)) e = second mode (budget_at input p) e
      modes None e = let z : ◌≡◌ {A = ℕ} 0 1 = cc in absurd (omega arith)

-- ════ What is printed ════

number_line_most : (key : List ℕ) (n : ℕ) → length (number_line key n) ≤ length key + 11
unfolding number_line
number_line_most key n = simp length-append (omega (arith, decimal_length n))

number_lines_most : (a : Answer) → length (number_lines a) ≤ 73
unfolding number_lines
number_lines_most a =
    simp length-append
    (omega (
      arith,
      number_line_most answer_key a.number,
      number_line_most place_key a.place,
      number_line_most consumed_key a.consumed,
      number_line_most visits_key a.visits,
    ))

signed_most : (z : ℤ) → length (signed_decimal z) ≤ 11
unfolding signed_decimal
signed_most (pos n) = omega (arith, decimal_length n)
signed_most (negsuc n) = omega (arith, decimal_length (suc n))

text_text_most : (bytes : List ℕ) → length (text_text bytes) ≤ 2 + 2 * length bytes
unfolding text_text
text_text_most [] = omega arith
text_text_most (b ∷ bytes) = omega (arith, hex_length (b ∷ bytes))

part_most : (l : List ℕ) (start n : ℕ) → length (take n (drop start l)) ≤ length l
part_most l start n = omega (arith, length-take n (drop start l), length-drop start l)

module _ (message literals : List ℕ) (h : length message ≤ message_bytes) (g : length literals ≤ message_bytes) where
  span_most : (s : Span) → length (span_bytes message literals s) ≤ message_bytes
  unfolding span_bytes
  span_most s = go (span_fits message literals s) s.literal
    where
      go : (t u : Bool) → length (cond t (take s.length (drop s.start (cond u literals message))) []) ≤ message_bytes
      go true true = omega (arith, part_most literals s.start s.length)
      go true false = omega (arith, part_most message s.start s.length)
      go false u = omega arith

  value_most : (v : Value) → length (value_text message literals v) ≤ 65538
  unfolding value_text text_bytes
  value_most Val.Absent = omega arith
  value_most (Val.Bool b) = omega arith
  value_most (Val.Integer z) = omega (arith, signed_most z)
  value_most (Val.Text s) = omega (arith, text_text_most (span_bytes message literals s), span_most s)

  value_line_most : (v : Value) → length (value_line message literals v) ≤ 65545
  unfolding value_line
  value_line_most v = simp length-append (omega (arith, value_most v))

  pub answer_lines_most : (a : Answer) → length (answer_lines message literals a) ≤ output_bytes
  unfolding answer_lines value_lines
  answer_lines_most a =
      simp length-append
      (omega (
        arith,
        number_lines_most a,
        value_line_most (get_or a.values 0 Val.Absent),
        value_line_most (get_or a.values 1 Val.Absent),
        value_line_most (get_or a.values 2 Val.Absent),
        value_line_most (get_or a.values 3 Val.Absent),
      ))

pub text_most : (input : List ℕ) → length (console_text input) ≤ output_bytes
unfolding console_text console_answer printed
text_most input = lengths (ltb longest_input (length input)) refl
  where
    lines : length input ≤ longest_input → (s : Said Asked) → said input ≡ s → length (printed (on_said wrong_at (λ a. ran a (answer_to a)) s)) ≤ output_bytes
    lines h (says a) e =
        let f = asked_fits input h a e in
        answer_lines_most a.message a.table.literals f.message_most (omega (arith, f.table.literals_most)) (answer_to a)
    lines h (wrong_line n) e = answer_lines_most [] [] (omega arith) (omega arith) (line_record n)

    lengths : (t : Bool) → ltb longest_input (length input) ≡ t → length (printed (cond t too_long (on_said wrong_at (λ a. ran a (answer_to a)) (said input)))) ≤ output_bytes
    lengths true e = omega (arith, number_line_most answer_key 23)
    lengths false e = lines (ltb-false longest_input (length input) e) (said input) refl
