-- The listing and the message of the console's input: room, and what the slices hold then. Assumes nothing.
use Rattle.std.specs.Prelude.{Option, Some, None, Result, Ok, Err}
use mathlib.Core.Path.{◌≡◌, refl, sym, ap, ◌∙◌}
use mathlib.Core.List.{List, [], ◌∷◌, ◌++◌}
use Prim.Native.Nat.{ℕ, ◌+◌, ◌*◌, ◌≤◌}
use native.Mathlib.Omega.{arith}
use lib.ListN.{length, drop, length-append, length-drop}
use borrow.Author.Tests.{le-ltb}
use Rattle.laws.specs.Below.{AllBelow}
use Rattle.laws.specs.Parts.{Stands, stands_then}
use Rattle.laws.specs.Stores.{sets_front, over}
use Rattle.grammar.specs.declared.Mode.{Mode}
use Rattle.text.specs.Stored.{Took, Taken, taking}
use Rattle.text.specs.Found.{on_place, pairs}
use Rattle.text.specs.Written.{hex}
use Rattle.text.proofs.Keys.{key_stands}
use Rattle.text.proofs.Pairs.{pairs_stand, hex_length}
use Rattle.listing.specs.declared.reader.Head.{Head}
use Rattle.listing.specs.declared.Lengths.{Lengths}
use Rattle.listing.specs.declared.Unread.TheVariants.{Line, Room}
use Rattle.listing.specs.Reading.{Lines, Reading, done, key_at, on_head, on_lines, head_at, body_at, Filled, filled, fill, refused, read_rest, read_from}
use Rattle.listing.proofs.Whole.{head_found}
use Rattle.console_text.specs.Asked.{message_key, Said, says, wrong_line, on_said, Table, body_said, table_at, message_at, from_fourth}
use Rattle.console_text.specs.Plain.{message_spelt}
use Rattle.console_text.specs.Console.{longest_input}
use Rattle.console_text.specs.Lent.{message_bytes, table_words, table_literals, request_of, Readied, readied, ready}

-- ════ The listing ════

pub same_lengths : {x y : Lengths} → ◌≡◌ {A = Reading} (Ok x) (Ok y) → x ≡ y
same_lengths e = cc

-- what a reader with room for every table answers
abbrev pub read_said : (words literals : List ℕ) → Said Table → Filled
read_said words literals s =
    on_said (λ n. filled (Err (Line n)) words literals) (λ t. fill t.words t.literals words literals) s

module _ (input : List ℕ) (p : ℕ) (words literals : List ℕ) (h : table_words ≤ length words) (g : table_literals ≤ length literals) where
  pub read_says : read_from input p 4 words literals ≡ read_said words literals (table_at input p)
  unfolding read_from read_rest table_at
  read_says = heads (head_at input 4 p).found refl
    where
      table : List ℕ
      table = (head_at input 4 p).numbers

      body : (r k n q : ℕ) (s : Lines) → on_lines (λ m. refused input 4 words literals (Err (Line m))) (λ x. fill (r ∷ k ∷ n ∷ (body_at input r k 7 q).numbers) table words literals) s
          ≡ read_said words literals (on_lines wrong_line (λ x. says (record { words = r ∷ k ∷ n ∷ (body_at input r k 7 q).numbers; literals = table })) s)
      body r k n q (Ok x) = refl
      body r k n q (Err m) = refl

      heads : (s : Result Head ℕ) → (head_at input 4 p).found ≡ s
          → on_head (λ m. refused input 4 words literals (Err (Line m))) (λ r k n q. read_rest input 4 words literals r k n q table) s
          ≡ read_said words literals (on_head wrong_line (λ r k n q. body_said input r k n q table) s)
      heads (Ok x) e =
          let a = head_found input 4 p x.rules x.nodes x.literals x.next e in
          rw (le-ltb (length words) (3 + 15 * x.rules + 10 * x.nodes) (omega (arith, a.rules_most, a.nodes_most)), le-ltb (length literals) x.literals (omega (arith, a.literals_most)))
          (body x.rules x.nodes x.literals x.next (body_at input x.rules x.nodes 7 x.next).found)
      heads (Err m) e = refl

-- ════ The message ════

pub record Message-stands (input : List ℕ) (p n q : ℕ) (message : List ℕ) : Type 0 where
  pub count : n ≡ length message
  pub most : 2 * n ≤ length input
  pub part : Stands input p (message_spelt message) q
  pub all : AllBelow 256 message

pub message_found : (input : List ℕ) (p n q : ℕ) → (message_at input p).found ≡ Some (n, q) → Message-stands input p n q (message_at input p).numbers
unfolding message_at
message_found input p n q = keys (key_at input message_key p) refl
  where
    at : Option ℕ → Taken (Option (ℕ × ℕ))
    at s = on_place (taking [] None) (λ a. pairs 0 a (drop a input)) s

    keys : (s : Option ℕ) → key_at input message_key p ≡ s → (at s).found ≡ Some (n, q) → Message-stands input p n q (at s).numbers
    keys (Some a) f e =
        let w = pairs_stand input a n q e in
        let bytes : List ℕ = (pairs 0 a (drop a input)).numbers in
        let j : length (drop a input) ≡ length ((hex bytes ++ (10 ∷ [])) ++ drop q input) = ap length w.part.is in
        record {
          count = w.count;
          most = omega (arith, w.count, simp (length-drop, length-append, hex_length) at j);
          part = stands_then (key_stands input message_key p a f) w.part;
          all = w.all;
        }
    keys None f e = let z : ◌≡◌ {A = ℕ} 0 1 = cc in absurd (omega arith)

-- a message that is stored
pub message_stored : (input : List ℕ) (from n q : ℕ) {message message' : List ℕ} {found : Option (ℕ × ℕ)} → (message_at input from).found ≡ Some (n, q)
    → length input ≤ longest_input → message_bytes ≤ length message → Took (message_at input from) message 0 found message'
    → message' ≡ over (message_at input from).numbers message
message_stored input from n q {message} {message'} e h g t =
    let m = message_found input from n q e in
    t.stored ∙ sets_front message (message_at input from).numbers (omega (arith, m.count, m.most))

-- ════ The request ════

abbrev ready_for : Mode → (budget : ℕ) (bytes message words literals : List ℕ) → Said Table → Readied
ready_for mode budget bytes message words literals s =
    ready (on_said wrong_line (λ table. says (record { mode = mode; budget = budget; message = bytes; table = table })) s) message words literals

module _
    (input : List ℕ) (at : ℕ) (words literals : List ℕ) (h : table_words ≤ length words)
    (g : table_literals ≤ length literals) {r : Reading} {words' literals' : List ℕ}
    (e : filled r words' literals' ≡ read_from input at 4 words literals)
  where
    said_so : filled r words' literals' ≡ read_said words literals (table_at input at)
    said_so = e ∙ read_says input at words literals h g

    -- there is room for every table
    pub request_room : {A : Type 0} → r ≡ Err Room → A
    request_room f = go (table_at input at) said_so
      where
        go : {A : Type 0} (s : Said Table) → filled r words' literals' ≡ read_said words literals s → A
        go (says t) k =
            let a : Err Room ≡ done (length t.words) (length t.literals) = sym f ∙ ap (λ (z : Filled). z.answer) k in
            let z : ◌≡◌ {A = ℕ} 0 1 = cc in
            absurd (omega arith)
        go (wrong_line x) k =
            let a : Err Room ≡ Err (Line x) = sym f ∙ ap (λ (z : Filled). z.answer) k in
            let z : ◌≡◌ {A = ℕ} 0 1 = cc in
            absurd (omega arith)

    module _ (mode : Mode) (budget : ℕ) (bytes message : List ℕ) where
      pub request_run : (m n : ℕ) → r ≡ done m n → {message' : List ℕ} → message' ≡ over bytes message
          → (count : ℕ) → count ≡ length bytes
          → readied (Ok (request_of mode budget count m n)) message' words' literals' ≡ ready (from_fourth input mode budget bytes at) message words literals
      unfolding ready
      request_run m n f {message'} i count j = go (table_at input at) said_so
        where
          go : (s : Said Table) → filled r words' literals' ≡ read_said words literals s → readied (Ok (request_of mode budget count m n)) message' words' literals' ≡ ready_for mode budget bytes message words literals s
          go (says t) k =
              let a : done m n ≡ done (length t.words) (length t.literals) = sym f ∙ ap (λ (z : Filled). z.answer) k in
              let same = same_lengths a in
              let b : m ≡ length t.words = ap (λ (z : Lengths). z.words) same in
              let c : n ≡ length t.literals = ap (λ (z : Lengths). z.literals) same in
              let d : words' ≡ over t.words words = ap (λ (z : Filled). z.words) k in
              let l : literals' ≡ over t.literals literals = ap (λ (z : Filled). z.literals) k in
              rw (b, c, d, l, i, j)
          go (wrong_line x) k =
              let a : done m n ≡ Err (Line x) = sym f ∙ ap (λ (z : Filled). z.answer) k in
              let z : ◌≡◌ {A = ℕ} 0 1 = cc in
              absurd (omega arith)

      pub request_line : (n : ℕ) → r ≡ Err (Line n) → readied (Err n) message words' literals' ≡ ready (from_fourth input mode budget bytes at) message words literals
      unfolding ready
      request_line n f = go (table_at input at) said_so
        where
          go : (s : Said Table) → filled r words' literals' ≡ read_said words literals s → readied (Err n) message words' literals' ≡ ready_for mode budget bytes message words literals s
          go (says t) k =
              let a : Err (Line n) ≡ done (length t.words) (length t.literals) = sym f ∙ ap (λ (z : Filled). z.answer) k in
              let z : ◌≡◌ {A = ℕ} 0 1 = cc in
              absurd (omega arith)
          go (wrong_line x) k =
              let a : Err (Line n) ≡ Err (Line x) = sym f ∙ ap (λ (z : Filled). z.answer) k in
              let b : n ≡ x = cc in
              let d : words' ≡ words = ap (λ (z : Filled). z.words) k in
              let l : literals' ≡ literals = ap (λ (z : Filled). z.literals) k in
              rw (b, d, l)
