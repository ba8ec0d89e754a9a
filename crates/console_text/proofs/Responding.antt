-- The whole answer on lent slices: what the parts leave is what Lent.antt says. Assumes nothing.
use Rattle.std.specs.Prelude.{Some, None, Result, Ok, Err}
use mathlib.Core.Path.{◌≡◌, refl, sym, ap, ◌∙◌}
use mathlib.Core.List.{List, []}
use mathlib.Core.Bool.{Bool, true, false, cond}
use Prim.Native.Nat.{ℕ, ◌≤◌, ◌<◌}
use native.Mathlib.Omega.{arith}
use lib.Dec.{ltb, leb}
use lib.ListN.{length, take, drop, length-take, length-append}
use lib.Seq.{take-append_seam}
use borrow.Author.Tests.{lt-ltb, le-ltb, le-leb, lt-leb, leb-true}
use Rattle.laws.specs.Stores.{sets_front, over}
use Rattle.grammar.specs.declared.Mode.{Mode}
use Rattle.grammar.specs.Form.{every}
use Rattle.grammar.specs.Answer.{answer, work_after, work_words, check}
use Rattle.text.specs.Stored.{Wrote}
use Rattle.text.specs.Written.{decimal, digits}
use Rattle.text.proofs.Writing.{wrote_as}
use Rattle.laws.specs.Tests.{both}
use Rattle.console_text.specs.declared.request.Request.{Request}
use Rattle.console_text.specs.Asked.{Said, says, wrong_line, on_said, Asked, said}
use Rattle.console_text.specs.Printed.{answer_key, number_line, answer_lines}
use Rattle.console_text.specs.Console.{INPUT, longest_input, answer_to, line_record, ConsoleAnswer, too_long, wrong_at, ran, console_answer, printed, console_text}
use Rattle.console_text.specs.Lent.{message_bytes, table_words, table_literals, output_bytes, input_line_bytes, lent, request_of, Roomy, enough, room_for, Readied, readied, ready, responded, afterwards, respond}
use Rattle.console_text.proofs.Lengths.{text_most}

-- ════ Room ════

module _ (m w l k o : ℕ) where
  pub enough_facts : enough m w l k o ≡ true → Roomy m w l k o
  unfolding enough every
  enough_facts e =
      let a = both (leb message_bytes m) _ e in
      let b = both (leb table_words w) _ a.1 in
      let c = both (leb table_literals l) _ b.1 in
      let d = both (leb work_words k) _ c.1 in
      let f = both (leb output_bytes o) true d.1 in
      record {
        for_message = leb-true message_bytes m a.0;
        for_words = leb-true table_words w b.0;
        for_literals = leb-true table_literals l c.0;
        for_work = leb-true work_words k d.0;
        for_output = leb-true output_bytes o f.0;
      }

  enough_right : Roomy m w l k o → enough m w l k o ≡ true
  unfolding enough every
  enough_right r =
      rw (
        le-leb message_bytes m r.for_message,
        le-leb table_words w r.for_words,
        le-leb table_literals l r.for_literals,
        le-leb work_words k r.for_work,
        le-leb output_bytes o r.for_output,
      )

-- ════ The whole ════

-- a work area of W words or more makes no difference to the record
answer_room : (mode : Mode) (words literals message : List ℕ) (budget n : ℕ) → work_words ≤ n
    → answer mode words literals message budget n ≡ answer mode words literals message budget work_words
unfolding answer check
answer_room mode words literals message budget n h = rw (le-leb work_words n h)

take_front : (front l : List ℕ) (n : ℕ) → n ≡ length front → take n (over front l) ≡ front
unfolding over
take_front front l n e = ap (λ (z : ℕ). take z (over front l)) e ∙ take-append_seam front (drop (length front) l)

-- a part from the start on is as long as asked
pub take_length : (l : List ℕ) (n : ℕ) → n ≤ length l → n ≡ length (take n l)
take_length l n h = omega (arith, length-take n l)

over_length : (front l : List ℕ) → length front ≤ length (over front l)
unfolding over
over_length front l = omega (arith, length-append front (drop (length front) l))

pub record Counted (message words literals : List ℕ) (m n l : ℕ) : Type 0 where
  pub in_message : m ≤ length message
  pub in_words : n ≤ length words
  pub in_literals : l ≤ length literals

same_request : {x y : Request} → ◌≡◌ {A = Result Request ℕ} (Ok x) (Ok y) → x ≡ y
same_request e = cc

-- what was read stands in the slices
pub counted : (s : Said Asked) (message words literals : List ℕ) {request : Result Request ℕ} {message' words' literals' : List ℕ}
    → readied request message' words' literals' ≡ ready s message words literals → (mode : Mode) (budget m n l : ℕ) → request ≡ Ok (request_of mode budget m n l)
    → Counted message' words' literals' m n l
unfolding ready
counted (says a) message words literals {request} {message'} {words'} {literals'} e mode budget m n l f =
    let b : Ok (request_of mode budget m n l) ≡ Ok (request_of a.mode a.budget (length a.message) (length a.table.words) (length a.table.literals)) =
    sym f ∙ ap (λ (z : Readied). z.request) e in
    let same = same_request b in
    let i : m ≡ length a.message = ap (λ (z : Request). z.message) same in
    let j : n ≡ length a.table.words = ap (λ (z : Request). z.table.words) same in
    let k : l ≡ length a.table.literals = ap (λ (z : Request). z.table.literals) same in
    let x : length message' ≡ length (over a.message message) = ap (λ (z : Readied). length z.message) e in
    let y : length words' ≡ length (over a.table.words words) = ap (λ (z : Readied). length z.words) e in
    let v : length literals' ≡ length (over a.table.literals literals) = ap (λ (z : Readied). length z.literals) e in
    record {
      in_message = omega (arith, over_length a.message message);
      in_words = omega (arith, over_length a.table.words words);
      in_literals = omega (arith, over_length a.table.literals literals);
    }
counted (wrong_line x) message words literals e mode budget m n l f =
    let b : Ok (request_of mode budget m n l) ≡ Err x = sym f ∙ ap (λ (z : Readied). z.request) e in
    let z : ◌≡◌ {A = ℕ} 0 1 = cc in
    absurd (omega arith)

-- the whole text, stored from the output's start on
module _ (input output : List ℕ) (h : length (console_text input) ≤ length output) {r : ℕ} {output' : List ℕ} (w : Wrote output 0 (console_text input) r output') where
  count_is : r ≡ length (console_text input)
  count_is = omega (arith, w.next_is, text_most input)

  output_is : output' ≡ over (console_text input) output
  output_is = w.stored ∙ sets_front output (console_text input) h

module _ (input message words literals work output : List ℕ) where
  -- ════ A slice is too short ════

  too_short : room_for input (lent message words literals work output) ≡ false
      → responded None (lent message words literals work output) ≡ respond input (lent message words literals work output)
  unfolding respond
  too_short e = rw e

  -- for INPUT's line, and so for any other text
  pub respond_none : length output < input_line_bytes → responded None (lent message words literals work output) ≡ respond input (lent message words literals work output)
  unfolding room_for
  respond_none h = too_short (go (ltb longest_input (length input)) (enough (length message) (length words) (length literals) (length work) (length output)) refl)
    where
      go : (t u : Bool) → enough (length message) (length words) (length literals) (length work) (length output) ≡ u
          → cond t (leb input_line_bytes (length output)) u ≡ false
      go true u e = lt-leb input_line_bytes (length output) h
      go false true e = absurd (omega (arith, (enough_facts (length message) (length words) (length literals) (length work) (length output) e).for_output))
      go false false e = refl

  pub respond_short : length input ≤ longest_input → enough (length message) (length words) (length literals) (length work) (length output) ≡ false
      → responded None (lent message words literals work output) ≡ respond input (lent message words literals work output)
  unfolding room_for
  respond_short h e = too_short (rw (le-ltb longest_input (length input) h, e))

  -- ════ The text is written ════

  -- the text was stored, and the other slices hold what Lent.antt says
  finish : {r : ℕ} {message' words' literals' work' output' : List ℕ} (x : ConsoleAnswer) → room_for input (lent message words literals work output) ≡ true
      → length (console_text input) ≤ length output → console_answer input ≡ x → Wrote output 0 (printed x) r output'
      → lent message' words' literals' work' (over (console_text input) output) ≡ afterwards x (console_text input) (lent message words literals work output)
      → responded (Some r) (lent message' words' literals' work' output') ≡ respond input (lent message words literals work output)
  unfolding respond console_text
  finish {r} {message'} {words'} {literals'} {work'} {output'} x room fits e w f =
      let text : List ℕ = console_text input in
      let v : Wrote output 0 text r output' = wrote_as (ap printed (sym e)) w in
      rw room
      (ap (λ (z : ℕ). responded (Some z) (lent message' words' literals' work' output')) (count_is input output fits v)
      ∙ ap (λ (z : List ℕ). responded (Some (length text)) (lent message' words' literals' work' z)) (output_is input output fits v)
      ∙ ap (responded (Some (length text))) (f ∙ ap (λ (z : ConsoleAnswer). afterwards z text (lent message words literals work output)) (sym e)))

  pub respond_input : {r : ℕ} {output' : List ℕ} → input_line_bytes ≤ length output → longest_input < length input → Wrote output 0 (number_line answer_key INPUT) r output'
      → responded (Some r) (lent message words literals work output') ≡ respond input (lent message words literals work output)
  unfolding room_for console_text console_answer printed afterwards number_line decimal digits
  respond_input {r} {output'} g h w =
      let long : ltb longest_input (length input) ≡ true = lt-ltb longest_input (length input) h in
      let is : console_answer input ≡ too_long = rw long in
      let fits : length (console_text input) ≤ length output = rw is g in
      finish too_long (rw (long, le-leb input_line_bytes (length output) g)) fits is w refl

  module _ (room : Roomy (length message) (length words) (length literals) (length work) (length output)) where
    module _ (h : length input ≤ longest_input) {request : Result Request ℕ} {message' words' literals' : List ℕ}
        (e : readied request message' words' literals' ≡ ready (said input) message words literals)
      where
        room_for_lem : room_for input (lent message words literals work output) ≡ true
        unfolding room_for
        room_for_lem = rw (le-ltb longest_input (length input) h) (enough_right (length message) (length words) (length literals) (length work) (length output) room)

        fits : length (console_text input) ≤ length output
        fits = omega (arith, text_most input, room.for_output)

        consoled : (s : Said Asked) → said input ≡ s → console_answer input ≡ on_said wrong_at (λ a. ran a (answer_to a)) s
        unfolding console_answer
        consoled s f = rw (le-ltb longest_input (length input) h, f)

        pub respond_line : {r : ℕ} {output' : List ℕ} (n : ℕ) → request ≡ Err n → Wrote output 0 (answer_lines [] [] (line_record n)) r output'
            → responded (Some r) (lent message' words' literals' work output') ≡ respond input (lent message words literals work output)
        unfolding ready printed afterwards
        respond_line {r} {output'} n f w = go (said input) refl e
          where
            go : (s : Said Asked) → said input ≡ s → readied request message' words' literals' ≡ ready s message words literals
                → responded (Some r) (lent message' words' literals' work output') ≡ respond input (lent message words literals work output)
            go (says a) g k =
                let b : Err n ≡ Ok (request_of a.mode a.budget (length a.message) (length a.table.words) (length a.table.literals)) =
                sym f ∙ ap (λ (z : Readied). z.request) k in
                let z : ◌≡◌ {A = ℕ} 0 1 = cc in
                absurd (omega arith)
            go (wrong_line x) g k =
                let b : Err n ≡ Err x = sym f ∙ ap (λ (z : Readied). z.request) k in
                let d : n ≡ x = cc in
                finish (wrong_at x) room_for_lem fits (consoled (wrong_line x) g) (wrote_as (ap (λ (z : ℕ). answer_lines [] [] (line_record z)) d) w)
                (ap (λ (z : Readied). lent z.message z.words z.literals work (over (console_text input) output)) k)

        pub respond_run : {r : ℕ} {work' output' : List ℕ} (mode : Mode) (budget m n l : ℕ) → request ≡ Ok (request_of mode budget m n l)
            → Wrote output 0 (answer_lines (take m message') (take l literals') (answer mode (take n words') (take l literals') (take m message') budget (length work))) r output'
            → work' ≡ work_after mode (take n words') (take l literals') (take m message') work
            → responded (Some r) (lent message' words' literals' work' output') ≡ respond input (lent message words literals work output)
        unfolding ready printed afterwards answer_to
        respond_run {r} {work'} {output'} mode budget m n l f w u = go (said input) refl e
          where
            go : (s : Said Asked) → said input ≡ s → readied request message' words' literals' ≡ ready s message words literals
                → responded (Some r) (lent message' words' literals' work' output') ≡ respond input (lent message words literals work output)
            go (says a) g k =
                let b : Ok (request_of mode budget m n l) ≡ Ok (request_of a.mode a.budget (length a.message) (length a.table.words) (length a.table.literals)) =
                sym f ∙ ap (λ (z : Readied). z.request) k in
                let same = same_request b in
                let c : mode ≡ a.mode = ap (λ (z : Request). z.mode) same in
                let d : budget ≡ a.budget = ap (λ (z : Request). z.budget) same in
                let i : m ≡ length a.message = ap (λ (z : Request). z.message) same in
                let j : n ≡ length a.table.words = ap (λ (z : Request). z.table.words) same in
                let p : l ≡ length a.table.literals = ap (λ (z : Request). z.table.literals) same in
                let message_is : take m message' ≡ a.message = ap (λ (z : Readied). take m z.message) k ∙ take_front a.message message m i in
                let words_are : take n words' ≡ a.table.words = ap (λ (z : Readied). take n z.words) k ∙ take_front a.table.words words n j in
                let literals_are : take l literals' ≡ a.table.literals = ap (λ (z : Readied). take l z.literals) k ∙ take_front a.table.literals literals l p in
                let v = rw (message_is, words_are, literals_are, c, d) at w in
                let x = rw (message_is, words_are, literals_are, c) at u in
                finish (ran a (answer_to a)) room_for_lem fits (consoled (says a) g) (rw (answer_room a.mode a.table.words a.table.literals a.message a.budget (length work) room.for_work) at v)
                (ap (λ (z : Readied). lent z.message z.words z.literals work' (over (console_text input) output)) k
                ∙ ap (λ (z : List ℕ). lent (over a.message message) (over a.table.words words) (over a.table.literals literals) z (over (console_text input) output)) x)
            go (wrong_line x) g k =
                let b : Ok (request_of mode budget m n l) ≡ Err x = sym f ∙ ap (λ (z : Readied). z.request) k in
                let z : ◌≡◌ {A = ℕ} 0 1 = cc in
                absurd (omega arith)
