-- The listing of a table reads back as that table; the plain meaning of reading; and each accepted listing is written again byte for byte.
-- Assumes nothing.
use Rattle.std.proofs.Common.{Result, Ok, Err}
use mathlib.Core.Path.{◌≡◌, refl, sym, ap, ◌∙◌, subst}
use mathlib.Core.Logic.{◌⊎◌, inl, inr, ⊎_elim}
use mathlib.Core.List.{List, [], ◌∷◌, ◌++◌, append-nil}
use mathlib.Core.Bool.{Bool, true, false, cond}
use Prim.Native.Nat.{ℕ, suc, ◌+◌, ◌*◌, ◌≤◌, ◌<◌}
use native.Mathlib.Omega.{arith}
use lib.Dec.{ltb}
use lib.ListN.{length, take, drop, get_or, length-append, length-drop}
use lib.Seq.{drop-length, take-append_seam}
use borrow.Author.Tests.{le-ltb, ltb-true, ltb-false, le-leb}
use Rattle.laws.specs.Below.{below_drop}
use Rattle.laws.specs.Parts.{Stands, stands, stands_as, stands_then, stands_first, stands_second}
use Rattle.laws.specs.Stores.{over}
use Rattle.grammar.specs.Words.{rule_count, node_count}
use Rattle.text.specs.Stored.{Taken, taking}
use Rattle.listing.specs.declared.reader.Head.{Head}
use Rattle.listing.specs.declared.Unread.TheVariants.{Line, Room}
use Rattle.listing.specs.Listing.{line, head_lines, body_lines, listing}
use Rattle.listing.specs.Reading.{done, Lines, head_of, head_at, body_at, on_head, on_lines, Filled, filled, fill, refused, read_body, read_rest, read_from}
use Rattle.listing.specs.Answers.{reading_number, reading_place, reading_words, reading_literals}
use Rattle.listing.specs.Writing.{write, written}
use Rattle.listing.specs.Plain.{Table, Listed, AcceptedExactly, first_lines, FirstWrong, IsListing, NoRoom, RoomExactly, LineExactly, Judged, is_listed, has_no_room, is_wrong_at}
use Rattle.laws.specs.Range.{within_right}
use Rattle.table.proofs.Size.{Sized, size_facts}
use Rattle.listing.proofs.Whole.{head_found, body_found}
use Rattle.listing.proofs.Back.{head_back, body_back}
use Rattle.listing.proofs.FirstLines.{first_fewer, whole_first, whole_begins, head_whole}
use Rattle.listing.proofs.Stopping.{one_first}
use Rattle.listing.proofs.RightLines.{zeros, zeros_fit, zeros_length, body_words, table_right}
use Rattle.listing.proofs.Telling.{from_head, line_told}

-- ════ A table's words and its listing ════

three_words : (words : List ℕ) → 3 ≤ length words → words ≡ get_or words 0 0 ∷ get_or words 1 0 ∷ get_or words 2 0 ∷ drop 3 words
three_words [] h = absurd (omega arith)
three_words (a ∷ []) h = absurd (omega arith)
three_words (a ∷ b ∷ []) h = absurd (omega arith)
three_words (a ∷ b ∷ c ∷ words) h = refl

listing_some : (words literals : List ℕ) → 0 < length (listing words literals)
unfolding listing head_lines line
listing_some words literals = simp length-append (omega arith)

-- the whole text from a place on
stands_whole : (text : List ℕ) (at : ℕ) (part : List ℕ) → 0 < length part → drop at text ≡ part → Stands text at part (length text)
stands_whole text at part h e =
    let n : length text ≤ at + length part = omega (arith, ap length e, length-drop at text) in
    stands text at part [] (length text) (e ∙ sym (append-nil part)) (omega (arith, ap length e, length-drop at text))

whole_stands : (text : List ℕ) (at : ℕ) (part : List ℕ) (q : ℕ) → Stands text at part q → q ≡ length text → drop at text ≡ part
whole_stands text at part q s e =
    s.is ∙ ap (λ (z : ℕ). part ++ drop z text) e ∙ ap (λ (z : List ℕ). part ++ z) (drop-length text) ∙ append-nil part

-- ════ It reads back as that table ════

-- the first three lines
head_reads : (text : List ℕ) (at first : ℕ) (table_words table_literals : List ℕ) (p : ℕ) → Table table_words table_literals
    → Stands text at (head_lines table_words table_literals) p
    → head_at text first at ≡ taking table_literals (Ok (head_of (rule_count table_words) (node_count table_words) (length table_literals) p))
unfolding head_lines
head_reads text at first table_words table_literals p t w =
    let s : Sized table_words (length table_literals) = size_facts table_words (length table_literals) t.size in
    let r : ℕ = rule_count table_words in
    let k : ℕ = node_count table_words in
    let n : ℕ = length table_literals in
    head_back text r k table_literals first at p (omega (arith, s.rules_most)) (within_right 1 64 r s.rules_least s.rules_most)
    (omega (arith, s.nodes_most)) (within_right 1 1024 k s.nodes_least s.nodes_most) t.literals_fit
    (within_right 0 4096 n (omega arith) (omega (arith, s.literals_are, s.literals_most))) w

module _ (text : List ℕ) (at first : ℕ) (words literals table_words table_literals : List ℕ) where
  roomy : (r k n p : ℕ) (z : List ℕ) → 3 + 15 * r + 10 * k ≤ length words → n ≤ length literals
      → read_rest text first words literals r k n p z ≡ read_body text first words literals r k n p z
  unfolding read_rest
  roomy r k n p z h g = rw (le-ltb (length words) (3 + 15 * r + 10 * k) h, le-ltb (length literals) n g)

  pub reads_back : Listed text at words literals table_words table_literals → read_from text at first words literals ≡ fill table_words table_literals words literals
  unfolding read_from listing head_lines
  reads_back l =
      let s : Sized table_words (length table_literals) = size_facts table_words (length table_literals) l.table.size in
      let r : ℕ = rule_count table_words in
      let k : ℕ = node_count table_words in
      let n : ℕ = length table_literals in
      let head : List ℕ = head_lines table_words table_literals in
      let body : List ℕ = body_lines r k table_words in
      let w : Stands text at (head ++ body) (length text) = stands_whole text at (head ++ body) (listing_some table_words table_literals) l.is in
      let p : ℕ = at + length head in
      let a : head_at text first at ≡ taking table_literals (Ok (head_of r k n p)) =
      head_reads text at first table_words table_literals p l.table (stands_first head body w) in
      let b : body_at text r k (first + 3) p ≡ taking (drop 3 table_words) (Ok (length text)) =
      body_back text r k (drop 3 table_words) (first + 3) p (omega (arith, s.words_are, length-drop 3 table_words))
      (below_drop 65536 3 table_words l.table.words_fit) (stands_as (body_words r k table_words) (stands_second head body w)) in
      let t : r ∷ k ∷ n ∷ drop 3 table_words ≡ table_words =
      ap (λ (z : ℕ). r ∷ k ∷ z ∷ drop 3 table_words) s.literals_are ∙ sym (three_words table_words s.three) in
      rw a
      (roomy r k n p table_literals (omega (arith, s.words_are, l.word_room)) l.literal_room
      ∙ ap (λ (z : Taken Lines). on_lines (λ m. refused text first words literals (Err (Line m))) (λ q. fill (r ∷ k ∷ n ∷ z.numbers) table_literals words literals) z.found) b
      ∙ ap (λ (z : List ℕ). fill z table_literals words literals) t)

-- ════ Room ════

module _ (text : List ℕ) (at first : ℕ) (words literals : List ℕ) where
  -- what the first three lines say of a table that has them
  begun : (table_words table_literals : List ℕ) → Table table_words table_literals → first_lines 3 (listing table_words table_literals) ≡ first_lines 3 (drop at text)
      → (p : ℕ) × ((head_at text first at).found ≡ Ok (head_of (rule_count table_words) (node_count table_words) (length table_literals) p))
  unfolding listing
  begun table_words table_literals t e =
      let head : List ℕ = head_lines table_words table_literals in
      let p : ℕ = at + length head in
      let b = whole_begins (head_whole table_words table_literals) (drop at text) (body_lines (rule_count table_words) (node_count table_words) table_words) (sym e) in
      (p, ap (λ (z : Taken (Result Head ℕ)). z.found) (head_reads text at first table_words table_literals p t (stands text at head b.0 p b.1 refl)))

  module _ (r k n p : ℕ) (found : (head_at text first at).found ≡ Ok (head_of r k n p)) where
    -- a table of zeros has these lines
    no_room : (length words < 3 + 15 * r + 10 * k) ⊎ (length literals < n) → NoRoom (drop at text) words literals
    unfolding listing head_lines
    no_room short =
        let a = head_found text first at r k n p found in
        let z : List ℕ = zeros (15 * r + 10 * k) in
        let table_literals : List ℕ = (head_at text first at).numbers in
        let w = head_whole (r ∷ k ∷ n ∷ z) table_literals in
        record {
          table_words = r ∷ k ∷ n ∷ z;
          table_literals = table_literals;
          table = table_right r k n z table_literals (a.rules_least, a.rules_most) (a.nodes_least, a.nodes_most) a.count
              (omega (arith, a.count, a.literals_most), a.all) (zeros_length (15 * r + 10 * k)) (zeros_fit (15 * r + 10 * k));
          begins = whole_first w (body_lines r k (r ∷ k ∷ n ∷ z)) ∙ sym (ap (first_lines 3) a.part.is ∙ whole_first w (drop p text));
          longer = ⊎_elim (λ h. inl (omega (arith, zeros_length (15 * r + 10 * k)))) (λ h. inr (omega (arith, a.count))) short;
        }

    enough : 3 + 15 * r + 10 * k ≤ length words → n ≤ length literals → NoRoom (drop at text) words literals → ⊥
    enough h g x =
        let s = size_facts x.table_words (length x.table_literals) x.table.size in
        let b = begun x.table_words x.table_literals x.table x.begins in
        let e : Ok (head_of r k n p) ≡ Ok (head_of (rule_count x.table_words) (node_count x.table_words) (length x.table_literals) b.0) = sym found ∙ b.1 in
        let i : r ≡ rule_count x.table_words = ap (on_head (λ z. 0) (λ a b c d. a)) e in
        let j : k ≡ node_count x.table_words = ap (on_head (λ z. 0) (λ a b c d. b)) e in
        let l : n ≡ length x.table_literals = ap (on_head (λ z. 0) (λ a b c d. c)) e in
        ⊎_elim (λ u. omega (arith, s.words_are)) (λ u. omega arith) x.longer

-- ════ Every text is judged ════

pub each_judged : (text : List ℕ) (at first : ℕ) (words literals : List ℕ) → Judged text at first words literals (read_from text at first words literals)
unfolding read_from read_rest listing head_lines
each_judged text at first words literals = heads (head_at text first at).found refl
  where
    table_literals : List ℕ
    table_literals = (head_at text first at).numbers

    Goal : Filled → Type 0
    Goal result = Judged text at first words literals result

    told : (x : ℕ) → from_head text at first (head_at text first at).found ≡ Err x → (NoRoom (drop at text) words literals → ⊥)
        → Goal (refused text first words literals (Err (Line x)))
    told x e room =
        let t = line_told text at first x e in
        is_wrong_at t.0 t.2 room (ap (λ (z : ℕ). filled (Err (Line z)) words literals) t.1)

    lines : (r k l p : ℕ) (s : Lines) → (head_at text first at).found ≡ Ok (head_of r k l p) → (body_at text r k (first + 3) p).found ≡ s
        → 3 + 15 * r + 10 * k ≤ length words → l ≤ length literals
        → Goal (on_lines (λ x. refused text first words literals (Err (Line x))) (λ q. fill (r ∷ k ∷ l ∷ (body_at text r k (first + 3) p).numbers) table_literals words literals) s)
    lines r k l p (Ok q) f g h i =
        let a = head_found text first at r k l p f in
        let b = body_found text r k (first + 3) p q g in
        let ws : List ℕ = r ∷ k ∷ l ∷ (body_at text r k (first + 3) p).numbers in
        let t = stands_then a.part (stands_as (sym (body_words r k ws)) b.part) in
        is_listed ws table_literals (record {
          table = table_right r k l (body_at text r k (first + 3) p).numbers table_literals (a.rules_least, a.rules_most) (a.nodes_least, a.nodes_most) a.count
              (omega (arith, a.count, a.literals_most), a.all) b.count b.all;
          is = whole_stands text at (head_lines ws table_literals ++ body_lines r k ws) q t b.end;
          word_room = omega (arith, b.count);
          literal_room = omega (arith, a.count);
        }) refl
    lines r k l p (Err x) f g h i = told x (ap (from_head text at first) f ∙ g) (enough text at first words literals r k l p f h i)

    rooms : (r k l p : ℕ) (s t : Bool) → (head_at text first at).found ≡ Ok (head_of r k l p) → ltb (length words) (3 + 15 * r + 10 * k) ≡ s → ltb (length literals) l ≡ t
        → Goal (cond s (refused text first words literals (Err Room)) (cond t (refused text first words literals (Err Room)) (read_body text first words literals r k l p table_literals)))
    rooms r k l p true t f g h = has_no_room (no_room text at first words literals r k l p f (inl (ltb-true (length words) (3 + 15 * r + 10 * k) g))) refl
    rooms r k l p false true f g h = has_no_room (no_room text at first words literals r k l p f (inr (ltb-true (length literals) l h))) refl
    rooms r k l p false false f g h =
        lines r k l p (body_at text r k (first + 3) p).found f refl (ltb-false (length words) (3 + 15 * r + 10 * k) g) (ltb-false (length literals) l h)

    heads : (s : Result Head ℕ) → (head_at text first at).found ≡ s
        → Goal (on_head (λ x. refused text first words literals (Err (Line x))) (λ r k l p. read_rest text first words literals r k l p table_literals) s)
    heads (Ok h) f =
        rooms h.rules h.nodes h.literals h.next (ltb (length words) (3 + 15 * h.rules + 10 * h.nodes)) (ltb (length literals) h.literals) f refl refl
    heads (Err x) f =
        told x (ap (from_head text at first) f) (λ n.
        let b = begun text at first words literals n.table_words n.table_literals n.table n.begins in
        let e = sym f ∙ b.1 in
        let z : ◌≡◌ {A = ℕ} 0 1 = cc in
        omega arith)

-- the table that an accepted text says
pub record Accepted (text : List ℕ) (at first : ℕ) (words literals : List ℕ) (result : Filled) : Type 0 where
  pub table_words : List ℕ
  pub table_literals : List ℕ
  pub listed : Listed text at words literals table_words table_literals
  pub result_is : result ≡ fill table_words table_literals words literals

pub accepted : (text : List ℕ) (at first : ℕ) (words literals : List ℕ) (m n : ℕ) → (read_from text at first words literals).answer ≡ done m n
    → Accepted text at first words literals (read_from text at first words literals)
accepted text at first words literals m n e = go (read_from text at first words literals) (each_judged text at first words literals) e
  where
    go : (f : Filled) → Judged text at first words literals f → f.answer ≡ done m n → Accepted text at first words literals f
    go f (is_listed w l x i) g = record { table_words = w; table_literals = l; listed = x; result_is = i }
    go f (has_no_room x i) g = let z : ◌≡◌ {A = ℕ} 0 1 = cc in absurd (omega arith)
    go f (is_wrong_at k x y i) g = let z : ◌≡◌ {A = ℕ} 0 1 = cc in absurd (omega arith)

-- ════ The plain meaning ════

over_front : (front l : List ℕ) → take (length front) (over front l) ≡ front
unfolding over
over_front front l = take-append_seam front (drop (length front) l)

-- a slice with a list in front tells the list, given its length
pub front_is : (a b l : List ℕ) → length a ≡ length b → over a l ≡ over b l → a ≡ b
front_is a b l n e = sym (over_front a l) ∙ ap (take (length a)) e ∙ ap (λ (z : ℕ). take z (over b l)) n ∙ over_front b l

pub accepted_exactly : AcceptedExactly
unfolding reading_words reading_literals
accepted_exactly text at first words literals table_words table_literals = (only, reads_back text at first words literals table_words table_literals)
  where
    only : read_from text at first words literals ≡ fill table_words table_literals words literals → Listed text at words literals table_words table_literals
    only e =
        let a = accepted text at first words literals (length table_words) (length table_literals) (ap (λ (z : Filled). z.answer) e) in
        let f : fill a.table_words a.table_literals words literals ≡ fill table_words table_literals words literals = sym a.result_is ∙ e in
        let g : done (length a.table_words) (length a.table_literals) ≡ done (length table_words) (length table_literals) = ap (λ (z : Filled). z.answer) f in
        let m : length a.table_words ≡ length table_words = ap reading_words g in
        let n : length a.table_literals ≡ length table_literals = ap reading_literals g in
        let x : a.table_words ≡ table_words = front_is a.table_words table_words words m (ap (λ (z : Filled). z.words) f) in
        let y : a.table_literals ≡ table_literals = front_is a.table_literals table_literals literals n (ap (λ (z : Filled). z.literals) f) in
        subst (λ (z : List ℕ). Listed text at words literals table_words z) y
        (subst (λ (z : List ℕ). Listed text at words literals z a.table_literals) x a.listed)

-- answers with two numbers are two
apart : {A : Type 0} {f g h : Filled} → f ≡ g → f ≡ h → (reading_number g.answer ≡ reading_number h.answer → ⊥) → A
apart i e n = absurd (n (ap (λ (z : Filled). reading_number z.answer) (sym i ∙ e)))

pub room_exactly : RoomExactly
unfolding reading_number
room_exactly text at first words literals = (λ e. there (read_from text at first words literals) (each_judged text at first words literals) e, back)
  where
    there : (f : Filled) → Judged text at first words literals f → f ≡ filled (Err Room) words literals → NoRoom (drop at text) words literals
    there f (has_no_room x i) e = x
    there f (is_listed w l x i) e = apart i e (λ z. omega arith)
    there f (is_wrong_at n x y i) e = apart i e (λ z. omega arith)

    back : NoRoom (drop at text) words literals → read_from text at first words literals ≡ filled (Err Room) words literals
    back x = go (read_from text at first words literals) (each_judged text at first words literals)
      where
        go : (f : Filled) → Judged text at first words literals f → f ≡ filled (Err Room) words literals
        go f (has_no_room y i) = i
        go f (is_listed w l y i) =
            let s = size_facts w (length l) y.table.size in
            let b = begun text at first words literals w l y.table (ap (first_lines 3) (sym y.is)) in
            absurd (enough text at first words literals (rule_count w) (node_count w) (length l) b.0 b.1
            (omega (arith, s.words_are, y.word_room)) y.literal_room x)
        go f (is_wrong_at n y room i) = absurd (room x)

-- the line that is told, whatever its number
pub told : (text : List ℕ) (at first m : ℕ) (words literals : List ℕ) → read_from text at first words literals ≡ filled (Err (Line m)) words literals
    → (n : ℕ) × (m ≡ first + n) × FirstWrong IsListing (drop at text) n × (NoRoom (drop at text) words literals → ⊥)
unfolding reading_number reading_place
told text at first m words literals = go (read_from text at first words literals) (each_judged text at first words literals)
  where
    go : (f : Filled) → Judged text at first words literals f → f ≡ filled (Err (Line m)) words literals
        → (n : ℕ) × (m ≡ first + n) × FirstWrong IsListing (drop at text) n × (NoRoom (drop at text) words literals → ⊥)
    go f (is_wrong_at n x room i) e = (n, ap (λ (z : Filled). reading_place z.answer) (sym e ∙ i), x, room)
    go f (has_no_room x i) e = apart i e (λ z. omega arith)
    go f (is_listed w l x i) e = apart i e (λ z. omega arith)

pub line_exactly : LineExactly
line_exactly text at first n words literals = (there, λ x. back x.0 x.1)
  where
    there : read_from text at first words literals ≡ filled (Err (Line (first + n))) words literals
        → FirstWrong IsListing (drop at text) n × (NoRoom (drop at text) words literals → ⊥)
    there e =
        let t = told text at first (first + n) words literals e in
        let i : t.0 ≡ n = omega (arith, t.1) in
        (subst (FirstWrong IsListing (drop at text)) i t.2, t.3)

    back : FirstWrong IsListing (drop at text) n → (NoRoom (drop at text) words literals → ⊥)
        → read_from text at first words literals ≡ filled (Err (Line (first + n))) words literals
    back x room = go (read_from text at first words literals) (each_judged text at first words literals)
      where
        go : (f : Filled) → Judged text at first words literals f → f ≡ filled (Err (Line (first + n))) words literals
        go f (is_wrong_at m y r i) =
            let j : m ≡ n = omega (arith, one_first m n y x, one_first n m x y) in
            i ∙ ap (λ (z : ℕ). filled (Err (Line (first + z))) words literals) j
        go f (has_no_room y i) = absurd (room y)
        go f (is_listed w l y i) = absurd (x.none_right (drop at text) (record { table_words = w; table_literals = l; table = y.table; is = y.is }) refl)

-- where there is no room, a wrong line comes after the third: 'ROOM is judged after line 3'
pub after_third : {text words literals : List ℕ} (n : ℕ) → NoRoom text words literals → FirstWrong IsListing text n → 3 ≤ n
after_third {text} n x f =
    let t : List ℕ = listing x.table_words x.table_literals in
    let i : IsListing t = record { table_words = x.table_words; table_literals = x.table_literals; table = x.table; is = refl } in
    let no : n < 3 → ⊥ = λ h. f.none_right t i (first_fewer (suc n) 3 t text h x.begins) in
    omega arith

-- ════ Each accepted listing is written again byte for byte ════

-- `out` is a slice with room for the listing
pub written_again : (text : List ℕ) (at first : ℕ) (words literals out : List ℕ) (m n : ℕ) → (read_from text at first words literals).answer ≡ done m n
    → length (drop at text) ≤ length out
    → write (take m (read_from text at first words literals).words) (take n (read_from text at first words literals).literals) out
    ≡ written (Ok (length (drop at text))) (over (drop at text) out)
unfolding write reading_words reading_literals
written_again text at first words literals out m n e h =
    let a = accepted text at first words literals m n e in
    let l = a.listed in
    let g : done m n ≡ done (length a.table_words) (length a.table_literals) = sym e ∙ ap (λ (z : Filled). z.answer) a.result_is in
    let i : m ≡ length a.table_words = ap reading_words g in
    let j : n ≡ length a.table_literals = ap reading_literals g in
    let x : take m (read_from text at first words literals).words ≡ a.table_words =
    ap (λ (z : Filled). take m z.words) a.result_is ∙ ap (λ (z : ℕ). take z (over a.table_words words)) i ∙ over_front a.table_words words in
    let y : take n (read_from text at first words literals).literals ≡ a.table_literals =
    ap (λ (z : Filled). take n z.literals) a.result_is ∙ ap (λ (z : ℕ). take z (over a.table_literals literals)) j ∙ over_front a.table_literals literals in
    rw (x, y, l.table.size, ← l.is, le-leb (length (drop at text)) (length out) h)
