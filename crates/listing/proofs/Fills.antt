-- The reader's answers: what its two passes leave is what Reading.antt says. Assumes nothing.
use Rattle.std.proofs.Common.{Result, Ok, Err}
use mathlib.Core.Path.{◌≡◌, refl, sym, ap, ◌∙◌}
use mathlib.Core.List.{List, [], ◌∷◌, ◌++◌}
use Prim.Native.Nat.{ℕ, ◌+◌, ◌*◌, ◌≤◌, ◌<◌}
use native.Mathlib.Omega.{arith}
use lib.ListN.{length}
use lib.Seq.{sets}
use borrow.Author.Tests.{lt-ltb, le-ltb}
use Rattle.laws.specs.Stores.{sets_front, over}
use Rattle.text.specs.Stored.{Took, also}
use Rattle.text.proofs.Taking.{nothing_taken}
use Rattle.listing.specs.declared.reader.Head.{Head}
use Rattle.std.specs.Result.{MatchResult, IsErrAnd}
use Rattle.std.proofs.lemmas.Result.{err_from_is_err_and}
use Rattle.listing.specs.declared.Unread.{Unread}
use Rattle.listing.specs.declared.Unread.TheVariants.{Line, Room}
use Rattle.listing.specs.Reading.{done, Lines, head_of, head_at, body_at, filled, read_body, read_rest, read_from}
use Rattle.listing.proofs.Whole.{head_found, body_found}

-- `found.map_err(Unread::Line)`: what was found, or the number of a line
abbrev Mapped : {A : Type 0} → Result A ℕ → Result A Unread → Type 0
Mapped found m = MatchResult found (λ x. m ≡ Ok x) (λ n. IsErrAnd m (λ d. d ≡ Line n))

pub told_found : {A : Type 0} (found : Result A ℕ) {m : Result A Unread} (x : A) → Mapped found m → m ≡ Ok x → found ≡ Ok x
told_found (Ok y) x t e = let z : y ≡ x = cc in ap Ok z
told_found (Err n) {m} x t e = let p = err_from_is_err_and m t in let z : ◌≡◌ {A = ℕ} 0 1 = cc in absurd (omega arith)

pub told_line : {A : Type 0} (found : Result A ℕ) {m : Result A Unread} (d : Unread) → Mapped found m → m ≡ Err d → (n : ℕ) × (found ≡ Err n) × (d ≡ Line n)
told_line (Ok y) d t e = let z : ◌≡◌ {A = ℕ} 0 1 = cc in absurd (omega arith)
told_line (Err n) {m} d t e =
    let p = err_from_is_err_and m t in
    let f : d ≡ p.0 = cc in
    (n, refl, f ∙ p.2)

-- a run of stores over what a pass over an empty front left
stored_front : (l x after front : List ℕ) → x ++ l ≡ l → length front ≤ length l → after ≡ sets (x ++ l) 0 front → after ≡ over front l
stored_front l x after front e h s = s ∙ ap (λ (z : List ℕ). sets z 0 front) e ∙ sets_front l front h

module _ (text : List ℕ) (at first : ℕ) (words literals : List ℕ) {x : List ℕ} {g : Result Head ℕ} (h : Took (head_at text first at) [] 0 g x) where
  kept : x ++ literals ≡ literals
  kept = nothing_taken h literals

  pub fills_wrong : (n : ℕ) → g ≡ Err n → filled (Err (Line n)) words (x ++ literals) ≡ read_from text at first words literals
  unfolding read_from
  fills_wrong n e = rw (sym h.found_is ∙ e) (ap (filled (Err (Line n)) words) kept)

  module _ (r k n p : ℕ) (e : g ≡ Ok (head_of r k n p)) where
    found : (head_at text first at).found ≡ Ok (head_of r k n p)
    found = sym h.found_is ∙ e

    rest : read_from text at first words literals ≡ read_rest text first words literals r k n p (head_at text first at).numbers
    unfolding read_from
    rest = rw found

    pub fills_room : length words < 3 + 15 * r + 10 * k → filled (Err Room) words (x ++ literals) ≡ read_from text at first words literals
    unfolding read_rest
    fills_room s = rw (rest, lt-ltb (length words) (3 + 15 * r + 10 * k) s) (ap (filled (Err Room) words) kept)

    module _ (s : 3 + 15 * r + 10 * k ≤ length words) where
      pub fills_room_2 : length (x ++ literals) < n → filled (Err Room) words (x ++ literals) ≡ read_from text at first words literals
      unfolding read_rest
      fills_room_2 t =
          rw (rest, le-ltb (length words) (3 + 15 * r + 10 * k) s, lt-ltb (length literals) n (omega (arith, ap length kept)))
          (ap (filled (Err Room) words) kept)

      module _ (t : n ≤ length (x ++ literals)) {y : List ℕ} {b : Lines} (w : Took (body_at text r k (first + 3) p) [] 3 b y) where
        body : read_from text at first words literals ≡ read_body text first words literals r k n p (head_at text first at).numbers
        unfolding read_rest
        body = rw (rest, le-ltb (length words) (3 + 15 * r + 10 * k) s, le-ltb (length literals) n (omega (arith, ap length kept)))

        pub fills_line : (m : ℕ) → b ≡ Err m → filled (Err (Line m)) (y ++ words) (x ++ literals) ≡ read_from text at first words literals
        fills_line m f =
            rw (body, sym w.found_is ∙ f)
            (ap (λ (z : List ℕ). filled (Err (Line m)) z (x ++ literals)) (nothing_taken w words) ∙ ap (filled (Err (Line m)) words) kept)

        pub fills_done : (q : ℕ) → b ≡ Ok q → {g₂ : Result Head ℕ} {b₂ : Lines} {words' literals' : List ℕ}
            → Took (head_at text first at) (x ++ literals) 0 g₂ literals'
            → Took (also (r ∷ k ∷ n ∷ []) (body_at text r k (first + 3) p)) (y ++ words) 0 b₂ words'
            → filled (done (3 + 15 * r + 10 * k) n) words' literals' ≡ read_from text at first words literals
        fills_done q f {g₂} {b₂} {words'} {literals'} u v =
            let a = head_found text first at r k n p found in
            let c = body_found text r k (first + 3) p q (sym w.found_is ∙ f) in
            let table_words : List ℕ = r ∷ k ∷ n ∷ (body_at text r k (first + 3) p).numbers in
            let table_literals : List ℕ = (head_at text first at).numbers in
            let d : 3 + 15 * r + 10 * k ≡ length table_words = omega (arith, c.count) in
            let i : words' ≡ over table_words words = stored_front words y words' table_words (nothing_taken w words) (omega arith) v.stored in
            let j : literals' ≡ over table_literals literals =
            stored_front literals x literals' table_literals kept (omega (arith, a.count, ap length kept)) u.stored in
            rw (body, sym w.found_is ∙ f)
            (ap (λ (z : ℕ). filled (done z n) words' literals') d ∙ ap (λ (z : ℕ). filled (done (length table_words) z) words' literals') a.count
            ∙ ap (λ (z : List ℕ). filled (done (length table_words) (length table_literals)) z literals') i
            ∙ ap (λ (z : List ℕ). filled (done (length table_words) (length table_literals)) (over table_words words) z) j)
