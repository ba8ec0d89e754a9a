-- The line that a listing's reader tells is the first that no listing has there. Assumes nothing.
use Rattle.std.proofs.Common.{Some, Option, None, Result, Ok, Err}
use mathlib.Core.Path.{◌≡◌, refl, sym, ap, ◌∙◌, subst}
use mathlib.Core.List.{List, [], ◌∷◌, append-nil}
use mathlib.Core.Bool.{Bool, true, false, cond}
use Prim.Native.Nat.{ℕ, zero, suc, ◌+◌, ◌≤◌, ◌<◌}
use native.Mathlib.Omega.{arith}
use lib.Dec.{eqb}
use lib.ListN.{length, drop}
use borrow.Author.Tests.{eqb-false}
use Rattle.laws.specs.Parts.{Stands, stands}
use Rattle.laws.specs.Range.{within_right}
use Rattle.text.specs.Stored.{Taken, taking}
use Rattle.text.specs.Found.{on_place, on_number}
use Rattle.listing.specs.declared.reader.Head.{Head}
use Rattle.listing.specs.Listing.{rules_key, nodes_key, rule_key, node_key, line}
use Rattle.listing.specs.Reading.{Lines, head_of, on_lines, on_head, line_at, lines_at, count_at, literals_at, third_line, second_line, head_at, ended, node_lines_at, body_at}
use Rattle.listing.specs.Plain.{FirstWrong, IsListing}
use Rattle.listing.proofs.Found.{line_found, count_found, literals_found}
use Rattle.listing.proofs.Back.{line_back, count_back, literals_back}
use Rattle.listing.proofs.FirstLines.{Whole, Inside, inside, line_whole, literals_whole}
use Rattle.listing.proofs.Stopping.{Line-then, End, SomeText, same_wrong, Told, stops_here, told_after, stops_past}
use Rattle.listing.proofs.RightLines.{Numbers, Between, Records, FromFourth, FromThird, FromFirst, some_records, some_nodes, some_third, some_second, some_first, lines_listing, listing_lines}

-- ════ A line with a number that keeps a range ════

module _ (key : List ℕ) (low high : ℕ) (in_line : Inside key) (small : high < 65536) where
  count_spelt : (text : List ℕ) (p v q : ℕ) → Between low high v → Stands text p (line key (v ∷ [])) q → count_at text key low high p ≡ Some (v, q)
  count_spelt text p v q r s = count_back text key low high v p q (omega (arith, r.1)) (within_right low high v r.0 r.1) s

  -- a line says one number
  one_count : (v w : ℕ) → Between low high v → Between low high w → line key (v ∷ []) ≡ line key (w ∷ []) → w ≡ v
  one_count v w r s e =
      let l : List ℕ = line key (v ∷ []) in
      let a = count_spelt l 0 v (0 + length l) r (stands l 0 l [] (0 + length l) (sym (append-nil l)) refl) in
      let b = count_spelt l 0 w (0 + length l) s
      (stands l 0 (line key (w ∷ [])) [] (0 + length l) (e ∙ sym (append-nil (line key (w ∷ [])))) (ap (λ (z : List ℕ). 0 + length z) e)) in
      ap (on_number 0 (λ m n. m)) (sym b ∙ a)

  module _ (text : List ℕ) (p first : ℕ) (Rest : ℕ → List ℕ → Type 0) (some : SomeText (Line-then (λ n. line key (n ∷ [])) (Between low high) Rest)) where
    -- `next` is what comes of the number that is found
    count_told : (next : Option (ℕ × ℕ) → Lines) → next None ≡ Err first
        → ((v q : ℕ) → q ≤ length text → Told (Rest v) (drop q text) (first + 1) (next (Some (v, q))))
        → Told (Line-then (λ n. line key (n ∷ [])) (Between low high) Rest) (drop p text) first (next (count_at text key low high p))
    count_told next wrong then = go (count_at text key low high p) refl
      where
        whole : (v : ℕ) → Between low high v → Whole 1 (line key (v ∷ []))
        whole v r = line_whole in_line (v ∷ []) (omega arith)

        go : (s : Option (ℕ × ℕ)) → count_at text key low high p ≡ s → Told (Line-then (λ n. line key (n ∷ [])) (Between low high) Rest) (drop p text) first (next s)
        go (Some (v, q)) e =
            let w = count_found text key low high p v q e in
            told_after whole text p q first v (w.least, w.most) w.part
            (λ b t r f g. subst (λ (z : ℕ). Rest z t) (one_count v b (w.least, w.most) r f) g) (next (Some (v, q))) (then v q)
        go None e =
            rw wrong
            (stops_here whole text p first some (λ v q r s.
            let f : None ≡ Some (v, q) = sym e ∙ count_spelt text p v q r s in
            let z : ◌≡◌ {A = ℕ} 0 1 = cc in
            omega arith))

-- ════ Lines of records ════

module _
    (text key : List ℕ) (width : ℕ) (in_line : Inside key) (wide : 0 < width)
    (Rest : List ℕ → Type 0) (some : SomeText Rest) (next : Lines → Lines) (wrong : (m : ℕ) → next (Err m) ≡ Err m)
  where
    -- a wrong one among them is told; else what comes after them
    lines_told : (count n p : ℕ) → p ≤ length text → ((q : ℕ) → q ≤ length text → Told Rest (drop q text) (n + count) (next (Ok q)))
        → Told (Records key width count Rest) (drop p text) n (next (lines_at text key width count n p).found)
    unfolding lines_at
    lines_told zero n p h then = let z : n ≡ n + 0 = omega arith in rw z (then p h)
    lines_told (suc count) n p h then =
        go (line_at text key width p).found refl (λ x i. lines_told count (n + 1) x i (λ q g. let z : n + 1 + count ≡ n + suc count = omega arith in rw z (then q g)))
      where
        whole : (ns : List ℕ) → Numbers width ns → Whole 1 (line key ns)
        whole ns r = line_whole in_line ns (omega (arith, r.0))

        go : (s : Option ℕ) → (line_at text key width p).found ≡ s
            → ((x : ℕ) → x ≤ length text → Told (Records key width count Rest) (drop x text) (n + 1) (next (lines_at text key width count (n + 1) x).found))
            → Told (Records key width (suc count) Rest) (drop p text) n (next (on_place (taking [] (Err n)) (λ x. lines_at text key width count (n + 1) x) s).found)
        go (Some x) f ih =
            let w = line_found text key width p x f in
            told_after whole text p x n (line_at text key width p).numbers (w.count, w.all) w.part (λ b t r e g. g)
            (next (lines_at text key width count (n + 1) x).found) (ih x)
        go None f ih =
            rw (wrong n)
            (stops_here whole text p n (some_records key width (suc count) some) (λ ns q r s.
            let e : None ≡ Some q =
            sym f ∙ ap (λ (z : ℕ). (line_at text key z p).found) (sym r.0) ∙ ap (λ (z : Taken (Option ℕ)). z.found) (line_back text key ns p q r.1 s) in
            let z : ◌≡◌ {A = ℕ} 0 1 = cc in
            omega arith))

module _ (text : List ℕ) where
  past_told : (n q : ℕ) → q ≤ length text → Told End (drop q text) n (ended text n (Ok q))
  past_told n q h = go (eqb q (length text)) refl
    where
      go : (b : Bool) → eqb q (length text) ≡ b → Told End (drop q text) n (cond b (Ok q) (Err n))
      go true e = tt
      go false e = stops_past text q n h (eqb-false q (length text) e)

  body_told : (rules nodes n p : ℕ) → p ≤ length text → Told (FromFourth rules nodes) (drop p text) n (body_at text rules nodes n p).found
  unfolding body_at
  body_told rules nodes n p h =
      lines_told text rule_key 15 (inside rule_key refl) (omega arith) (Records node_key 10 nodes End) (some_nodes nodes)
      (λ s. (on_lines (λ m. taking [] (Err m)) (λ q. node_lines_at text nodes (n + rules) q) s).found) (λ m. refl) rules n p h
      (λ q g.
      lines_told text node_key 10 (inside node_key refl) (omega arith) End ([], refl) (ended text (n + rules + nodes)) (λ m. refl) nodes (n + rules) q g
      (past_told (n + rules + nodes)))

  -- ════ The first three lines ════

  literals_told : (rules nodes p first : ℕ) (next : Option (ℕ × ℕ) → Lines) → next None ≡ Err first
      → ((n q : ℕ) → q ≤ length text → Told (FromFourth rules nodes) (drop q text) (first + 1) (next (Some (n, q))))
      → Told (FromThird rules nodes) (drop p text) first (next (literals_at text p).found)
  literals_told rules nodes p first next wrong then = go (literals_at text p).found refl
    where
      go : (s : Option (ℕ × ℕ)) → (literals_at text p).found ≡ s → Told (FromThird rules nodes) (drop p text) first (next s)
      go (Some (n, q)) e =
          let w = literals_found text p n q e in
          told_after (λ l r. literals_whole l) text p q first (literals_at text p).numbers (omega (arith, w.count, w.most), w.all) w.part
          (λ b t r f g. g) (next (Some (n, q))) (then n q)
      go None e =
          rw wrong
          (stops_here (λ l r. literals_whole l) text p first (some_third rules nodes) (λ l q r s.
          let f : None ≡ Some ((length l), q) =
          sym e ∙ ap (λ (z : Taken (Option (ℕ × ℕ))). z.found) (literals_back text l p q r.1 (within_right 0 4096 (length l) (omega arith) r.0) s) in
          let z : ◌≡◌ {A = ℕ} 0 1 = cc in
          omega arith))

  module _ (at first : ℕ) where
    -- what is found of the lines, room not being looked at
    abbrev pub from_head : Result Head ℕ → Lines
    from_head h = on_head Err (λ rules nodes n q. (body_at text rules nodes (first + 3) q).found) h

    head_told : Told FromFirst (drop at text) first (from_head (head_at text first at).found)
    unfolding head_at
    head_told =
        count_told rules_key 1 64 (inside rules_key refl) (omega arith) text at first _ some_first
        (λ s. from_head (on_number (taking [] (Err first)) (λ rules q. second_line text first rules q) s).found) refl
        (λ rules p h.
        count_told nodes_key 1 1024 (inside nodes_key refl) (omega arith) text p (first + 1) _ (some_second rules)
        (λ s. from_head (on_number (taking [] (Err (first + 1))) (λ nodes q. third_line text first rules nodes q) s).found) refl
        (λ nodes q g. literals_told rules nodes q (first + 1 + 1)
        (λ s. from_head (on_number (Err (first + 2)) (λ n x. Ok (head_of rules nodes n x)) s)) (ap Err (omega arith))
        (λ n x i. let z : first + 1 + 1 + 1 ≡ first + 3 = omega arith in rw z (body_told rules nodes (first + 3) x i))))

    pub line_told : (m : ℕ) → from_head (head_at text first at).found ≡ Err m → (n : ℕ) × (m ≡ first + n) × FirstWrong IsListing (drop at text) n
    line_told m e =
        let t = subst (Told FromFirst (drop at text) first) e head_told in
        (t.0, t.1, same_wrong lines_listing listing_lines t.2)
