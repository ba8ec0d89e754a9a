-- Reading a listing, turn by turn: what a definition of Reading.antt is once the code has found something. Assumes nothing.
use Rattle.std.specs.Prelude.{ok_or}
use Rattle.std.proofs.Common.{Option, Some, None, Ok, Err}
use mathlib.Core.Path.{◌≡◌, refl, sym, ap, ◌∙◌}
use mathlib.Core.List.{List, [], ◌∷◌, append-nil}
use mathlib.Core.Bool.{true, false}
use Prim.Native.Nat.{ℕ, zero, suc, ◌+◌, ◌≤◌}
use native.Mathlib.Omega.{arith}
use lib.ListN.{length, drop}
use borrow.Author.Tests.{ne_eqb, eq-eqb}
use Rattle.text.specs.Stored.{Taken, taking, also, Took}
use Rattle.text.specs.Found.{on_number, number, pairs}
use Rattle.text.proofs.Taking.{took_to}
use Rattle.listing.specs.Listing.{rules_key, nodes_key, literals_key, rule_key, ending}
use Rattle.laws.specs.Range.{within}
use Rattle.listing.specs.Reading.{Lines, head_of, number_within, pairs_within, decimal_at, key_at, numbers_at, line_at, lines_at, count_at, literals_at, third_line, head_at, ended, node_lines_at, body_at}

-- `found.ok_or(n)?`, where nothing was found
pub not_found : {A : Type 0} (found : Option A) (n m : ℕ) → Err m ≡ ok_or found n → found ≡ None → m ≡ n
not_found None n m e f = cc
not_found (Some x) n m e f = let z : ◌≡◌ {A = ℕ} 0 1 = cc in absurd (omega arith)

module _ (text : List ℕ) where
  -- ════ The decimals of a line ════

  pub numbers_at_done : (left p : ℕ) → left ≤ 0 → numbers_at text left p ≡ taking [] (Some p)
  unfolding numbers_at
  numbers_at_done zero p h = refl
  numbers_at_done (suc k) p h = absurd (omega arith)

  module _ (left others p e : ℕ) (r : Option (ℕ × ℕ)) (h : left ≡ suc others) (g : e ≡ ending others) (s : r ≡ number e 65535 p (drop p text)) where
    pub numbers_at_wrong : r ≡ None → numbers_at text left p ≡ taking [] None
    unfolding numbers_at
    numbers_at_wrong f = rw (h, ← g, ← s, f)

    pub numbers_at_more : (n q : ℕ) → r ≡ Some (n, q) → numbers_at text left p ≡ also (n ∷ []) (numbers_at text others q)
    unfolding numbers_at
    numbers_at_more n q f = rw (h, ← g, ← s, f)

  -- ════ A line ════

  module _ (key : List ℕ) (count p : ℕ) (r : Option ℕ) (s : r ≡ key_at text key p) where
    pub line_at_wrong : r ≡ None → taking [] None ≡ line_at text key count p
    unfolding line_at
    line_at_wrong f = rw (← s, f)

    pub line_at_key : (q : ℕ) → r ≡ Some q → numbers_at text count q ≡ line_at text key count p
    unfolding line_at
    line_at_key q f = rw (← s, f)

  -- ════ Lines ════

  module _ (key : List ℕ) (width : ℕ) where
    pub lines_at_done : (left n p : ℕ) → left ≤ 0 → lines_at text key width left n p ≡ taking [] (Ok p)
    unfolding lines_at
    lines_at_done zero n p h = refl
    lines_at_done (suc k) n p h = absurd (omega arith)

    module _ (left others n p : ℕ) (r : Option ℕ) (h : left ≡ suc others) (s : r ≡ (line_at text key width p).found) where
      pub lines_at_wrong : r ≡ None → lines_at text key width left n p ≡ taking (line_at text key width p).numbers (Err n)
      unfolding lines_at
      lines_at_wrong f = rw (h, ← s, f) (ap (λ (z : List ℕ). taking z (Err n)) (append-nil (line_at text key width p).numbers))

      pub lines_at_more : (q : ℕ) → r ≡ Some q
          → lines_at text key width left n p ≡ also (line_at text key width p).numbers (lines_at text key width others (n + 1) q)
      unfolding lines_at
      lines_at_more q f = rw (h, ← s, f)

  -- ════ The first three lines ════

  module _ (key : List ℕ) (low high p : ℕ) (r : Option ℕ) (s : r ≡ key_at text key p) where
    pub count_at_wrong : r ≡ None → None ≡ count_at text key low high p
    unfolding count_at
    count_at_wrong f = rw (← s, f)

    pub count_at_lem : (q : ℕ) (found : Option (ℕ × ℕ)) → r ≡ Some q → found ≡ decimal_at text 10 q → number_within low high found ≡ count_at text key low high p
    unfolding count_at
    count_at_lem q found f g = rw (← s, f, ← g)

  pub literals_at_wrong : (p : ℕ) (r : Option ℕ) → r ≡ key_at text literals_key p → r ≡ None → taking [] None ≡ literals_at text p
  unfolding literals_at
  literals_at_wrong p r s f = rw (← s, f)

  pub literals_at_lem : (p q : ℕ) (r : Option ℕ) → r ≡ key_at text literals_key p → r ≡ Some q → pairs_within 0 4096 (pairs 0 q (drop q text)) ≡ literals_at text p
  unfolding literals_at
  literals_at_lem p q r s f = rw (← s, f)

  module _ (first p : ℕ) (r : Option (ℕ × ℕ)) (s : r ≡ count_at text rules_key 1 64 p) where
    pub head_first : r ≡ None → taking [] (Err first) ≡ head_at text first p
    unfolding head_at
    head_first f = rw (← s, f)

    module _ (rules a : ℕ) (f : r ≡ Some (rules, a)) (r₂ : Option (ℕ × ℕ)) (s₂ : r₂ ≡ count_at text nodes_key 1 1024 a) where
      pub head_second : r₂ ≡ None → taking [] (Err (first + 1)) ≡ head_at text first p
      unfolding head_at
      head_second g = rw (← s, f, ← s₂, g)

      pub head_third : (nodes b : ℕ) → r₂ ≡ Some (nodes, b) → third_line text first rules nodes b ≡ head_at text first p
      unfolding head_at
      head_third nodes b g = rw (← s, f, ← s₂, g)

  -- ════ The other lines ════

  module _ (rules nodes n p : ℕ) (r : Lines) (s : r ≡ (lines_at text rule_key 15 rules n p).found) where
    pub body_wrong : (m : ℕ) → r ≡ Err m → taking (lines_at text rule_key 15 rules n p).numbers (Err m) ≡ body_at text rules nodes n p
    unfolding body_at
    body_wrong m f =
        rw (← s, f) (ap (λ (z : List ℕ). taking z (Err m)) (sym (append-nil (lines_at text rule_key 15 rules n p).numbers)))

    pub body_nodes : (q : ℕ) → r ≡ Ok q
        → also (lines_at text rule_key 15 rules n p).numbers (node_lines_at text nodes (n + rules) q) ≡ body_at text rules nodes n p
    unfolding body_at
    body_nodes q f = rw (← s, f)

  module _ (n : ℕ) {found : Lines} where
    pub ended_wrong : (q : ℕ) → found ≡ Ok q → (q ≡ length text → ⊥) → Err n ≡ ended text n found
    ended_wrong q f e = rw (f, ne_eqb q (length text) e)

    pub ended_right : (q : ℕ) → found ≡ Ok q → q ≡ length text → Ok q ≡ ended text n found
    ended_right q f e = rw (f, eq-eqb q (length text) e)

pub third_wrong : (first rules nodes : ℕ) (found : Option (ℕ × ℕ)) → found ≡ None
    → Err (first + 2) ≡ on_number (Err (first + 2)) (λ literals q. Ok (head_of rules nodes literals q)) found
third_wrong first rules nodes found f = rw f

pub third_is : (first rules nodes n q : ℕ) (found : Option (ℕ × ℕ)) → found ≡ Some (n, q)
    → Ok (head_of rules nodes n q) ≡ on_number (Err (first + 2)) (λ literals x. Ok (head_of rules nodes literals x)) found
third_is first rules nodes n q found f = rw f

-- ════ Within a range ════

pub number_outside : (low high n q : ℕ) → within low high n ≡ false → None ≡ number_within low high (Some (n, q))
number_outside low high n q e = rw e

pub number_inside : (low high n q : ℕ) → within low high n ≡ true → Some (n, q) ≡ number_within low high (Some (n, q))
number_inside low high n q e = rw e

-- pairs that were read, and then held to a range
module _ (low high : ℕ) {t : Taken (Option (ℕ × ℕ))} {l after : List ℕ} {at : ℕ} {g : Option (ℕ × ℕ)} (w : Took t l at g after) where
  pub pairs_wrong : g ≡ None → Took (pairs_within low high t) l at None after
  pairs_wrong f = took_to w (rw (sym w.found_is ∙ f))

  pub pairs_outside : (n q : ℕ) → g ≡ Some (n, q) → within low high n ≡ false → Took (pairs_within low high t) l at None after
  pairs_outside n q f e = took_to w (rw (sym w.found_is ∙ f, e))

  pub pairs_inside : (n q : ℕ) → g ≡ Some (n, q) → within low high n ≡ true → Took (pairs_within low high t) l at (Some (n, q)) after
  pairs_inside n q f e = took_to w (rw (sym w.found_is ∙ f, e))
