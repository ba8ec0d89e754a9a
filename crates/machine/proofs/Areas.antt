-- What copies and clearings do to the words of a work area. Assumes nothing.
use mathlib.Core.Path.{◌≡◌, refl, sym, ap, ◌∙◌}
use mathlib.Core.List.{List, ◌∷◌, ◌++◌}
use Prim.Native.Nat.{ℕ, zero, suc, ◌+◌, ◌-◌, ◌≤◌, ◌<◌}
use native.Mathlib.Omega.{arith}
use borrow.Author.Count.{below_more}
use lib.ListN.{length, drop, set, get_or, replicate, length-replicate, length-drop}
use lib.Seq.{get_or-set_same, get_or-set_other, set_at, drop-cons, get_or-drop, ext_get_or}
use Rattle.laws.specs.Windows.{window, window_same, Same, Outside, same_self, same_trans, set_same}
use Rattle.frames.specs.Frames.{copied, cleared}

-- ════ A copy, word by word ════

-- all but where it goes to
pub copied_same : {low high : ℕ} (w : List ℕ) (from to n : ℕ) → Outside to (to + n) low high → Same low high w (copied w from to n)
unfolding copied
copied_same w from to zero outside = same_self w
copied_same w from to (suc n) outside =
    same_trans (copied_same w from to n (λ i a b. outside i a (omega arith)))
    (set_same (copied w from to n) (to + n) (get_or (copied w from to n) (from + n) 0) (λ l h. outside (to + n) (omega arith) (omega arith) l h))

pub copied_word : (w : List ℕ) (from to n : ℕ) → Outside to (to + n) from (from + n) → to + n ≤ length w → (i : ℕ) → i < n →
    get_or (copied w from to n) (to + i) 0 ≡ get_or w (from + i) 0
unfolding copied
copied_word w from to zero apart fits i h = absurd (omega arith)
copied_word w from to (suc n) apart fits i h =
    let c = copied w from to n in
    let v = get_or c (from + n) 0 in
    let source : Same from (from + suc n) w c = copied_same w from to n (λ j a b. apart j a (omega arith)) in
    let l : length c ≡ length w = source.long in
    below_more (λ k. get_or (set c (to + n) v) (to + k) 0 ≡ get_or w (from + k) 0) n
    (λ k b. get_or-set_other c (to + n) (to + k) v 0 (λ e. omega arith)
    ∙ copied_word w from to n (λ j a b₁ a₁ b₂. apart j a (omega arith) a₁ (omega arith)) (omega arith) k b)
    (get_or-set_same c (to + n) v 0 (omega arith) ∙ source.word (from + n) (omega arith) (omega arith))
    i (omega arith)

-- where it goes to stand the words that it comes from
pub copied_window : (w : List ℕ) (from to n : ℕ) → Outside to (to + n) from (from + n) → to + n ≤ length w → from + n ≤ length w →
    window to n (copied w from to n) ≡ window from n w
copied_window w from to n apart fits source =
    let l : length (copied w from to n) ≡ length w = (copied_same {low = 0} {high = 0} w from to n (omega arith)).long in
    window_same to from n (copied w from to n) w (omega arith) source (copied_word w from to n apart fits)

-- ════ The first words become zero ════

pub cleared_same : {low high : ℕ} (w : List ℕ) (n : ℕ) → n ≤ low → Same low high w (cleared w n)
unfolding cleared
cleared_same w zero h = same_self w
cleared_same w (suc n) h = same_trans (cleared_same w n (omega arith)) (set_same (cleared w n) n 0 (λ l b. omega arith))

zeros_more : (n : ℕ) (l : List ℕ) → replicate n 0 ++ 0 ∷ l ≡ replicate (suc n) 0 ++ l
zeros_more zero l = refl
zeros_more (suc n) l = ap (0 ∷◌) (zeros_more n l)

pub cleared_is : (w : List ℕ) (n : ℕ) → n ≤ length w → cleared w n ≡ replicate n 0 ++ drop n w
unfolding cleared
cleared_is w zero h = refl
cleared_is w (suc n) h =
    rw (cleared_is w n (omega arith), drop-cons w n 0 h, set_at (replicate n 0) (get_or w n 0) (drop (suc n) w) 0 n (length-replicate n 0))
    (zeros_more n (drop (suc n) w))

-- from n on the area is as it was
pub cleared_rest : (n : ℕ) (w w' : List ℕ) → n ≤ length w → Same n (length w) w w' → cleared w' n ≡ replicate n 0 ++ drop n w
cleared_rest n w w' h s =
    let long : length w' ≡ length w = s.long in
    let l : length (drop n w) ≡ length w - n = length-drop n w in
    let l' : length (drop n w') ≡ length w' - n = length-drop n w' in
    cleared_is w' n (omega arith)
    ∙ ap (replicate n 0 ++◌) (ext_get_or 0 (drop n w') (drop n w) (omega arith)
    (λ i k. get_or-drop n w' i 0 ∙ s.word (n + i) (omega arith) (omega arith) ∙ sym (get_or-drop n w i 0)))
