-- Memory as a list of words: a window of it, and two memories that are the same from a place to a place. Assumes nothing.
use Rattle.std.specs.Prelude.{◌≡◌, refl, List, ℕ, ◌+◌, ◌≤◌, ◌<◌, length, take, drop, set, get_or}
use Rattle.std.proofs.Common.{sym, ◌∙◌, arith, length-take, length-drop, length-set, get_or-take, get_or-drop, get_or-set_other, ext_get_or}

-- n words from word `from` on
unfoldable pub window : (from n : ℕ) → List ℕ → List ℕ
window from n w = take n (drop from w)

pub length_window : (from n : ℕ) (w : List ℕ) → from + n ≤ length w → length (window from n w) ≡ n
unfolding window
length_window from n w h = length-take n (drop from w) ∙ omega (arith, length-drop from w)

pub get_d_window : (from n : ℕ) (w : List ℕ) (i : ℕ) → i < n → get_or (window from n w) i 0 ≡ get_or w (from + i) 0
unfolding window
get_d_window from n w i h = rw (get_or-take n (drop from w) i 0, get_or-drop from w i 0)

-- two windows with the same words are the same
pub window_same : (from from' n : ℕ) (w w' : List ℕ) → from + n ≤ length w → from' + n ≤ length w' →
    ((i : ℕ) → i < n → get_or w (from + i) 0 ≡ get_or w' (from' + i) 0) → window from n w ≡ window from' n w'
window_same from from' n w w' h h' e =
    let l : length (window from n w) ≡ n = length_window from n w h in
    let l' : length (window from' n w') ≡ n = length_window from' n w' h' in
    ext_get_or 0 (window from n w) (window from' n w') (omega arith)
    (λ i k. get_d_window from n w i (omega arith) ∙ e i (omega arith) ∙ sym (get_d_window from' n w' i (omega arith)))

-- as long, and with the same words from `low` up to `high`
pub record Same (low high : ℕ) (w w' : List ℕ) : Type 0 where
  pub long : length w' ≡ length w
  pub word : (i : ℕ) → low ≤ i → i < high → get_or w' i 0 ≡ get_or w i 0

pub same_self : {low high : ℕ} (w : List ℕ) → Same low high w w
same_self w = record { long = refl; word = λ i l h. refl }

pub same_trans : {low high : ℕ} {w w' w'' : List ℕ} → Same low high w w' → Same low high w' w'' → Same low high w w''
same_trans s t = record { long = t.long ∙ s.long; word = λ i l h. t.word i l h ∙ s.word i l h }

-- no place from `from` up to `to` lies from `low` up to `high`
abbrev pub Outside : (from to low high : ℕ) → Type 0
Outside from to low high = (i : ℕ) → from ≤ i → i < to → low ≤ i → i < high → ⊥

-- a store elsewhere
pub set_same : {low high : ℕ} (w : List ℕ) (i v : ℕ) → (low ≤ i → i < high → ⊥) → Same low high w (set w i v)
set_same w i v outside = record {
  long = length-set w i v;
  word = λ j l h. get_or-set_other w i j v 0 (λ e. outside (omega arith) (omega arith));
}

pub same_window : {low high : ℕ} {w w' : List ℕ} → Same low high w w' → (from n : ℕ) → low ≤ from → from + n ≤ high → from + n ≤ length w →
    window from n w' ≡ window from n w
same_window {w = w} {w' = w'} s from n l h fits =
    let e : length w' ≡ length w = s.long in
    window_same from from n w' w (omega arith) fits (λ i k. s.word (from + i) (omega arith) (omega arith))
