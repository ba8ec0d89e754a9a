-- The part that a Text's bytes are handed out as: its bytes and its place, and how equality of bytes goes along two slices. Assumes nothing.
use mathlib.Core.Path.{◌≡◌, refl}
use mathlib.Core.Bool.{Bool, true, false, cond}
use mathlib.Core.List.{List, [], ◌∷◌}
use Prim.Native.Nat.{ℕ, ◌+◌, ◌-◌, ◌≤◌, ◌<◌}
use native.Mathlib.Omega.{arith}
use borrow.Author.Tests.{le-leb, lt-leb}
use Rattle.std.proofs.Common.{nat_eq}
use lib.Pointwise.{pointwise}
use lib.ListN.{length, take, drop}
use denote.Ref.{Bor}
use Rattle.laws.specs.Same.{same}
use Rattle.grammar.specs.declared.Span.{Span}
use Rattle.grammar.specs.declared.Value.{Value}
use Rattle.grammar.specs.declared.Value.TheVariants as Val
use Rattle.grammar.specs.Values.{span_bytes, text_bytes}
use Rattle.values.specs.Texts.{into, span_place, text_place}

-- these bytes at this place are what `text_bytes` owes
abbrev pub HandedOut : (message literals : Bor (List ℕ)) → Value → List ℕ → ℕ × ℕ → Type 0
HandedOut m l v bytes place = (bytes ≡ text_bytes m.now l.now v) × (place ≡ text_place m l v)

abbrev cut : Bor (List ℕ) → Span → List ℕ
cut x s = take (s.start + s.length - s.start) (drop s.start x.now)

module _ (m l : Bor (List ℕ)) {v : Value} (s : Span) (e : v ≡ Val.Text s) where
  as_long : s.start + s.length - s.start ≡ s.length
  as_long = omega arith

  in_literals : s.literal ≡ true → s.start + s.length ≤ length l.now → HandedOut m l v (cut l s) (into l s.start)
  unfolding text_bytes span_bytes text_place span_place
  in_literals t h =
      let f = le-leb (s.start + s.length) (length l.now) h in
      (rw (e, t, f, as_long), rw (e, t, f))

  in_message : s.literal ≡ false → s.start + s.length ≤ length m.now → HandedOut m l v (cut m s) (into m s.start)
  unfolding text_bytes span_bytes text_place span_place
  in_message t h =
      let f = le-leb (s.start + s.length) (length m.now) h in
      (rw (e, t, f, as_long), rw (e, t, f))

  past_literals : s.literal ≡ true → length l.now < s.start + s.length → HandedOut m l v [] m.ref_ptr
  unfolding text_bytes span_bytes text_place span_place
  past_literals t h = let f = lt-leb (s.start + s.length) (length l.now) h in (rw (e, t, f), rw (e, t, f))

  past_message : s.literal ≡ false → length m.now < s.start + s.length → HandedOut m l v [] m.ref_ptr
  unfolding text_bytes span_bytes text_place span_place
  past_message t h = let f = lt-leb (s.start + s.length) (length m.now) h in (rw (e, t, f), rw (e, t, f))

  -- from `start` on and `n` bytes long, of the slice that the Text names
  module _ (part : Bor (List ℕ)) (start n : ℕ) (named : part ≡ cond s.literal l m) (at : start ≡ s.start) (long : n ≡ s.length) where
    pub within_part : start + n ≤ length part.now → HandedOut m l v (take (start + n - start) (drop start part.now)) (into part start)
    within_part h = by_slice s.literal refl
      where
        by_slice : (t : Bool) → s.literal ≡ t → HandedOut m l v (take (start + n - start) (drop start part.now)) (into part start)
        by_slice true t = rw (at, long, named, t) (in_literals t (rw (at, long, named, t) at h))
        by_slice false t = rw (at, long, named, t) (in_message t (rw (at, long, named, t) at h))

    pub past_part : length part.now < start + n → HandedOut m l v [] m.ref_ptr
    past_part h = by_slice s.literal refl
      where
        by_slice : (t : Bool) → s.literal ≡ t → HandedOut m l v [] m.ref_ptr
        by_slice true t = past_literals t (rw (at, long, named, t) at h)
        by_slice false t = past_message t (rw (at, long, named, t) at h)

-- two tests of equality are one
pub same_pointwise : (xs ys : List ℕ) → pointwise nat_eq xs ys ≡ same xs ys
unfolding same
same_pointwise [] [] = refl
same_pointwise [] (y ∷ ys) = refl
same_pointwise (x ∷ xs) [] = refl
same_pointwise (x ∷ xs) (y ∷ ys) = rw (same_pointwise xs ys)

-- an absent or other value
pub no_text : (m l : Bor (List ℕ)) (v : Value) → ((s : Span) → v ≡ Val.Text s → ⊥) → HandedOut m l v [] m.ref_ptr
unfolding text_bytes text_place
no_text m l Val.Absent h = (refl, refl)
no_text m l (Val.Bool b) h = (refl, refl)
no_text m l (Val.Integer n) h = (refl, refl)
no_text m l (Val.Text s) h = absurd (h s refl)
