-- A walk over a tree without recursion: what is still to do stands as numbers in a pile, in the first places of a list, the last of them on top. Each number makes a result
-- of a result; what a walk comes to is what its pile makes of the result of the node that is due. A step keeps what the walk comes to, and weighs less. Assumes nothing.
use Rattle.std.specs.Prelude.{◌≡◌, refl, List, Bool, true, false, cond, ℕ, zero, suc, ◌+◌, ◌*◌, ◌-◌, ◌^◌, ◌<◌, ◌≤◌, get_or, set}
use Rattle.std.proofs.Math.Path.{sym, ap}
use Rattle.std.proofs.Common.{◌∙◌, ⊎_elim, eq-or-lt_of_le, add-one, get_or-set_same, get_or-set_other}
use Rattle.std.proofs.Math.Nat.{two-pow-succ, pow-le-pow_right}
use native.Mathlib.Omega.{arith}
use Rattle.std.proofs.Math.ListN.{length, length-set}

-- what comes of a result, number by number from the top; f takes a number's place, the number and the result
unfoldable pub through : {A : Type 0} → (f : ℕ → ℕ → A → A) → List ℕ → ℕ → A → A
through f pile zero a = a
through f pile (suc d) a = through f pile d (f d (get_or pile d 0) a)

-- the weights of all numbers
unfoldable pub total : (g : ℕ → ℕ → ℕ) → List ℕ → ℕ → ℕ
total g pile zero = 0
total g pile (suc d) = g d (get_or pile d 0) + total g pile d

-- a walk: its pile and how high it is; the result of the node that is due, or the result that was found; and the weight of the node that is due
pub record Walking (A : Type 0) : Type 0 where
  pub pile : List ℕ
  pub top : ℕ
  pub result : A
  pub weight : ℕ

unfoldable pub comes_to : {A : Type 0} → (ℕ → ℕ → A → A) → Walking A → A
comes_to f w = through f w.pile w.top w.result

unfoldable pub weighs : {A : Type 0} → (ℕ → ℕ → ℕ) → Walking A → ℕ
weighs g w = w.weight + total g w.pile w.top

-- a pile of numbers of which something is known
pub record Piled (P : ℕ → ℕ → Type 0) (pile : List ℕ) (d : ℕ) : Type 0 where
  pub room : d ≤ length pile
  pub each : (i : ℕ) → i < d → P i (get_or pile i 0)

-- a step from w to v
pub record Onward {A : Type 0} (f : ℕ → ℕ → A → A) (g : ℕ → ℕ → ℕ) (P : ℕ → ℕ → Type 0) (w v : Walking A) : Type 0 where
  pub long : length v.pile ≡ length w.pile
  pub piled : Piled P v.pile v.top
  pub same : comes_to f v ≡ comes_to f w
  pub less : weighs g v < weighs g w

-- two steps are one
pub onward_again : {A : Type 0} {f : ℕ → ℕ → A → A} {g : ℕ → ℕ → ℕ} {P : ℕ → ℕ → Type 0} {w v u : Walking A} → Onward f g P w v → Onward f g P v u → Onward f g P w u
onward_again p q = record { long = q.long ∙ p.long; piled = q.piled; same = q.same ∙ p.same; less = omega arith }

-- ════ What stands above the pile doesn't matter ════

-- the same numbers below d
abbrev pub Alike : ℕ → List ℕ → List ℕ → Type 0
Alike d pile later = (i : ℕ) → i < d → get_or later i 0 ≡ get_or pile i 0

pub through_alike : {A : Type 0} (f : ℕ → ℕ → A → A) (pile later : List ℕ) (d : ℕ) (a : A) → Alike d pile later → through f later d a ≡ through f pile d a
unfolding through
through_alike f pile later zero a h = refl
through_alike f pile later (suc d) a h =
    rw (h d (omega arith)) (through_alike f pile later d (f d (get_or pile d 0) a) (λ i l. h i (omega arith)))

pub total_alike : (g : ℕ → ℕ → ℕ) (pile later : List ℕ) (d : ℕ) → Alike d pile later → total g later d ≡ total g pile d
unfolding total
total_alike g pile later zero h = refl
total_alike g pile later (suc d) h = rw (h d (omega arith), total_alike g pile later d (λ i l. h i (omega arith)))

-- a result that no number changes is what the walk comes to
pub unmoved : {A : Type 0} (f : ℕ → ℕ → A → A) (pile : List ℕ) (d : ℕ) (a : A) → ((i x : ℕ) → f i x a ≡ a) → through f pile d a ≡ a
unfolding through
unmoved f pile zero a h = refl
unmoved f pile (suc d) a h = rw (h d (get_or pile d 0)) (unmoved f pile d a h)

-- ════ A number is put on top, or in the place of the topmost ════

module _ (pile : List ℕ) (d x : ℕ) (fits : d < length pile) where
  below : Alike d pile (set pile d x)
  below i h = get_or-set_other pile d i x 0 (λ e. omega arith)

  through_put : {A : Type 0} (f : ℕ → ℕ → A → A) (a : A) → through f (set pile d x) (suc d) a ≡ through f pile d (f d x a)
  unfolding through
  through_put f a = rw (get_or-set_same pile d x 0 fits) (through_alike f pile (set pile d x) d (f d x a) below)

  total_put : (g : ℕ → ℕ → ℕ) → total g (set pile d x) (suc d) ≡ g d x + total g pile d
  unfolding total
  total_put g = rw (get_or-set_same pile d x 0 fits, total_alike g pile (set pile d x) d below)

  piled_put : (P : ℕ → ℕ → Type 0) → ((i : ℕ) → i < d → P i (get_or pile i 0)) → P d x → Piled P (set pile d x) (suc d)
  piled_put P each top = record {
    room = omega (arith, length-set pile d x);
    each = λ i h. ⊎_elim
        (λ (e : i ≡ d). rw (e, get_or-set_same pile d x 0 fits) top)
        (λ (l : i < d). rw (below i l) (each i l))
        (eq-or-lt_of_le (let g : i ≤ d = omega arith in g));
  }

-- ════ The topmost number ════

abbrev pub under : {A : Type 0} → Walking A → ℕ
under w = w.top - 1

abbrev pub topmost : {A : Type 0} → Walking A → ℕ
topmost w = get_or w.pile (under w) 0

module _ {A : Type 0} (w : Walking A) (some : 0 < w.top) where
  height : w.top ≡ suc (under w)
  height = omega arith

  through_topmost : (f : ℕ → ℕ → A → A) → comes_to f w ≡ through f w.pile (under w) (f (under w) (topmost w) w.result)
  unfolding comes_to through
  through_topmost f = ap (λ (n : ℕ). through f w.pile n w.result) height

  total_topmost : (g : ℕ → ℕ → ℕ) → weighs g w ≡ w.weight + (g (under w) (topmost w) + total g w.pile (under w))
  unfolding weighs total
  total_topmost g = ap (λ (n : ℕ). w.weight + total g w.pile n) height

-- ════ The steps of every walk ════

module _ {A : Type 0} {f : ℕ → ℕ → A → A} {g : ℕ → ℕ → ℕ} {P : ℕ → ℕ → Type 0} (w : Walking A) (piled : Piled P w.pile w.top) where
  -- the node that was due has its result; the place above the pile may have been used
  pub answered : {later : List ℕ} {a : A} → length later ≡ length w.pile → Alike w.top w.pile later → a ≡ w.result → 0 < w.weight
      → Onward f g P w (record { pile = later; top = w.top; result = a; weight = 0 })
  unfolding comes_to weighs
  answered {later} {a} long alike same less =
      record {
        long = long;
        piled = record { room = omega (arith, piled.room); each = λ i h. rw (alike i h) (piled.each i h) };
        same = through_alike f w.pile later w.top a alike ∙ ap (through f w.pile w.top) same;
        less = rw (total_alike g w.pile later w.top alike) (omega arith);
      }

  -- it came nearer to its result
  pub nearer : {a : A} {m : ℕ} → a ≡ w.result → m < w.weight → Onward f g P w (record { pile = w.pile; top = w.top; result = a; weight = m })
  unfolding comes_to weighs
  nearer same less = record { long = refl; piled = piled; same = ap (through f w.pile w.top) same; less = omega arith }

  -- the node that was due goes to work, as x, and a part of it is due
  pub opened : {x m : ℕ} {a : A} → w.top < length w.pile → P w.top x → f w.top x a ≡ w.result → m + g w.top x < w.weight
      → Onward f g P w (record { pile = set w.pile w.top x; top = w.top + 1; result = a; weight = m })
  unfolding comes_to weighs
  opened {x} {m} {a} fits known same less =
      rw (add-one w.top) record {
        long = length-set w.pile w.top x;
        piled = piled_put w.pile w.top x fits P piled.each known;
        same = through_put w.pile w.top x fits f a ∙ ap (through f w.pile w.top) same;
        less = rw (total_put w.pile w.top x fits g) (omega arith);
      }

  -- a result was found, and goes to the topmost number
  module _ (some : 0 < w.top) where
    -- the topmost number goes, and its result is found, or a part of it is due
    pub closed : {m : ℕ} {a : A} → a ≡ f (under w) (topmost w) w.result → m < w.weight + g (under w) (topmost w)
        → Onward f g P w (record { pile = w.pile; top = under w; result = a; weight = m })
    unfolding comes_to weighs
    closed {m} {a} same less = record {
      long = refl;
      piled = record { room = omega (arith, piled.room); each = λ i h. piled.each i (omega arith) };
      same = ap (through f w.pile (under w)) same ∙ sym (through_topmost w some f);
      less = rw (total_topmost w some g) (omega arith);
    }

    -- another number takes its place, and another part is due
    pub turned : {x m : ℕ} {a : A} → P (under w) x → f (under w) x a ≡ f (under w) (topmost w) w.result → m + g (under w) x < w.weight + g (under w) (topmost w)
        → Onward f g P w (record { pile = set w.pile (under w) x; top = w.top; result = a; weight = m })
    unfolding comes_to weighs
    turned {x} {m} {a} known same less =
        let room = piled.room in
        let fits : under w < length w.pile = omega arith in
        record {
          long = length-set w.pile (under w) x;
          piled = record {
            room = omega (arith, length-set w.pile (under w) x);
            each = λ i h. (piled_put w.pile (under w) x fits P (λ j l. piled.each j (omega arith)) known).each i (omega arith);
          };
          same = ap (λ (n : ℕ). through f (set w.pile (under w) x) n a) (height w some) ∙ through_put w.pile (under w) x fits f a
              ∙ ap (through f w.pile (under w)) same ∙ sym (through_topmost w some f);
          less = rw (total_topmost w some g, ap (λ (n : ℕ). total g (set w.pile (under w) x) n) (height w some) ∙ total_put w.pile (under w) x fits g) (omega arith);
        }

-- ════ Weights ════

-- of a node that is due, which outweighs two parts with smaller numbers, one due and one that waits
unfoldable pub heavy : ℕ → ℕ
heavy k = 4 * 2 ^ k - 3

-- of a node at work, one of whose parts may wait
unfoldable pub burden : (waits : Bool) → (part : ℕ) → ℕ
burden waits part = cond waits (heavy part + 2) 1

doubles : {a k : ℕ} → a < k → 2 ^ a + 2 ^ a ≤ 2 ^ k
doubles {a} {k} h = let p = two-pow-succ a in let q : 2 ^ suc a ≤ 2 ^ k = pow-le-pow_right (omega arith) h in omega arith

positive : (k : ℕ) → 0 < 2 ^ k
positive zero = omega arith
positive (suc k) = let p = two-pow-succ k in let q = positive k in omega arith

pub heavy_some : (k : ℕ) → 0 < heavy k
unfolding heavy
heavy_some k = let p = positive k in omega arith

pub heavy_two : {a b k : ℕ} → a < k → b < k → heavy a + burden true b < heavy k
unfolding heavy burden
heavy_two {a} {b} {k} h i = let p = doubles h in let q = doubles i in let r = positive a in let s = positive b in omega arith

pub heavy_one : {a k : ℕ} (b : ℕ) → a < k → heavy a + burden false b < heavy k
unfolding heavy burden
heavy_one {a} {k} b h = let p = doubles h in let r = positive a in omega arith

-- the part that waited is due, alone or with its node at work
pub burden_due : (b : ℕ) → heavy b < burden true b
unfolding burden
burden_due b = omega arith

pub burden_again : (a b : ℕ) → heavy b + burden false a < burden true b
unfolding burden
burden_again a b = omega arith

pub burden_some : (waits : Bool) (a : ℕ) → 0 < burden waits a
unfolding burden
burden_some true a = omega arith
burden_some false a = omega arith
