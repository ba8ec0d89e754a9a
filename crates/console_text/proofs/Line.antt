-- The plain meaning of the console's input, its second half: the line that is told of an input is the first that no right input has there. Assumes nothing.
use Rattle.std.specs.Prelude.{Option, Some, None, Ok, Err}
use mathlib.Core.Path.{◌≡◌, refl, sym, ap, ◌∙◌, subst}
use mathlib.Core.List.{List, [], ◌++◌}
use Prim.Native.Nat.{ℕ, suc, ◌<◌}
use native.Mathlib.Numerals.{add-one}
use native.Mathlib.Omega.{arith}
use lib.ListN.{drop}
use Rattle.laws.specs.Below.{AllBelow}
use Rattle.grammar.specs.declared.Mode.{Mode}
use Rattle.grammar.specs.declared.Mode.TheVariants.{Bench, Display}
use Rattle.text.specs.Stored.{Taken}
use Rattle.text.specs.Found.{on_number}
use Rattle.listing.specs.Reading.{Lines}
use Rattle.listing.specs.Listing.{listing}
use Rattle.listing.specs.Plain.{first_lines, IsListing}
use Rattle.listing.specs.Plain as Listing
use Rattle.listing.proofs.FirstLines.{Whole, inside, decimal_line, hex_line}
use Rattle.listing.proofs.Stopping.{Line-then, SomeText, some_line, same_wrong, one_first, Told, stops_here, told_after}
use Rattle.listing.proofs.RightLines.{some_listing}
use Rattle.console_text.specs.Asked.{budget_key, message_key, Said, says, wrong_line, on_said, on_mode, Table, Asked, mode_line, budget_at, message_at, table_at, from_fourth, from_third, from_second, said}
use Rattle.console_text.specs.Printed.{number_line}
use Rattle.console_text.specs.Plain.{mode_spelt, message_spelt, spelt, Right, FirstWrong, LineExactly, Judged, is_spelt, is_wrong_at}
use Rattle.console_text.proofs.Tables.{message_found}
use Rattle.console_text.proofs.Exactly.{table_wrong, mode_found, budget_found, mode_back, budget_back, message_back, accepted_exactly}

-- ════ Right inputs, line after line ════

abbrev FromThird : List ℕ → Type 0
FromThird = Line-then message_spelt (AllBelow 256) (λ message. IsListing)

abbrev FromSecond : List ℕ → Type 0
FromSecond = Line-then (number_line budget_key) (λ budget. budget < 4294967296) (λ budget. FromThird)

abbrev FromFirst : List ℕ → Type 0
FromFirst = Line-then mode_spelt (λ mode. Unit {0}) (λ mode. FromSecond)

mode_whole : (mode : Mode) → Unit {0} → Whole 1 (mode_spelt mode)
unfolding first_lines
mode_whole Bench r = record { lines = λ m rest. rw (add-one m) }
mode_whole Display r = record { lines = λ m rest. rw (add-one m) }

budget_whole : (budget : ℕ) → budget < 4294967296 → Whole 1 (number_line budget_key budget)
unfolding number_line
budget_whole budget r = decimal_line (inside budget_key refl) budget

message_whole : (message : List ℕ) → AllBelow 256 message → Whole 1 (message_spelt message)
message_whole message r = hex_line (inside message_key refl) message

-- mode bench, budget 0, an empty message
some_third : SomeText FromThird
some_third = some_line [] tt some_listing

some_second : SomeText FromSecond
some_second = some_line 0 (omega arith) some_third

some_first : SomeText FromFirst
some_first = some_line Bench tt some_second

abbrev IsSpelt : List ℕ → Type 0
IsSpelt input = (a : Asked) × Right a × (input ≡ spelt a)

lines_spelt : (input : List ℕ) → FromFirst input → IsSpelt input
unfolding spelt
lines_spelt input m =
    let b = m.follows in
    let s = b.follows in
    let t = s.follows in (
      record { mode = m.says; budget = b.says; message = s.says; table = record { words = t.table_words; literals = t.table_literals } },
      record { budget_fits = b.right; message_fits = s.right; table = t.table },
      m.is ∙ ap (λ (z : List ℕ). mode_spelt m.says ++ z)
          (b.is ∙ ap (λ (z : List ℕ). number_line budget_key b.says ++ z) (s.is ∙ ap (λ (z : List ℕ). message_spelt s.says ++ z) t.is)),
    )

spelt_lines : (input : List ℕ) → IsSpelt input → FromFirst input
unfolding spelt
spelt_lines input (a, r, e) =
    let four : List ℕ = listing a.table.words a.table.literals in
    let three : List ℕ = message_spelt a.message ++ four in
    record {
      says = a.mode;
      right = tt;
      rest = number_line budget_key a.budget ++ three;
      is = e;
      follows = record {
        says = a.budget;
        right = r.budget_fits;
        rest = three;
        is = refl;
        follows = record {
          says = a.message;
          right = r.message_fits;
          rest = four;
          is = refl;
          follows = record { table_words = a.table.words; table_literals = a.table.literals; table = r.table; is = refl };
        };
      };
    }

-- ════ The line that is told ════

abbrev line_of : {A : Type 0} → Said A → Lines
line_of (says a) = Ok 0
line_of (wrong_line m) = Err m

module _ (input : List ℕ) where
  table_told : (f : Table → Asked) (p : ℕ) → Told IsListing (drop p input) 4 (line_of (on_said wrong_line (λ t. says (f t)) (table_at input p)))
  table_told f p = go (table_at input p) refl
    where
      go : (s : Said Table) → table_at input p ≡ s → Told IsListing (drop p input) 4 (line_of (on_said wrong_line (λ t. says (f t)) s))
      go (says t) e = tt
      go (wrong_line m) e = table_wrong input p m e

  message_told : (mode : Mode) (budget p : ℕ) → Told FromThird (drop p input) 3 (line_of (from_third input mode budget p))
  message_told mode budget p = go (message_at input p).found refl
    where
      from : Option (ℕ × ℕ) → Lines
      from s = line_of (on_number (wrong_line 3) (λ n q. from_fourth input mode budget (message_at input p).numbers q) s)

      go : (s : Option (ℕ × ℕ)) → (message_at input p).found ≡ s → Told FromThird (drop p input) 3 (from s)
      go (Some (n, q)) e =
          let w = message_found input p n q e in
          told_after message_whole input p q 3 (message_at input p).numbers w.all w.part (λ b t r f g. g) (from (Some (n, q)))
          (λ h. table_told (λ t. record { mode = mode; budget = budget; message = (message_at input p).numbers; table = t }) q)
      go None e =
          stops_here message_whole input p 3 some_third (λ m q r s.
          let f = sym e ∙ ap (λ (x : Taken (Option (ℕ × ℕ))). x.found) (message_back input p q m r s) in
          let z : ◌≡◌ {A = ℕ} 0 1 = cc in
          omega arith)

  budget_told : (mode : Mode) (p : ℕ) → Told FromSecond (drop p input) 2 (line_of (from_second input mode p))
  budget_told mode p = go (budget_at input p) refl
    where
      from : Option (ℕ × ℕ) → Lines
      from s = line_of (on_number (wrong_line 2) (λ budget q. from_third input mode budget q) s)

      go : (s : Option (ℕ × ℕ)) → budget_at input p ≡ s → Told FromSecond (drop p input) 2 (from s)
      go (Some (budget, q)) e =
          let w = budget_found input p budget q e in
          told_after budget_whole input p q 2 budget w.fits w.part (λ b t r f g. g) (from (Some (budget, q))) (λ h. message_told mode budget q)
      go None e =
          stops_here budget_whole input p 2 some_second (λ budget q r s.
          let f = sym e ∙ budget_back input p budget q r s in
          let z : ◌≡◌ {A = ℕ} 0 1 = cc in
          omega arith)

  mode_told : Told FromFirst input 1 (line_of (said input))
  unfolding said
  mode_told = go (mode_line input) refl
    where
      from : Option (Mode × ℕ) → Lines
      from s = line_of (on_mode (wrong_line 1) (λ mode p. from_second input mode p) s)

      go : (s : Option (Mode × ℕ)) → mode_line input ≡ s → Told FromFirst input 1 (from s)
      go (Some (mode, q)) e =
          told_after mode_whole input 0 q 1 mode tt (mode_found input mode q e) (λ b t r f g. g) (from (Some (mode, q))) (λ h. budget_told mode q)
      go None e =
          stops_here mode_whole input 0 1 some_first (λ mode q r s.
          let f = sym e ∙ mode_back input mode q s in
          let z : ◌≡◌ {A = ℕ} 0 1 = cc in
          omega arith)

-- ════ Exactly that line ════

-- of a right input, or of what asks for it
module _ {input : List ℕ} {n : ℕ} where
  wrong_asked : Listing.FirstWrong IsSpelt input n → FirstWrong input n
  wrong_asked f =
      let s = f.some_right in
      let a = s.1 in
      record {
        some_right = (a.0, a.1, ap (first_lines n) (sym a.2) ∙ s.2);
        none_right = λ b r. f.none_right (spelt b) (b, r, refl);
      }

  asked_wrong : FirstWrong input n → Listing.FirstWrong IsSpelt input n
  asked_wrong f =
      let s = f.some_right in
      record {
        some_right = (spelt s.0, (s.0, s.1, refl), s.2);
        none_right = λ t a e. f.none_right a.0 a.1 (ap (first_lines (suc n)) (sym a.2) ∙ e);
      }

told : (input : List ℕ) (m : ℕ) → said input ≡ wrong_line m → (n : ℕ) × (m ≡ suc n) × FirstWrong input n
told input m e =
    let t = subst (λ (s : Said Asked). Told FromFirst input 1 (line_of s)) e (mode_told input) in
    (t.0, omega (arith, t.1), wrong_asked (same_wrong lines_spelt spelt_lines t.2))

pub each_judged : (input : List ℕ) → Judged input
each_judged input = go (said input) refl
  where
    go : (s : Said Asked) → said input ≡ s → Judged input
    go (says a) e = let x = (accepted_exactly input a).0 e in is_spelt a x.0 x.1
    go (wrong_line m) e = let t = told input m e in is_wrong_at t.0 t.2

pub line_exactly : LineExactly
line_exactly input n = (there, back)
  where
    there : said input ≡ wrong_line (suc n) → FirstWrong input n
    there e =
        let t = told input (suc n) e in
        let i : t.0 ≡ n = omega (arith, t.1) in
        subst (FirstWrong input) i t.2

    back : FirstWrong input n → said input ≡ wrong_line (suc n)
    back f = go (said input) refl
      where
        go : (s : Said Asked) → said input ≡ s → s ≡ wrong_line (suc n)
        go (says a) e =
            let x = (accepted_exactly input a).0 e in
            absurd (f.none_right a x.0 (ap (first_lines (suc n)) (sym x.1)))
        go (wrong_line m) e =
            let t = told input m e in
            let g = asked_wrong t.2 in
            let h = asked_wrong f in
            let j : t.0 ≡ n = omega (arith, one_first t.0 n g h, one_first n t.0 h g) in
            ap wrong_line (t.1 ∙ ap suc j)
