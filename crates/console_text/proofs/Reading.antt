-- The first three lines of the console's input, as they are read. Assumes nothing.
use Rattle.std.specs.Prelude.{Option, Some, None, Err}
use mathlib.Core.Path.{◌≡◌, sym, ◌∙◌}
use mathlib.Core.List.{List, [], ◌++◌}
use Prim.Native.Nat.{ℕ}
use lib.ListN.{drop}
use Rattle.grammar.specs.declared.Mode.{Mode}
use Rattle.grammar.specs.declared.Mode.TheVariants.{Bench, Display}
use Rattle.text.specs.Stored.{taking, Took}
use Rattle.text.proofs.Taking.{nothing_taken}
use Rattle.text.specs.Found.{number, pairs}
use Rattle.listing.specs.Reading.{key_at}
use Rattle.console_text.specs.Asked.{bench_line, display_line, budget_key, message_key, mode_line, budget_at, message_at, from_fourth, said}
use Rattle.console_text.specs.Lent.{readied, ready}

module _ (input : List ℕ) where
  module _ (r : Option ℕ) where
    pub mode_bench : (q : ℕ) → r ≡ key_at input bench_line 0 → r ≡ Some q → Some (Bench, q) ≡ mode_line input
    unfolding mode_line
    mode_bench q e f = rw (sym e ∙ f)

    module _ (s : Option ℕ) where
      pub mode_display : (q : ℕ) → r ≡ key_at input bench_line 0 → r ≡ None → s ≡ key_at input display_line 0 → s ≡ Some q → Some (Display, q) ≡ mode_line input
      unfolding mode_line
      mode_display q e f g h = rw (sym e ∙ f, sym g ∙ h)

      pub mode_wrong : r ≡ key_at input bench_line 0 → r ≡ None → s ≡ key_at input display_line 0 → s ≡ None → None ≡ mode_line input
      unfolding mode_line
      mode_wrong e f g h = rw (sym e ∙ f, sym g ∙ h)

  module _ (p : ℕ) (r : Option ℕ) where
    pub budget_wrong : r ≡ key_at input budget_key p → r ≡ None → None ≡ budget_at input p
    unfolding budget_at
    budget_wrong e f = rw (sym e ∙ f)

    pub budget_key_lem : (q : ℕ) → r ≡ key_at input budget_key p → r ≡ Some q → number 10 4294967295 q (drop q input) ≡ budget_at input p
    unfolding budget_at
    budget_key_lem q e f = rw (sym e ∙ f)

    pub message_wrong : r ≡ key_at input message_key p → r ≡ None → taking [] None ≡ message_at input p
    unfolding message_at
    message_wrong e f = rw (sym e ∙ f)

    pub message_key_lem : (q : ℕ) → r ≡ key_at input message_key p → r ≡ Some q → pairs 0 q (drop q input) ≡ message_at input p
    unfolding message_at
    message_key_lem q e f = rw (sym e ∙ f)

-- ════ One line after another ════

module _ (input : List ℕ) (message words literals : List ℕ) {r : Option (Mode × ℕ)} (e : r ≡ mode_line input) where
  pub first_wrong : r ≡ None → readied (Err 1) message words literals ≡ ready (said input) message words literals
  unfolding said ready
  first_wrong f = rw (sym e ∙ f)

  module _ (mode : Mode) (a : ℕ) (f : r ≡ Some (mode, a)) {s : Option (ℕ × ℕ)} (g : s ≡ budget_at input a) where
    pub second_wrong : s ≡ None → readied (Err 2) message words literals ≡ ready (said input) message words literals
    unfolding said ready
    second_wrong h = rw (sym e ∙ f, sym g ∙ h)

    -- the message, judged by an empty slice
    module _ (budget b : ℕ) (h : s ≡ Some (budget, b)) {t : Option (ℕ × ℕ)} {x : List ℕ} (w : Took (message_at input b) [] 0 t x) where
      pub third_wrong : t ≡ None → readied (Err 3) (x ++ message) words literals ≡ ready (said input) message words literals
      unfolding said ready
      third_wrong i = rw (sym e ∙ f, sym g ∙ h, sym w.found_is ∙ i, nothing_taken w message)

      pub from_fourth_lem : {n c : ℕ} → t ≡ Some (n, c)
          → ready (from_fourth input mode budget (message_at input b).numbers c) (x ++ message) words literals ≡ ready (said input) message words literals
      unfolding said
      from_fourth_lem i = rw (sym e ∙ f, sym g ∙ h, sym w.found_is ∙ i, nothing_taken w message)
