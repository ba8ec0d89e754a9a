-- Where the bytes of a Text are handed out. Assumes nothing.
use Rattle.std.specs.Prelude.{cond, List, ℕ, ◌+◌}
use Rattle.std.specs.Borrow.{Bor}
use Rattle.grammar.specs.declared.Span.{Span}
use Rattle.grammar.specs.declared.Value.{Value}
use Rattle.grammar.specs.declared.Value.TheVariants as Val
use Rattle.grammar.specs.Values.{span_fits}

-- the place n bytes into what a reference points at
abbrev pub into : Bor (List ℕ) → ℕ → ℕ × ℕ
into x n = (x.ref_ptr.0, n + x.ref_ptr.1)

-- 'a part of the message or of the literals, never a copy'; of 'a part that doesn't fit the slice it names', 'at the start of the message'
unfoldable pub span_place : (message literals : Bor (List ℕ)) → Span → ℕ × ℕ
span_place message literals s =
    cond (span_fits message.now literals.now s) (into (cond s.literal literals message) s.start) message.ref_ptr

-- 'of an absent or other value .. at the start of the message'
unfoldable pub text_place : (message literals : Bor (List ℕ)) → Value → ℕ × ℕ
text_place message literals Val.Absent = message.ref_ptr
text_place message literals (Val.Bool b) = message.ref_ptr
text_place message literals (Val.Integer z) = message.ref_ptr
text_place message literals (Val.Text s) = span_place message literals s
