use borrow.Author.Tests.{lt-ltb, le-ltb}
use mathlib.Core.Path.{sym, ◌∙◌}
use Rattle.form.proofs.uses.count_use.Goals as goal

pub returns-then-k-lt1024 : goal.returns-then-k-lt1024
returns-then-k-lt1024 c = rw (← c.from-k.ensures, sym c.is_node.ensures ∙ c.if-is_node.true, lt-ltb _ _ c.if-k-lt1024.true)

pub returns-else-k-lt1024 : goal.returns-else-k-lt1024
returns-else-k-lt1024 c = rw (← c.from-k.ensures, sym c.is_node.ensures ∙ c.if-is_node.true, le-ltb _ _ c.if-k-lt1024.false)
