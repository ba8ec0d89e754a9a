use borrow.Author.Rules.{rules}
use Rattle.table.proofs.Numbers.{no_kind}
use Rattle.table.proofs.kinds.KindFromU16.from.Goals as goal

pub returns-in_default : goal.returns-in_default
returns-in_default c = search (no_kind, rules)
