use mathlib.Core.Path.{◌∙◌}
use native.Mathlib.Omega.{arith}
use Rattle.table.proofs.Decoding.{head_of}
use Rattle.expressions.proofs.Nodes.{seen_none, seen_far, seen_node}
use Rattle.expressions.proofs.walks.seen.Goals as goal

pub returns-then-levels-n : goal.returns-then-levels-n
returns-then-levels-n c = seen_none c.args.words.now c.args.levels c.args.n c.args.k c.if-levels-n.true

pub returns-then-h-gt28 : goal.returns-then-h-gt28
returns-then-h-gt28 c = seen_far c.args.words.now c.args.levels c.args.n c.args.k (omega arith) (c.head_from-h.ensures ∙ head_of c.args.words.now c.args.k c.requires) c.if-h-gt28.true

pub returns : goal.returns
returns c = seen_node c.args.words.now c.args.levels c.args.n c.args.k (omega arith) (c.head_from-h.ensures ∙ head_of c.args.words.now c.args.k c.requires) (omega arith)
