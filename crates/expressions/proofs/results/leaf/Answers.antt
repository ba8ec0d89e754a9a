use mathlib.Core.Path.{◌∙◌}
use native.Mathlib.Omega.{arith}
use lib.ListN.{take}
use Rattle.values.specs.Slots.{slots_of}
use Rattle.expressions.proofs.Givens.{leaf_bool, leaf_words, leaf_slot, leaf_other}
use Rattle.expressions.proofs.results.leaf.Goals as goal

pub returns-then-kind-eq19 : goal.returns-then-kind-eq19
returns-then-kind-eq19 c = c.slot_given.ensures ∙ leaf_slot (slots_of (take 32 c.args.slots.now)) c.args.k c.args.a c.args.b c.if-kind-eq19.true

pub returns-then-kind-eq16 : goal.returns-then-kind-eq16
returns-then-kind-eq16 c = c.truth.ensures ∙ leaf_bool (slots_of (take 32 c.args.slots.now)) c.args.k c.args.a c.args.b c.if-kind-eq16.true

pub returns-else-kind-eq16 : goal.returns-else-kind-eq16
returns-else-kind-eq16 c = c.truth-else-kind-eq16.ensures ∙ leaf_other (slots_of (take 32 c.args.slots.now)) c.args.k c.args.a c.args.b c.args.kind (omega arith)

pub returns : goal.returns
returns c = rw (c.from.ensures, c.from-2.ensures, c.from-3.ensures) (leaf_words (slots_of (take 32 c.args.slots.now)) c.args.k c.args.a c.args.b c.args.kind (omega arith) (omega arith) (omega arith))
