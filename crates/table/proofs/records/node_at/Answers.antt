use mir.Facts.{to_z-of_z}
use Rattle.table.proofs.Numbers.{node_read}
use Rattle.table.specs.declared.kinds.Kind.TheVariants as K
use Rattle.table.proofs.records.node_at.Goals as goal

pub returns-in-Unknown : goal.returns-in-Unknown
returns-in-Unknown c = node_read c.args.words.now c.args.k c.kind_at.ensures c.from.ensures K.Unknown c.in-Unknown.is

pub returns-in-Empty : goal.returns-in-Empty
returns-in-Empty c = node_read c.args.words.now c.args.k c.kind_at.ensures c.from.ensures K.Empty c.in-Empty.is

pub returns-in-Terminal : goal.returns-in-Terminal
returns-in-Terminal c = rw c.node_word-a.ensures (node_read c.args.words.now c.args.k c.kind_at.ensures c.from.ensures K.Terminal c.in-Terminal.is)

pub returns-in-Sequence : goal.returns-in-Sequence
returns-in-Sequence c = rw (c.node_word-a.ensures, c.node_word-b.ensures) (node_read c.args.words.now c.args.k c.kind_at.ensures c.from.ensures K.Sequence c.in-Sequence.is)

pub returns-in-Choice : goal.returns-in-Choice
returns-in-Choice c = rw (c.node_word-a.ensures, c.node_word-b.ensures) (node_read c.args.words.now c.args.k c.kind_at.ensures c.from.ensures K.Choice c.in-Choice.is)

pub returns-in-Repeat : goal.returns-in-Repeat
returns-in-Repeat c = rw c.node_word-a.ensures (node_read c.args.words.now c.args.k c.kind_at.ensures c.from.ensures K.Repeat c.in-Repeat.is)

pub returns-in-Not : goal.returns-in-Not
returns-in-Not c = rw c.node_word-a.ensures (node_read c.args.words.now c.args.k c.kind_at.ensures c.from.ensures K.Not c.in-Not.is)

pub returns-in-Call : goal.returns-in-Call
returns-in-Call c = cc (node_read c.args.words.now c.args.k c.kind_at.ensures c.from.ensures K.Call c.in-Call.is)

pub returns-in-Bind : goal.returns-in-Bind
returns-in-Bind c = rw (c.node_word-a.ensures, c.node_word-b.ensures) (node_read c.args.words.now c.args.k c.kind_at.ensures c.from.ensures K.Bind c.in-Bind.is)

pub returns-in-Update : goal.returns-in-Update
returns-in-Update c = rw (c.node_word-a.ensures, c.node_word-b.ensures) (node_read c.args.words.now c.args.k c.kind_at.ensures c.from.ensures K.Update c.in-Update.is)

pub returns-in-Constraint : goal.returns-in-Constraint
returns-in-Constraint c = rw c.node_word-a.ensures (node_read c.args.words.now c.args.k c.kind_at.ensures c.from.ensures K.Constraint c.in-Constraint.is)

pub returns-in-Bool : goal.returns-in-Bool
returns-in-Bool c = rw c.node_word-a.ensures (node_read c.args.words.now c.args.k c.kind_at.ensures c.from.ensures K.Bool c.in-Bool.is)

pub returns-in-Integer : goal.returns-in-Integer
returns-in-Integer c = rw (to_z-of_z (record { sfits = c.signed_of.type_inv }), c.signed_of.ensures, c.node_word-a.ensures, c.node_word-b.ensures) (node_read c.args.words.now c.args.k c.kind_at.ensures c.from.ensures K.Integer c.in-Integer.is)

pub returns-in-Text : goal.returns-in-Text
returns-in-Text c = rw (c.node_word-a.ensures, c.node_word-b.ensures) (node_read c.args.words.now c.args.k c.kind_at.ensures c.from.ensures K.Text c.in-Text.is)

pub returns-in-Slot : goal.returns-in-Slot
returns-in-Slot c = rw c.node_word-a.ensures (node_read c.args.words.now c.args.k c.kind_at.ensures c.from.ensures K.Slot c.in-Slot.is)

pub returns-in-Add : goal.returns-in-Add
returns-in-Add c = rw (c.node_word-a.ensures, c.node_word-b.ensures) (node_read c.args.words.now c.args.k c.kind_at.ensures c.from.ensures K.Add c.in-Add.is)

pub returns-in-Subtract : goal.returns-in-Subtract
returns-in-Subtract c = rw (c.node_word-a.ensures, c.node_word-b.ensures) (node_read c.args.words.now c.args.k c.kind_at.ensures c.from.ensures K.Subtract c.in-Subtract.is)

pub returns-in-Multiply : goal.returns-in-Multiply
returns-in-Multiply c = rw (c.node_word-a.ensures, c.node_word-b.ensures) (node_read c.args.words.now c.args.k c.kind_at.ensures c.from.ensures K.Multiply c.in-Multiply.is)

pub returns-in-Divide : goal.returns-in-Divide
returns-in-Divide c = rw (c.node_word-a.ensures, c.node_word-b.ensures) (node_read c.args.words.now c.args.k c.kind_at.ensures c.from.ensures K.Divide c.in-Divide.is)

pub returns-in-Equal : goal.returns-in-Equal
returns-in-Equal c = rw (c.node_word-a.ensures, c.node_word-b.ensures) (node_read c.args.words.now c.args.k c.kind_at.ensures c.from.ensures K.Equal c.in-Equal.is)

pub returns-in-Greater : goal.returns-in-Greater
returns-in-Greater c = rw (c.node_word-a.ensures, c.node_word-b.ensures) (node_read c.args.words.now c.args.k c.kind_at.ensures c.from.ensures K.Greater c.in-Greater.is)

pub returns-in-And : goal.returns-in-And
returns-in-And c = rw (c.node_word-a.ensures, c.node_word-b.ensures) (node_read c.args.words.now c.args.k c.kind_at.ensures c.from.ensures K.And c.in-And.is)

pub returns-in-Or : goal.returns-in-Or
returns-in-Or c = rw (c.node_word-a.ensures, c.node_word-b.ensures) (node_read c.args.words.now c.args.k c.kind_at.ensures c.from.ensures K.Or c.in-Or.is)

pub returns-in-Negation : goal.returns-in-Negation
returns-in-Negation c = rw c.node_word-a.ensures (node_read c.args.words.now c.args.k c.kind_at.ensures c.from.ensures K.Negation c.in-Negation.is)
