use Rattle.values.specs.Slots.{tag_of}
use Rattle.values.proofs.slots.tag_of.Goals as goal

pub returns-in-Absent : goal.returns-in-Absent
unfolding tag_of
returns-in-Absent c = rw c.in-Absent.is

pub returns-in-Bool : goal.returns-in-Bool
unfolding tag_of
returns-in-Bool c = rw c.in-Bool.is

pub returns-in-Integer : goal.returns-in-Integer
unfolding tag_of
returns-in-Integer c = rw c.in-Integer.is

pub returns-then-s : goal.returns-then-s
unfolding tag_of
returns-then-s c = rw (c.in-Text.is, c.if-s.true)

pub returns-else-s : goal.returns-else-s
unfolding tag_of
returns-else-s c = rw (c.in-Text.is, c.if-s.false)
