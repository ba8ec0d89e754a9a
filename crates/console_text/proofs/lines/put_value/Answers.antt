use Rattle.console_text.specs.Printed.{integer_text}
use mir.Syntax.{w32}
use mir.Facts.{to_z-of_z}
use mathlib.Core.Path.{ap, ◌∙◌}
use Rattle.text.proofs.Writing.{wrote_as}
use Rattle.console_text.proofs.Putting.{value_absent, value_bool, value_integer, value_text_lem}
use Rattle.console_text.proofs.lines.put_value.Goals as goal

pub returns-in-Absent : goal.returns-in-Absent
returns-in-Absent c = wrote_as (value_absent _ _ _ c.in-Absent.is) c.put.ensures

pub returns-in-Bool : goal.returns-in-Bool
returns-in-Bool c = wrote_as (value_bool _ _ _ _ c.in-Bool.is) c.put_bool.ensures

pub returns-in-Integer : goal.returns-in-Integer
returns-in-Integer c = wrote_as (ap integer_text (to_z-of_z {w = w32} (record { sfits = c.in-Integer.known_told-in-Integer-1-own.given.0.1 })) ∙ value_integer _ _ _ _ c.in-Integer.is) c.put_integer.ensures

pub returns-in-Text : goal.returns-in-Text
returns-in-Text c = wrote_as (value_text_lem _ _ _ _ _ c.in-Text.is c.text_bytes.ensures.bytes) c.put_text.ensures
