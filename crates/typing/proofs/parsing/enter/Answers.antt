use Rattle.typing.proofs.Walked.{leaf_step, parts_step, waiting_small}
use Rattle.typing.proofs.Piles.{part_alike}
use borrow.Rule.Slice.PartMut.{same_len_mid}
use lib.ListN.{length}
use Prim.Native.Nat.{◌-◌}
use mathlib.Core.Path.{sym, ap, ◌∙◌}
use Rattle.table.specs.Kinds.{kind_of}
use native.Mathlib.Omega.{arith}
use Rattle.typing.proofs.parsing.enter.Goals as goal

pub returns-then-not-has_parts : goal.returns-then-not-has_parts
returns-then-not-has_parts c = leaf_step c.requires (same_len_mid c.args.top (length c.args.pile.now - c.args.top) c.args.pile.now c.leaf-left.new.pile c.leaf-left.auto.pile) (part_alike c.args.pile.now c.leaf-left.new.pile c.args.top (length c.args.pile.now - c.args.top) c.requires.piled.room) c.leaf-left.ensures

pub packed-requires : goal.packed-requires
packed-requires c = rw (c.work_of.ensures, c.node_word-a.ensures, c.node_word-b.ensures) (waiting_small c.requires (c.from-kind.ensures ∙ ap kind_of c.kind_at.ensures) (sym c.has_parts.ensures ∙ c.if-not-has_parts.false))

pub returns : goal.returns
returns c = rw (c.first_part.ensures, c.packed.ensures, c.work_of.ensures, c.node_word-a.ensures, c.node_word-b.ensures) (parts_step c.requires (c.from-kind.ensures ∙ ap kind_of c.kind_at.ensures) (sym c.has_parts.ensures ∙ c.if-not-has_parts.false) (omega arith) (omega (arith, c.node_word-a.type_inv, c.node_word-a.ensures)))
