use Rattle.listing.proofs.Writes.{write_size, write_out, write_done}
use mathlib.Core.Path.{sym, ◌∙◌}
use Rattle.listing.proofs.write.Goals as goal

pub returns-then-not-size_ok : goal.returns-then-not-size_ok
returns-then-not-size_ok c = write_size _ _ _ (sym c.size_ok.ensures ∙ c.if-not-size_ok.true)

pub returns-then-text-length : goal.returns-then-text-length
returns-then-text-length c = write_out _ _ _ (sym c.size_ok.ensures ∙ c.if-not-size_ok.false) c.put_listing-length.ensures c.if-text-length.true

pub returns : goal.returns
returns c = write_done _ _ _ (sym c.size_ok.ensures ∙ c.if-not-size_ok.false) c.put_listing-length.ensures c.if-text-length.false c.put_listing.ensures.stored
