use Rattle.listing.specs.Listing.{ending}
use borrow.Author.Tests.{eq-eqb, ne_eqb}
use Rattle.listing.proofs.writer.ending_of.Goals as goal

pub returns-then-others-eq0 : goal.returns-then-others-eq0
unfolding ending
returns-then-others-eq0 c = simp (eq-eqb _ _ c.if-others-eq0.true)

pub returns : goal.returns
unfolding ending
returns c = simp (ne_eqb _ _ c.if-others-eq0.false)
