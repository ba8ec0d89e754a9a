use Rattle.expressions.proofs.Givens.{truth_is}
use Rattle.expressions.proofs.results.truth.Goals as goal

pub returns : goal.returns
returns c = rw c.from.ensures (truth_is c.args.b)
