use Rattle.exports.specs.Boundary.{with_record}
use mathlib.Core.Path.{ap, ◌∙◌}
use Rattle.exports.proofs.styrmflo_bench.Goals as goal

pub returns : goal.returns
returns c = record { leaves = c.bench-answer.ensures.leaves; gives = c.put_record.ensures ∙ ap (with_record c.args.twelve.now) c.bench-answer.ensures.gives }
