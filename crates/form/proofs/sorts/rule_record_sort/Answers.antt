use Rattle.grammar.specs.Form.{rule_sorts}
use Rattle.form.proofs.sorts.rule_record_sort.Goals as goal

pub returns : goal.returns
unfolding rule_sorts
returns c = rw c.from.ensures
