use Rattle.grammar.specs.Values.{operate}
use Rattle.expressions.specs.Meant.{of_integers}
use Rattle.expressions.proofs.results.operate_given.Goals as goal

pub returns-in-Calculate : goal.returns-in-Calculate
unfolding operate of_integers
returns-in-Calculate c = rw c.in-Calculate.is (rw c.in-Calculate.is at c.integers_given.ensures)

pub returns-in-Equal : goal.returns-in-Equal
unfolding operate
returns-in-Equal c = rw c.in-Equal.is c.equal_given.ensures

pub returns-in-Greater : goal.returns-in-Greater
unfolding operate of_integers
returns-in-Greater c = rw c.in-Greater.is (rw c.in-Greater.is at c.integers_given-in-Greater.ensures)

pub returns-in-And : goal.returns-in-And
unfolding operate
returns-in-And c = rw c.in-And.is c.right_given.ensures

pub returns-in-Or : goal.returns-in-Or
unfolding operate
returns-in-Or c = rw c.in-Or.is c.right_given-in-Or.ensures
