use Rattle.machine.proofs.Others.{goes_other}
use Rattle.machine.specs.Drive.{goes_on_in}
use Rattle.stages.specs.declared.Stage.{Stage}
use mathlib.Core.Path.{◌≡◌, sym, ap}
use mathlib.Core.Logic.{⊎_elim}
use Rattle.stages.specs.declared.Stage.TheVariants as S
use Rattle.machine.proofs.steps.goes_on.Goals as goal

pub returns-in-Enter : goal.returns-in-Enter
unfolding goes_on_in
returns-in-Enter c = ap (λ (t : Stage). goes_on_in t c.args.budget c.args.run) (sym c.in-Enter.is)

pub returns-in-Matched : goal.returns-in-Matched
unfolding goes_on_in
returns-in-Matched c =
    ⊎_elim
    (λ (e : c.args.run.stage ≡ S.Matched). ap (λ (t : Stage). goes_on_in t c.args.budget c.args.run) (sym e))
    (λ (e : c.args.run.stage ≡ S.Failed). ap (λ (t : Stage). goes_on_in t c.args.budget c.args.run) (sym e))
    c.in-Matched.is

pub returns-in_default : goal.returns-in_default
returns-in_default c = sym (goes_other c.args.budget c.args.run _ c.in_default.not-Enter c.in_default.not-Matched c.in_default.not-Failed)
