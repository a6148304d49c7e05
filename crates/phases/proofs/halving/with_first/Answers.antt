use Rattle.transition_formula.specs.Transition.{Transition}
use Rattle.posing.proofs.Steps.{value_has}
use Rattle.phases.specs.Words.{AreExcludable}
use Rattle.phases.proofs.SplitHalves.{turns_where-excludable}
use Rattle.phases.proofs.halving.with_first.Goals as goal

pub halves_of-requires : goal.halves_of-requires
halves_of-requires g c =
    value_has (λ (f : Transition). AreExcludable c.args.opposite.now f.cases) c.in_ok-second.ensures
    (turns_where-excludable c.args.body.now c.args.poly.now c.args.opposite.now c.requires.split c.requires.opposite.over)
