use Rattle.std.proofs.Common.{subst, sym}
use Rattle.transition_formula.specs.Transition.{Transition, AreSolvable}
use Rattle.checked_tree.proofs.Between.{sequence-solvable}
use Rattle.checked_tree.proofs.operations.sequence.Goals as goal

pub settled_and_fitted-requires-clause-solvable : goal.settled_and_fitted-requires-clause-solvable
settled_and_fitted-requires-clause-solvable g c =
    subst (λ (f : Transition). AreSolvable f.cases) (sym c.in_ok-f.ensures.exact)
    (sequence-solvable c.args.from.now c.requires.through c.args.to.now c.requires.end c.args.first.now c.args.second.now c.requires.first_is c.requires.second_is)
