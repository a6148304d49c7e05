use Rattle.std.proofs.Common.{subst, sym}
use Rattle.transition_formula.specs.Transition.{Transition, AreSolvable}
use Rattle.forward_graphs.proofs.leaves.leaf_formula.Goals as goal

pub settled_formula_within-requires-clause-solvable : goal.settled_formula_within-requires-clause-solvable
settled_formula_within-requires-clause-solvable g c = subst (λ (f : Transition). AreSolvable f.cases) (sym c.leaf_at.ensures) c.requires.leaf.solvable
