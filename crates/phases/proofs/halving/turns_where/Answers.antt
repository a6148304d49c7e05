use Rattle.std.proofs.Common.{subst, sym}
use Rattle.transition_formula.specs.Transition.{Transition, AreSolvable}
use Rattle.phases.proofs.BodiesWhere.{where-solvable}
use Rattle.phases.proofs.halving.turns_where.Goals as goal

pub settle-requires : goal.settle-requires
settle-requires g c = subst (λ (f : Transition). AreSolvable f.cases) (sym c.in_ok-begun.ensures) (where-solvable c.args.body.now c.args.poly.now c.requires)
