use Rattle.std.proofs.Common.{subst, sym}
use Rattle.transition_formula.specs.Transition.{Transition}
use Rattle.polyhedra.specs.Laws.{IsBetween}
use Rattle.forward_graphs.proofs.Between.{either-between, same-from, same-to}
use Rattle.forward_graphs.proofs.fitting.either.Goals as goal

pub join-requires-clause-from : goal.join-requires-clause-from
join-requires-clause-from g c = same-from c.args.ends.from.now c.args.ends.to.now c.args.left.now c.args.right.now c.requires.left c.requires.right

pub join-requires-clause-to : goal.join-requires-clause-to
join-requires-clause-to g c = same-to c.args.ends.from.now c.args.ends.to.now c.args.left.now c.args.right.now c.requires.left c.requires.right

pub fitted_formula_within-requires : goal.fitted_formula_within-requires
fitted_formula_within-requires g c =
    subst (λ (f : Transition). IsBetween f c.args.ends.from.now c.args.ends.to.now) (sym c.in_ok-f.ensures.exact)
    (either-between c.args.ends.from.now c.args.ends.to.now c.args.left.now c.args.right.now c.requires.left c.requires.right)
