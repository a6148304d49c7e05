use Rattle.posing.proofs.Steps.{value_has}
use Rattle.polyhedra.specs.Laws.{IsBetween}
use Rattle.forward_graphs.proofs.Between.{settled-between}
use Rattle.forward_graphs.proofs.fitting.settled_formula_within.Goals as goal

pub fitted_formula_within-requires : goal.fitted_formula_within-requires
fitted_formula_within-requires g c =
    value_has (λ made. IsBetween made c.args.ends.from.now c.args.ends.to.now) c.in_ok-settled.ensures.follows
    (settled-between c.args.ends.from.now c.args.ends.to.now c.args.f.now c.requires.between)
