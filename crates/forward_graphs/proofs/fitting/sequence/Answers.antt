use Rattle.std.proofs.Common.{subst, sym}
use Rattle.transition_formula.specs.Transition.{Transition, AreSolvable}
use Rattle.polyhedra.specs.Laws.{IsBetween}
use Rattle.forward_graphs.proofs.Between.{meet, sequence-between, sequence-few, sequence-solvable}
use Rattle.forward_graphs.proofs.fitting.sequence.Goals as goal

pub seq-requires-clause-between : goal.seq-requires-clause-between
seq-requires-clause-between g c = meet c.args.ends.from.now c.args.ends.to.now c.args.first.now c.args.second.now c.requires

pub seq-requires-clause-few : goal.seq-requires-clause-few
seq-requires-clause-few g c = sequence-few c.args.ends.from.now c.args.ends.to.now c.args.first.now c.args.second.now c.requires

pub settled_formula_within-requires-clause-between : goal.settled_formula_within-requires-clause-between
settled_formula_within-requires-clause-between g c =
    subst (λ (f : Transition). IsBetween f c.args.ends.from.now c.args.ends.to.now) (sym c.in_ok-f.ensures.exact)
    (sequence-between c.args.ends.from.now c.args.ends.to.now c.args.first.now c.args.second.now c.requires)

pub settled_formula_within-requires-clause-solvable : goal.settled_formula_within-requires-clause-solvable
settled_formula_within-requires-clause-solvable g c =
    subst (λ (f : Transition). AreSolvable f.cases) (sym c.in_ok-f.ensures.exact)
    (sequence-solvable c.args.ends.from.now c.args.ends.to.now c.args.first.now c.args.second.now c.requires)
