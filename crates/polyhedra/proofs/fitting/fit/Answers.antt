use Rattle.transition_formula.specs.Meaning.{Covers}
use Rattle.polyhedra.specs.Laws.{IsSmall}
use Rattle.polyhedra.proofs.FitLaws.{fitted-covers, fitted-small}
use Rattle.polyhedra.proofs.Results.{result_has}
use Rattle.polyhedra.proofs.fitting.fit.Goals as goal

pub returns-clause-follows : goal.returns-clause-follows
returns-clause-follows g c = c.fitted_formula.ensures

pub returns-clause-covers : goal.returns-clause-covers
returns-clause-covers g c = result_has (λ made. Covers made c.args.f.now) c.fitted_formula.result c.fitted_formula.ensures (fitted-covers c.args.f.now c.args.from.now c.args.to.now c.requires)

pub returns-clause-small : goal.returns-clause-small
returns-clause-small g c = result_has (IsSmall c.args.f.now) c.fitted_formula.result c.fitted_formula.ensures (fitted-small c.args.f.now c.args.from.now c.args.to.now c.requires)
