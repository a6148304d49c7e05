use Rattle.std.proofs.Common.{◌≡◌, ◌++◌, drop}
use Rattle.facet_hull.specs.Facets.{polynomials}
use Rattle.facet_hull.proofs.finding.polynomials.Given as goal

abbrev pub invariant-loop-form : goal.invariant-loop-form
invariant-loop-form l = l.polys ++ polynomials l.variables (drop l.form-index l.forms) ≡ polynomials l.variables l.forms
