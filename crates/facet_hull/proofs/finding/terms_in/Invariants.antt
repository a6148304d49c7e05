use Rattle.std.proofs.Common.{◌≡◌, ◌++◌, drop, map, true}
use Rattle.linear_terms.specs.Expressions.{or_zero}
use Rattle.polyhedra.specs.Changes.{change}
use Rattle.facet_hull.proofs.finding.terms_in.Given as goal

abbrev pub invariant-loop-v : goal.invariant-loop-v
invariant-loop-v l = l.terms ++ map (λ v. or_zero (change true l.case v)) (drop l.v-index l.variables) ≡ map (λ v. or_zero (change true l.case v)) l.variables
