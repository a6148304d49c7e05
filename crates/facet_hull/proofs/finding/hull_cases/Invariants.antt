use Rattle.std.proofs.Common.{◌≡◌, ◌++◌, drop, map, true}
use Rattle.polyhedra.specs.Changes.{changes_in}
use Rattle.facet_hull.proofs.finding.hull_cases.Given as goal

abbrev pub invariant-loop-case : goal.invariant-loop-case
invariant-loop-case l = l.made ++ map (changes_in true l.variables) (drop l.case-index l.cases) ≡ map (changes_in true l.variables) l.cases
