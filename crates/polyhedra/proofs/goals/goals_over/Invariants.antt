use Rattle.std.proofs.Common.{◌≡◌, ◌++◌, map, drop}
use Rattle.polyhedra.specs.Kept.{goal_over}
use Rattle.polyhedra.proofs.goals.goals_over.Given as goal

abbrev pub invariant-loop-case : goal.invariant-loop-case
invariant-loop-case l = l.goals ++ map goal_over (drop l.case-index l.cases) ≡ map goal_over l.cases
