use Rattle.std.proofs.Common.{◌≡◌, ◌++◌, drop, map}
use Rattle.phases.specs.Phases.{case_where}
use Rattle.phases.proofs.halving.cases_where.Given as goal

abbrev pub invariant-loop-case : goal.invariant-loop-case
invariant-loop-case l = l.made ++ map (case_where l.poly) (drop l.case-index l.cases) ≡ map (case_where l.poly) l.cases
