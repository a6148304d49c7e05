use Rattle.std.proofs.Common.{◌≡◌, ◌++◌, map, drop}
use Rattle.context.specs.Verdicts.{extended_case}
use Rattle.context.proofs.extending.extended_cases.Given as goal

abbrev pub invariant-loop-case : goal.invariant-loop-case
invariant-loop-case l = l.made ++ map (extended_case l.more) (drop l.case-index l.cases) ≡ map (extended_case l.more) l.cases
