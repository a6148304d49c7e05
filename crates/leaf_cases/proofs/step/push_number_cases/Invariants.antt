use Rattle.std.proofs.Common.{◌≡◌, ◌++◌, map, drop}
use Rattle.leaf_cases.specs.Steps.{with_number}
use Rattle.leaf_cases.proofs.step.push_number_cases.Given as goal

abbrev pub invariant-loop-case : goal.invariant-loop-case
invariant-loop-case l = l.made ++ map (with_number l.value) (drop l.case-index l.cases) ≡ l.initial.made ++ map (with_number l.value) l.cases
