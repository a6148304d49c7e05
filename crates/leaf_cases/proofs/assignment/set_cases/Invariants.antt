use Rattle.std.proofs.Common.{◌≡◌, ◌++◌, map, drop}
use Rattle.std.specs.Prelude.{slice_set}
use Rattle.leaf_cases.specs.Guard.{with_posts}
use Rattle.leaf_cases.specs.Steps.{operand}
use Rattle.leaf_cases.proofs.assignment.set_cases.Given as goal

abbrev pub invariant-loop-case : goal.invariant-loop-case
invariant-loop-case l = l.made ++ map (λ case. with_posts (slice_set l.same l.col (operand 0 case)) case) (drop l.case-index l.cases) ≡ map (λ case. with_posts (slice_set l.same l.col (operand 0 case)) case) l.cases
