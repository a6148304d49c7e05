use Rattle.std.proofs.Common.{◌≡◌, ◌++◌, map, drop, take}
use Rattle.leaf_cases.specs.Edges.{posts_with_value}
use Rattle.leaf_cases.specs.Guard.{with_posts}
use Rattle.leaf_cases.specs.Steps.{operand}
use Rattle.leaf_cases.proofs.call.leaving_cases.Given as goal

abbrev pub invariant-loop-case : goal.invariant-loop-case
invariant-loop-case l = l.made ++ map (λ case. with_posts (posts_with_value l.into (operand l.globals case) (take l.globals case.post ++ drop l.globals l.same)) case) (drop l.case-index l.cases) ≡ map (λ case. with_posts (posts_with_value l.into (operand l.globals case) (take l.globals case.post ++ drop l.globals l.same)) case) l.cases
